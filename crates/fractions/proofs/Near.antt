-- A fraction between two whole numbers: x lies from a - b up to a - b + e, for naturals a, b and e. Sums and differences
-- of such fractions, and the tonnes that follow from one.
-- Assumes nothing.
use Prim.Native.Nat.{ℕ, zero, suc, ◌+◌, ◌*◌, ◌≤◌, ◌<◌}
use mathlib.Core.Path.{◌≡◌, subst₂}
use native.Mathlib.Nat.{mul-le-mul_right, mul-pos, le_step, lt-suc_self}
use native.Mathlib.Omega.{arith}
use lib.IntN.{ℤ, pos, ◌+ℤ◌, ◌*ℤ◌}
use Rattle.rows.specs.Rows.{sum_to}
use Rattle.rows.proofs.Sums.{sum_to_add}
use Rattle.balance.specs.Balance.{reduction_of, equation1, tonne, tonnes_of}
use Rattle.protocol.proofs.Integers.{Is, Floor, above, below, is_self, is_pos, is_add, is_sub, is_minus, is_times, is_le, is_lt}
use Rattle.balance.proofs.Laws.{tonnes_floor}
use Rattle.fractions.specs.Fraction.{Fraction, as_fraction, ◌+ᶠ◌, ◌-ᶠ◌, sumᶠ}
use Rattle.fractions.specs.Fair.{Fair}

pub record Near (x : Fraction) (a b e : ℕ) : Type 0 where
  pub above_zero : 0 < x.den
  pub low : a * x.den + below x.num ≤ above x.num + b * x.den
  pub high : above x.num + b * x.den ≤ (a + e) * x.den + below x.num

-- whatever two naturals the numerator is the difference of
pub near_is : (x : Fraction) (p m : ℕ) {a b e : ℕ} → 0 < x.den → Is x.num p m
    → a * x.den + m ≤ p + b * x.den → p + b * x.den ≤ (a + e) * x.den + m → Near x a b e
near_is x p m h i l u =
    record { above_zero = h; low = let f = i.is in omega arith; high = let f = i.is in omega arith }

-- bounds of two fractions, multiplied across
across : (a b c d n m x y z w : ℕ) → a * n + x ≤ y + b * n → c * m + z ≤ w + d * m
    → (a + c) * (n * m) + (x * m + z * n) ≤ (y * m + w * n) + (b + d) * (n * m)
across a b c d n m x y z w h l =
    let f = mul-le-mul_right m h in
    let g = mul-le-mul_right n l in
    omega arith

across_up : (a b e c d f n m x y z w : ℕ) → y + b * n ≤ (a + e) * n + x → w + d * m ≤ (c + f) * m + z
    → (y * m + w * n) + (b + d) * (n * m) ≤ ((a + c) + (e + f)) * (n * m) + (x * m + z * n)
across_up a b e c d f n m x y z w h l =
    let f = mul-le-mul_right m h in
    let g = mul-le-mul_right n l in
    omega arith

pub near_sum : {x y : Fraction} {a b e c d f : ℕ} → Near x a b e → Near y c d f → Near (x +ᶠ y) (a + c) (b + d) (e + f)
near_sum {x} {y} {a} {b} {e} {c} {d} {f} p q =
    near_is (x +ᶠ y) _ _ (mul-pos p.above_zero q.above_zero)
    (is_add (x.num *ℤ pos y.den) (y.num *ℤ pos x.den) (is_times x.num y.den (is_self x.num)) (is_times y.num x.den (is_self y.num)))
    (across a b c d x.den y.den (below x.num) (above x.num) (below y.num) (above y.num) p.low q.low)
    (across_up a b e c d f x.den y.den (below x.num) (above x.num) (below y.num) (above y.num) p.high q.high)

pub near_zero : Near (as_fraction (pos 0)) 0 0 0
near_zero = record { above_zero = omega arith; low = omega arith; high = omega arith }

pub near_all : (n : ℕ) (x : ℕ → Fraction) (a b e : ℕ → ℕ) → ((k : ℕ) → k < n → Near (x k) (a k) (b k) (e k))
    → Near (sumᶠ n x) (sum_to n a) (sum_to n b) (sum_to n e)
near_all zero x a b e h = near_zero
near_all (suc n) x a b e h = near_sum (near_all n x a b e (λ k l. h k (le_step l))) (h n (lt-suc_self n))

minus_low : (a b f n x y : ℕ) → a * n + x ≤ y + b * n → a * (n * 1) + (x * 1 + f * n) ≤ (y * 1 + 0 * n) + (b + f) * (n * 1)
minus_low a b f n x y h = omega arith

minus_high : (a b e f n x y : ℕ) → y + b * n ≤ (a + e) * n + x → (y * 1 + 0 * n) + (b + f) * (n * 1) ≤ (a + e) * (n * 1) + (x * 1 + f * n)
minus_high a b e f n x y h = omega arith

-- less a whole number
pub near_minus : {x : Fraction} {a b e : ℕ} (f : ℕ) → Near x a b e → Near (x -ᶠ as_fraction (pos f)) a (b + f) e
near_minus {x} {a} {b} {e} f p =
    near_is (x -ᶠ as_fraction (pos f)) _ _ (mul-pos p.above_zero (let h : 0 < 1 = omega arith in h))
    (is_minus (x.num *ℤ pos 1) (pos f *ℤ pos x.den) (is_times x.num 1 (is_self x.num)) (is_times (pos f) x.den (is_pos f)))
    (minus_low a b f x.den (below x.num) (above x.num) p.low)
    (minus_high a b e f x.den (below x.num) (above x.num) p.high)

-- ---- tonnes

-- t * k at most a - b, times the denominator n, beside the fraction's own lower bound
never : (a b t s k n x y : ℕ) → t * k + b ≤ s * k + a → a * n + x ≤ y + b * n → t * k * n + x * 1 ≤ y * 1 + s * k * n
never a b t s k n x y h l = let f = mul-le-mul_right n h in omega arith

less : (a b e t s k n x y : ℕ) → 0 < n → s * k + a < t * k + b + k → y + b * n ≤ (a + e) * n + x
    → y * 1 + (s * k + 0) * n < (t * k + (k + e)) * n + x * 1
less a b e t s k n x y z h l = let f = mul-le-mul_right n h in omega arith

-- tonnes that are rounded towards minus infinity from a - b
pub near_fair : {x : Fraction} {a b e : ℕ} (z : ℤ) → Near x a b e → Is z a b → Fair x (tonnes_of z) e
near_fair {x} {a} {b} {e} z p i =
    record {
      proper = record { above_zero = p.above_zero };
      never_above = record {
        across =
            is_le (t *ℤ pos tonne *ℤ pos x.den) (x.num *ℤ pos 1)
            (is_times (t *ℤ pos tonne) x.den (is_times t tonne (is_self t))) (is_times x.num 1 (is_self x.num))
            (never a b (above t) (below t) tonne x.den (below x.num) (above x.num) f.low p.low);
      };
      short = record {
        across =
            is_lt (x.num *ℤ pos 1) ((t *ℤ pos tonne +ℤ pos (tonne + e)) *ℤ pos x.den)
            (is_times x.num 1 (is_self x.num))
            (is_times (t *ℤ pos tonne +ℤ pos (tonne + e)) x.den
            (is_add (t *ℤ pos tonne) (pos (tonne + e)) (is_times t tonne (is_self t)) (is_pos (tonne + e))))
            (less a b e (above t) (below t) tonne x.den (below x.num) (above x.num) p.above_zero f.high p.high);
      };
    }
  where
    t : ℤ
    t = tonnes_of z

    f : Floor (tonnes_of z) a b tonne
    f = tonnes_floor z i

-- devices that are each near their baseline less CO2 and uncombusted, less the fuel: the tonnes of equation 1 over their sums
pub fair_devices : (devices : ℕ) (x : ℕ → Fraction) (baseline co2 uncombusted e : ℕ → ℕ) (fuel : ℕ) {distance : ℕ}
    → sum_to devices e ≡ distance → ((d : ℕ) → d < devices → Near (x d) (baseline d) (co2 d + uncombusted d) (e d))
    → Fair (sumᶠ devices x -ᶠ as_fraction (pos fuel))
    (tonnes_of (equation1 (sum_to devices baseline) (sum_to devices co2) (sum_to devices uncombusted) fuel))
    distance
unfolding reduction_of
fair_devices devices x baseline co2 uncombusted e fuel same h =
    near_fair _
    (near_minus fuel
    (subst₂ (λ (b e : ℕ). Near (sumᶠ devices x) (sum_to devices baseline) b e) (sum_to_add devices co2 uncombusted) same
    (near_all devices x baseline (λ d. co2 d + uncombusted d) e h)))
    (is_sub _ _)
