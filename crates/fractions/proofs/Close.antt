-- Whole litres beside the exact ones: q litres of n counted intervals, each of which puts q off by some u-ths of a litre at
-- most. An interval rounds twice and both times to the same side: its volume to whole parts, each of which holds at most a
-- u-th of a litre of methane, and the methane to whole litres. So q is off by at most 1 + 1/u litre an interval, to one side:
-- too low by rules 9.1 and 9.2, where u is 100; in ventilation air, where it is 50, too low or too high by rules 19.2 and 19.3.
-- Assumes nothing.
use Prim.Native.Nat.{ℕ, zero, suc, ◌+◌, ◌*◌, ◌/◌, ◌≤◌, ◌<◌}
use mathlib.Core.Path.{◌≡◌, refl, ap, ◌∙◌}
use mathlib.Core.Bool.{Bool, true, false}
use native.Mathlib.Nat.{mul-le-mul_left, mul-le-mul_right, mul-pos, mul-div-le, lt-mul-div-succ, le_of_mul-le-mul_left, le_step, lt-suc_self}
use native.Mathlib.Omega.{arith}
use lib.IntN.{ℤ, pos, ◌+ℤ◌, ◌*ℤ◌}
use Rattle.rows.specs.Rows.{sum_to, pick}
use Rattle.protocol.specs.Rounding.{ceil_div}
use Rattle.protocol.proofs.RoundingLaws.{ceil_low, ceil_high}
use Rattle.fractions.specs.Fraction.{Fraction, over, as_fraction, ◌+ᶠ◌, ◌*ᶠ◌, sumᶠ}

-- q is above x by at most `up` u-ths for each of n intervals, and below it by at most `down`
pub record Close (u up down : ℕ) (x : Fraction) (q n : ℕ) : Type 0 where
  pub top : ℕ
  pub is_top : x.num ≡ pos top
  pub above_zero : 0 < x.den
  pub low : u * (q * x.den) ≤ u * top + n * up * x.den
  pub high : u * top ≤ u * (q * x.den) + n * down * x.den

abbrev pub RoundedDown : ℕ → Fraction → ℕ → ℕ → Type 0
RoundedDown u x q n = Close u 0 (1 + u) x q n

abbrev pub RoundedUp : ℕ → Fraction → ℕ → ℕ → Type 0
RoundedUp u x q n = Close u (1 + u) 0 x q n

-- x by its two naturals
pub close_is : {u up down : ℕ} {x : Fraction} {q n : ℕ} (c : Close u up down x q n) → x ≡ over c.top x.den
close_is {u} {up} {down} {x} c = λ j. record { num = c.is_top j; den = x.den }

-- litres that no interval puts above, or below, are not above or below
pub not_above : {u down : ℕ} {x : Fraction} {q n : ℕ} → 0 < u → (c : Close u 0 down x q n) → q * x.den ≤ c.top
not_above {u} {down} {x} {q} {n} h c =
    le_of_mul-le-mul_left (let f = c.low in let g : u * (q * x.den) ≤ u * c.top = omega arith in g) h

pub not_below : {u up : ℕ} {x : Fraction} {q n : ℕ} → 0 < u → (c : Close u up 0 x q n) → c.top ≤ q * x.den
not_below {u} {up} {x} {q} {n} h c =
    le_of_mul-le-mul_left (let f = c.high in let g : u * c.top ≤ u * (q * x.den) = omega arith in g) h

-- ---- sums

pub close_zero : (u up down : ℕ) → Close u up down (as_fraction (pos 0)) 0 0
close_zero u up down =
    record { top = 0; is_top = refl; above_zero = omega arith; low = omega arith; high = omega arith }

-- either bound of two fractions with denominators n and m, multiplied across
across : (a b c d i j k n m : ℕ) → a ≤ b + i * k * n → c ≤ d + j * k * m → a * m + c * n ≤ b * m + d * n + (i + j) * k * (n * m)
across a b c d i j k n m h l =
    let f = mul-le-mul_right m h in
    let g = mul-le-mul_right n l in
    omega arith

pub close_sum : {u up down : ℕ} {x y : Fraction} {q p i j : ℕ} → Close u up down x q i → Close u up down y p j
    → Close u up down (x +ᶠ y) (q + p) (i + j)
close_sum {u} {up} {down} {x} {y} {q} {p} {i} {j} c d =
    record {
      top = c.top * y.den + d.top * x.den;
      is_top =
          ap (λ (z : ℤ). z *ℤ pos y.den +ℤ y.num *ℤ pos x.den) c.is_top
          ∙ ap (λ (z : ℤ). pos (c.top * y.den) +ℤ z *ℤ pos x.den) d.is_top;
      above_zero = mul-pos c.above_zero d.above_zero;
      low =
          let f = across (u * (q * x.den)) (u * c.top) (u * (p * y.den)) (u * d.top) i j up x.den y.den c.low d.low in
          omega arith;
      high =
          let f = across (u * c.top) (u * (q * x.den)) (u * d.top) (u * (p * y.den)) i j down x.den y.den c.high d.high in
          omega arith;
    }

-- a whole row, an interval that is not counted being 0
pub close_row : {u up down : ℕ} (n : ℕ) (counted : ℕ → Bool) (x : ℕ → Fraction) (q : ℕ → ℕ)
    → ((k : ℕ) → k < n → counted k ≡ true → Close u up down (x k) (q k) 1)
    → Close u up down
    (sumᶠ n (λ k. pick (counted k) (x k) (as_fraction (pos 0))))
    (sum_to n (λ k. pick (counted k) (q k) 0))
    (sum_to n (λ k. pick (counted k) 1 0))
close_row {u} {up} {down} zero counted x q h = close_zero u up down
close_row {u} {up} {down} (suc n) counted x q h =
    close_sum (close_row n counted x q (λ k l. h k (le_step l))) (one (counted n) refl)
  where
    one : (b : Bool) → counted n ≡ b → Close u up down (pick b (x n) (as_fraction (pos 0))) (pick b (q n) 0) (pick b 1 0)
    one true e = h n (lt-suc_self n) e
    one false e = close_zero u up down

-- a row with nothing counted has no litres
pub none_counted : (n : ℕ) (counted : ℕ → Bool) (q : ℕ → ℕ) → sum_to n (λ k. pick (counted k) 1 0) ≡ 0
    → sum_to n (λ k. pick (counted k) (q k) 0) ≡ 0
none_counted zero counted q h = refl
none_counted (suc n) counted q h =
    let a : sum_to n (λ k. pick (counted k) (q k) 0) ≡ 0 = none_counted n counted q (omega arith) in
    let b : pick (counted n) (q n) 0 ≡ 0 = one (counted n) (q n) (omega arith) in
    omega arith
  where
    one : (b : Bool) (x : ℕ) → pick b 1 0 ≤ 0 → pick b x 0 ≡ 0
    one true x h = absurd (let w : ⊥ = omega arith in w)
    one false x h = refl

-- ---- one interval

-- q is a / b, or above it by at most r, or below it by at most l
record Quotient (r l a b q : ℕ) : Type 0 where
  low : b * q ≤ a + r * b
  high : a ≤ b * q + l * b

down_quotient : (a b : ℕ) → 0 < b → Quotient 0 1 a b (a / b)
down_quotient a b h =
    let f = mul-div-le a b in
    let g = lt-mul-div-succ a h in
    record { low = omega arith; high = omega arith }

up_quotient : (a b : ℕ) → 0 < b → Quotient 1 0 a b (ceil_div a b)
up_quotient a b h =
    let f = ceil_low a b h in
    let g = ceil_high a b h in
    record { low = omega arith; high = omega arith }

-- the volume s / t in h whole parts; then c / m of it in q whole litres
part_low : (u m s t c h q r up : ℕ) → c * u ≤ m → r * (1 + u) ≤ up → t * h ≤ s + r * t → m * q ≤ h * c + r * m
    → u * (q * (t * m)) ≤ u * (s * c) + 1 * up * (t * m)
part_low u m s t c h q r up z w a b =
    let f : u * c * (t * h) ≤ u * c * (s + r * t) = mul-le-mul_left (u * c) a in
    let e : u * t * (m * q) ≤ u * t * (h * c + r * m) = mul-le-mul_left (u * t) b in
    let i : r * t * (c * u) ≤ r * t * m = mul-le-mul_left (r * t) z in
    let j : t * m * (r * (1 + u)) ≤ t * m * up = mul-le-mul_left (t * m) w in
    omega arith

part_high : (u m s t c h q l down : ℕ) → c * u ≤ m → l * (1 + u) ≤ down → s ≤ t * h + l * t → h * c ≤ m * q + l * m
    → u * (s * c) ≤ u * (q * (t * m)) + 1 * down * (t * m)
part_high u m s t c h q l down z w a b =
    let f : u * c * s ≤ u * c * (t * h + l * t) = mul-le-mul_left (u * c) a in
    let e : u * t * (h * c) ≤ u * t * (m * q + l * m) = mul-le-mul_left (u * t) b in
    let i : l * t * (c * u) ≤ l * t * m = mul-le-mul_left (l * t) z in
    let j : t * m * (l * (1 + u)) ≤ t * m * down = mul-le-mul_left (t * m) w in
    omega arith

-- a part holds c / m litre of methane, which is at most 1/u
module _ (u m s t c : ℕ) (m-above : 0 < m) (t-above : 0 < t) (most : c * u ≤ m) where
  interval : {r l up down h q : ℕ} → r * (1 + u) ≤ up → l * (1 + u) ≤ down → Quotient r l s t h → Quotient r l (h * c) m q
      → Close u up down (over s t *ᶠ over c m) q 1
  interval {r} {l} {up} {down} {h} {q} v w a b =
      record {
        top = s * c;
        is_top = refl;
        above_zero = mul-pos t-above m-above;
        low = part_low u m s t c h q r up most v a.low b.low;
        high = part_high u m s t c h q l down most w a.high b.high;
      }

  pub down_interval : RoundedDown u (over s t *ᶠ over c m) (s / t * c / m) 1
  down_interval =
      interval (omega arith) (omega arith) (down_quotient s t t-above) (down_quotient (s / t * c) m m-above)

  pub up_interval : RoundedUp u (over s t *ᶠ over c m) (ceil_div (ceil_div s t * c) m) 1
  up_interval =
      interval (omega arith) (omega arith) (up_quotient s t t-above) (up_quotient (ceil_div s t * c) m m-above)
