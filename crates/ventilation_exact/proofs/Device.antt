-- One device: its exact reduction is a multiple of its exact inlet less exhaust, so that what the two streams and CO2 lose is
-- bounded together and not apart. Over an interval's loss, the factor of unburnt methane and the mg as parameters.
-- Assumes nothing.
use Prim.Native.Nat.{ℕ, zero, suc, ◌+◌, ◌-◌, ◌*◌, ◌≤◌, ◌<◌}
use mathlib.Core.Path.{◌≡◌, refl, sym, ap, subst, subst₂}
use native.Mathlib.Nat.{mul-le-mul_left, mul-le-mul_right, mul-pos, le_of_mul-le-mul_left}
use native.Mathlib.Omega.{arith}
use lib.IntN.{ℤ, pos, ◌*ℤ◌, *ℤ_comm}
use Rattle.protocol.specs.Numbers.{carbon_mg}
use Rattle.balance.specs.Balance.{carbon_dioxide_mg}
use Rattle.balance.proofs.Laws.{carbon_low, carbon_high, carbon_le}
use Rattle.protocol.proofs.Integers.{Is, is_pos, is_minus, is_times}
use Rattle.fractions.specs.Fraction.{Fraction, over}
use Rattle.fractions.specs.Worth.{exact_unburnt_mg, exact_carbon_mg}
use Rattle.fractions.proofs.Near.{Near, near_is}
use Rattle.fractions.proofs.Close.{RoundedDown, RoundedUp, close_is, not_above, not_below}
use Rattle.ventilation_exact.specs.Exact.{exact_device_mg}

-- The mg promised for an interval cover what is lost, where each stream of an interval is off by at most 1 + 1/u litre and a
-- litre unburnt is w mg: a litre destroyed saves w - 7,337/4 mg, which is `saves` quarters. CO2 is rounded up once a device, by
-- at most 3 quarters: asked of every interval, since a device that destroys anything has one that is counted.
pub record Covers (u w interval : ℕ) : Type 0 where
  pub unit : 0 < u
  pub saves : ℕ
  pub is_saves : saves + carbon_mg ≡ 4 * w
  pub per_interval : 2 * saves * (1 + u) + 3 * u ≤ 4 * u * interval

-- ---- in naturals: the exact inlet is s / n, the exact exhaust r / m; q, p and d are the litres of inlet, exhaust and what is
-- ---- destroyed, i the counted intervals

destroyed_low : (s n r m q p d : ℕ) → d + p ≡ q → q * n ≤ s → r ≤ p * m → d * (n * m) + r * n ≤ s * m
destroyed_low s n r m q p d e f g =
    let a : (d + p) * (n * m) ≡ q * (n * m) = ap (λ (x : ℕ). x * (n * m)) e in
    let h : m * (q * n) ≤ m * s = mul-le-mul_left m f in
    let l : n * r ≤ n * (p * m) = mul-le-mul_left n g in
    omega arith

destroyed_high : (u s n r m q p d i : ℕ) → d + p ≡ q → u * s ≤ u * (q * n) + i * (1 + u) * n → u * (p * m) ≤ u * r + i * (1 + u) * m
    → u * (s * m) ≤ u * (d * (n * m) + r * n) + 2 * (i * (1 + u) * (n * m))
destroyed_high u s n r m q p d i e f g =
    let a : u * (n * m) * (d + p) ≡ u * (n * m) * q = ap (λ (x : ℕ). u * (n * m) * x) e in
    let h : m * (u * s) ≤ m * (u * (q * n) + i * (1 + u) * n) = mul-le-mul_left m f in
    let l : n * (u * (p * m)) ≤ n * (u * r + i * (1 + u) * m) = mul-le-mul_left n g in
    omega arith

-- ---- the same over one denominator z: inlet a / z and exhaust b / z; g is CO2 mg

-- what adds and what subtracts, exact beside reported: they differ by v quarters for each litre destroyed and not reported
beside : (w v c a b z q p d : ℕ) → v + c ≡ 4 * w → d + p ≡ q
    → 4 * (w * a) + c * b + w * p * (4 * z) + (v * (d * z + b) + c * d * z) ≡ w * q * (4 * z) + (c * a + 4 * (w * b)) + v * a
beside w v c a b z q p d e t =
    let t1 : w * (4 * z) * (d + p) ≡ w * (4 * z) * q = ap (λ (x : ℕ). w * (4 * z) * x) t in
    let e1 : (v + c) * a ≡ 4 * w * a = ap (λ (x : ℕ). x * a) e in
    let e2 : (v + c) * (d * z + b) ≡ 4 * w * (d * z + b) = ap (λ (x : ℕ). x * (d * z + b)) e in
    omega arith

low : (w v c a b z q p d g : ℕ) → v + c ≡ 4 * w → d + p ≡ q → c * d ≤ 4 * g → d * z + b ≤ a
    → w * q * (4 * z) + (c * a + 4 * (w * b)) ≤ 4 * (w * a) + c * b + (g + w * p) * (4 * z)
low w v c a b z q p d g e t f h =
    let y = beside w v c a b z q p d e t in
    let g1 : c * d * z ≤ 4 * g * z = mul-le-mul_right z f in
    let g2 : v * (d * z + b) ≤ v * a = mul-le-mul_left v h in
    omega arith

-- what the intervals lose, with the 3 quarters of each
lost : (u v a b z d i interval : ℕ) → 0 < u → 2 * v * (1 + u) + 3 * u ≤ 4 * u * interval
    → u * a ≤ u * (d * z + b) + 2 * (i * (1 + u) * z) → v * a + 3 * i * z ≤ v * (d * z + b) + interval * i * (4 * z)
lost u v a b z d i interval above h f =
    le_of_mul-le-mul_left
    (let g1 : v * (u * a) ≤ v * (u * (d * z + b) + 2 * (i * (1 + u) * z)) = mul-le-mul_left v f in
    let g2 : i * z * (2 * v * (1 + u) + 3 * u) ≤ i * z * (4 * u * interval) = mul-le-mul_left (i * z) h in
    let y : u * (v * a + 3 * i * z) ≤ u * (v * (d * z + b) + interval * i * (4 * z)) = omega arith in
    y)
    above

high : (u w v c a b z q p d g i interval : ℕ) → 0 < u → v + c ≡ 4 * w → d + p ≡ q → 2 * v * (1 + u) + 3 * u ≤ 4 * u * interval
    → 4 * g ≤ c * d + 3 * i → u * a ≤ u * (d * z + b) + 2 * (i * (1 + u) * z)
    → 4 * (w * a) + c * b + (g + w * p) * (4 * z) ≤ (w * q + interval * i) * (4 * z) + (c * a + 4 * (w * b))
high u w v c a b z q p d g i interval above e t h f l =
    let y = beside w v c a b z q p d e t in
    let g1 : 4 * g * z ≤ (c * d + 3 * i) * z = mul-le-mul_right z f in
    let g2 = lost u v a b z d i interval above h l in
    omega arith

-- ---- the fraction: its numerator and denominator have n * m in common

wide_left : (w c s n r m a : ℕ) → n * m * (a * (4 * (n * m)) + (c * (s * m) + 4 * (w * (r * n))))
    ≡ a * (1 * n * (4 * (n * m)) * (1 * m)) + ((0 + (s * m + 0) * c * (1 * n)) * (1 * m) + w * r * (1 * n * (4 * (n * m))))
wide_left w c s n r m a = omega arith

wide_right : (w c s n r m b : ℕ) → n * m * (4 * (w * (s * m)) + c * (r * n) + b * (4 * (n * m)))
    ≡ ((w * s * (4 * (n * m)) + (0 + r * n) * c * (1 * n)) * (1 * m) + 0) + b * (1 * n * (4 * (n * m)) * (1 * m))
wide_right w c s n r m b = omega arith

pos_lit : (n m : ℕ) → 0 < n → 0 < m → 0 < 1 * n * (4 * (n * m)) * (1 * m)
pos_lit n m h l = let f : 0 < n * m * (n * m) = mul-pos (mul-pos h l) (mul-pos h l) in omega arith

-- a signed number taken k times, k first
is_scaled : (k : ℕ) (z : ℤ) {p m : ℕ} → Is z p m → Is (pos k *ℤ z) (p * k) (m * k)
is_scaled k z {p} {m} i = subst (λ (y : ℤ). Is y (p * k) (m * k)) (*ℤ_comm z (pos k)) (is_times z k i)

device_at : (w s n r m : ℕ) {a b e : ℕ} → 0 < n → 0 < m
    → a * (4 * (n * m)) + (carbon_mg * (s * m) + 4 * (w * (r * n))) ≤ 4 * (w * (s * m)) + carbon_mg * (r * n) + b * (4 * (n * m))
    → 4 * (w * (s * m)) + carbon_mg * (r * n) + b * (4 * (n * m)) ≤ (a + e) * (4 * (n * m)) + (carbon_mg * (s * m) + 4 * (w * (r * n)))
    → Near (exact_device_mg w (over s n) (over r m)) a b e
unfolding exact_device_mg exact_unburnt_mg exact_carbon_mg
device_at w s n r m {a} {b} {e} n-above m-above h l =
    near_is (exact_device_mg w (over s n) (over r m)) _ _ (pos_lit n m n-above m-above)
    (is_minus _ _
    (is_times _ (1 * m)
    (is_minus _ _ (is_pos (w * s * (4 * (n * m)))) (is_times _ (1 * n) (is_scaled carbon_mg _ (is_minus _ _ (is_pos (s * m)) (is_pos (r * n)))))))
    (is_pos (w * r * (1 * n * (4 * (n * m))))))
    (subst₂ ◌≤◌ (wide_left w carbon_mg s n r m a) (wide_right w carbon_mg s n r m b) (mul-le-mul_left (n * m) h))
    (subst₂ ◌≤◌ (wide_right w carbon_mg s n r m b) (wide_left w carbon_mg s n r m (a + e)) (mul-le-mul_left (n * m) l))

-- ---- what the code's roundings give

-- a device with nothing counted destroys nothing, and rounds nothing
carbon_counted : (d i : ℕ) → (i ≡ 0 → d ≡ 0) → 4 * carbon_dioxide_mg d ≤ carbon_mg * d + 3 * i
carbon_counted d zero h = let e = h refl in let f = carbon_le d in omega arith
carbon_counted d (suc i) h = let f = carbon_high d in omega arith

-- a device's exact reduction is never below the reported one, and above it by the promised mg at most
pub device_near : {u w interval : ℕ} → Covers u w interval → {x y : Fraction} {q p i : ℕ} → RoundedDown u x q i → RoundedUp u y p i
    → p ≤ q → (i ≡ 0 → q ≡ 0) → Near (exact_device_mg w x y) (w * q) (carbon_dioxide_mg (q - p) + w * p) (interval * i)
device_near {u} {w} {interval} v {x} {y} {q} {p} {i} c d fewer none =
    subst₂
    (λ (x y : Fraction). Near (exact_device_mg w x y) (w * q) (carbon_dioxide_mg (q - p) + w * p) (interval * i))
    (sym (close_is c)) (sym (close_is d))
    (device_at w c.top x.den d.top y.den c.above_zero d.above_zero
    (low w v.saves carbon_mg (c.top * y.den) (d.top * x.den) (x.den * y.den) q p (q - p) (carbon_dioxide_mg (q - p))
    v.is_saves rest (carbon_low (q - p))
    (destroyed_low c.top x.den d.top y.den q p (q - p) rest (not_above v.unit c) (not_below v.unit d)))
    (high u w v.saves carbon_mg (c.top * y.den) (d.top * x.den) (x.den * y.den) q p (q - p) (carbon_dioxide_mg (q - p)) i interval
    v.unit v.is_saves rest v.per_interval (carbon_counted (q - p) i (λ h. let e = none h in omega arith))
    (destroyed_high u c.top x.den d.top y.den q p (q - p) i rest c.high d.low)))
  where
    rest : q - p + p ≡ q
    rest = omega arith
