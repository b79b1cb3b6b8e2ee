-- One device: its exact reduction is a multiple of its exact Q, so that what destroyed, CO2 and uncombusted lose is
-- bounded together and not apart. Over an interval's loss, the factor of unburnt methane and the grams as parameters.
-- Assumes nothing.
use Prim.Native.Nat.{ℕ, ◌+◌, ◌-◌, ◌*◌, ◌≤◌, ◌<◌}
use mathlib.Core.Path.{◌≡◌, sym, ap, subst}
use native.Mathlib.Nat.{mul-le-mul_left, mul-pos, le_of_mul-le-mul_left, le_refl, le_trans, add-le-add, mul-add}
use native.Mathlib.Omega.{arith}
use Rattle.protocol.specs.Kinds.{thousandths_of}
use Rattle.protocol.specs.Numbers.{carbon_mg}
use Rattle.protocol.proofs.KindLaws.{thousandths_most}
use Rattle.balance.specs.Balance.{destroyed_of, uncombusted_of, carbon_dioxide_mg}
use Rattle.balance.proofs.Laws.{partition, carbon_low, carbon_high}
use Rattle.protocol.proofs.Integers.{is_pos, is_minus, is_times}
use Rattle.fractions.specs.Fraction.{Fraction, over}
use Rattle.drainage_exact.specs.Exact.{exact_destroyed, exact_uncombusted, exact_device_mg}
use Rattle.fractions.specs.Worth.{exact_unburnt_mg, exact_carbon_mg}
use Rattle.fractions.proofs.Near.{Near, near_is}
use Rattle.fractions.proofs.Close.{RoundedDown, close_is, not_above}

-- The mg promised for an interval and for a device cover what is lost, where an interval loses at most 1 + 1/u litre and
-- a litre unburnt is w mg: a litre destroyed saves w - 7,337/4 mg, which is `saves` quarters.
pub record Covers (u w interval device : ℕ) : Type 0 where
  pub unit : 0 < u
  pub saves : ℕ
  pub is_saves : saves + carbon_mg ≡ 4 * w
  pub per_interval : saves * 995 * (1 + u) ≤ 4000 * u * interval
  pub per_device : 999 * saves + 3000 ≤ 4000 * device

-- ---- in naturals: the exact Q is p / n, q its litres rounded down, d destroyed, e uncombusted, g CO2 mg

saved_low : (w v c k p n q d g : ℕ) → v + c ≡ 4 * w → 1000 * d ≤ q * k → c * d ≤ 4 * g → q * n ≤ p
    → w * d * (4000 * n) + c * (p * k) ≤ 4 * (w * (p * k)) + g * (4000 * n)
saved_low w v c k p n q d g s f1 f2 f3 =
    let s1 : (v + c) * (p * k) ≡ 4 * w * (p * k) = ap (λ (x : ℕ). x * (p * k)) s in
    let s2 : (v + c) * (d * n) ≡ 4 * w * (d * n) = ap (λ (x : ℕ). x * (d * n)) s in
    let g1 : v * n * (1000 * d) ≤ v * n * (q * k) = mul-le-mul_left (v * n) f1 in
    let g2 : 1000 * n * (c * d) ≤ 1000 * n * (4 * g) = mul-le-mul_left (1000 * n) f2 in
    let g3 : v * k * (q * n) ≤ v * k * p = mul-le-mul_left (v * k) f3 in
    omega arith

-- the exact litres' worth, above that of the whole litres by what the intervals lose
lost : (u v k p n q i interval : ℕ) → 0 < u → k ≤ 995 → v * 995 * (1 + u) ≤ 4000 * u * interval
    → u * p ≤ u * (q * n) + i * (1 + u) * n → v * (p * k) ≤ v * (n * (q * k)) + 4000 * (interval * (i * n))
lost u v k p n q i interval z t h f =
    le_of_mul-le-mul_left
    (le_trans (first f) (le_trans (second (v * (i * (1 + u) * n)) t) (third h)))
    z
  where
    first : u * p ≤ u * (q * n) + i * (1 + u) * n → u * (v * (p * k)) ≤ u * (v * (n * (q * k))) + v * (i * (1 + u) * n) * k
    first f = let g : v * k * (u * p) ≤ v * k * (u * (q * n) + i * (1 + u) * n) = mul-le-mul_left (v * k) f in omega arith

    second : (m : ℕ) → k ≤ 995 → u * (v * (n * (q * k))) + m * k ≤ u * (v * (n * (q * k))) + m * 995
    second m t = add-le-add (le_refl (u * (v * (n * (q * k))))) (mul-le-mul_left m t)

    third : v * 995 * (1 + u) ≤ 4000 * u * interval
        → u * (v * (n * (q * k))) + v * (i * (1 + u) * n) * 995 ≤ u * (v * (n * (q * k)) + 4000 * (interval * (i * n)))
    third h =
        let g : i * n * (v * 995 * (1 + u)) ≤ i * n * (4000 * u * interval) = mul-le-mul_left (i * n) h in
        let y : u * (v * (n * (q * k)) + 4000 * (interval * (i * n))) ≡ u * (v * (n * (q * k))) + u * (4000 * (interval * (i * n))) = mul-add u
        (v * (n * (q * k))) (4000 * (interval * (i * n))) in
        omega arith

-- an upper bound of what the device loses, interval * i + device mg in all
saved_high : (u v k p n q d i interval device : ℕ) → 0 < u → k ≤ 995
    → v * 995 * (1 + u) ≤ 4000 * u * interval → 999 * v + 3000 ≤ 4000 * device
    → q * k ≤ 1000 * d + 999 → u * p ≤ u * (q * n) + i * (1 + u) * n
    → v * (p * k) + 3000 * n ≤ v * (d * (1000 * n)) + (interval * i + device) * (4000 * n)
saved_high u v k p n q d i interval device z t h l f1 f3 =
    let g1 = lost u v k p n q i interval z t h f3 in
    let g2 : v * n * (q * k) ≤ v * n * (1000 * d + 999) = mul-le-mul_left (v * n) f1 in
    let g3 : n * (999 * v + 3000) ≤ n * (4000 * device) = mul-le-mul_left n l in
    omega arith

low : (w v c k r p n q d e g : ℕ) → v + c ≡ 4 * w → k + r ≡ 1000 → d + e ≡ q → 1000 * d ≤ q * k → c * d ≤ 4 * g → q * n ≤ p
    → w * q * (4000 * n) + (c * (p * k) + 4 * (w * (p * r))) ≤ 4000 * (w * p) + (g + w * e) * (4000 * n)
low w v c k r p n q d e g s t a f1 f2 f3 =
    let x = saved_low w v c k p n q d g s f1 f2 f3 in
    let y : 4 * w * p * (k + r) ≡ 4 * w * p * 1000 = ap (λ (m : ℕ). 4 * w * p * m) t in
    let b : w * (4000 * n) * (d + e) ≡ w * (4000 * n) * q = ap (λ (m : ℕ). w * (4000 * n) * m) a in
    omega arith

high : (u w v c k r p n q d e g i interval device : ℕ) → 0 < u → v + c ≡ 4 * w → k + r ≡ 1000 → d + e ≡ q → k ≤ 995
    → v * 995 * (1 + u) ≤ 4000 * u * interval → 999 * v + 3000 ≤ 4000 * device
    → q * k ≤ 1000 * d + 999 → 4 * g ≤ c * d + 3 → u * p ≤ u * (q * n) + i * (1 + u) * n
    → 4000 * (w * p) + (g + w * e) * (4000 * n) ≤ (w * q + (interval * i + device)) * (4000 * n) + (c * (p * k) + 4 * (w * (p * r)))
high u w v c k r p n q d e g i interval device z s t a k-most h l f1 f2 f3 =
    let x = saved_high u v k p n q d i interval device z k-most h l f1 f3 in
    let y : 4 * w * p * (k + r) ≡ 4 * w * p * 1000 = ap (λ (m : ℕ). 4 * w * p * m) t in
    let b : w * (4000 * n) * (d + e) ≡ w * (4000 * n) * q = ap (λ (m : ℕ). w * (4000 * n) * m) a in
    let s1 : (v + c) * (p * k) ≡ 4 * w * (p * k) = ap (λ (x : ℕ). x * (p * k)) s in
    let s2 : (v + c) * (d * n) ≡ 4 * w * (d * n) = ap (λ (x : ℕ). x * (d * n)) s in
    let g2 : 1000 * n * (4 * g) ≤ 1000 * n * (c * d + 3) = mul-le-mul_left (1000 * n) f2 in
    omega arith

-- ---- the fraction: its numerator and denominator have 1,000 n² in common

wide_low : (w c k r p n a b : ℕ) → a * (4000 * n) + (c * (p * k) + 4 * (w * (p * r))) ≤ 4000 * (w * p) + b * (4000 * n)
    → a * (1 * n * (4 * (n * 1000)) * (1 * (n * 1000))) + ((0 + c * (p * k) * (1 * n)) * (1 * (n * 1000)) + w * (p * r) * (1 * n * (4 * (n * 1000))))
    ≤ ((w * p * (4 * (n * 1000)) + 0) * (1 * (n * 1000)) + 0) + b * (1 * n * (4 * (n * 1000)) * (1 * (n * 1000)))
wide_low w c k r p n a b h = let f = mul-le-mul_left (1000 * (n * n)) h in omega arith

wide_high : (w c k r p n a b : ℕ) → 4000 * (w * p) + b * (4000 * n) ≤ a * (4000 * n) + (c * (p * k) + 4 * (w * (p * r)))
    → ((w * p * (4 * (n * 1000)) + 0) * (1 * (n * 1000)) + 0) + b * (1 * n * (4 * (n * 1000)) * (1 * (n * 1000)))
    ≤ a * (1 * n * (4 * (n * 1000)) * (1 * (n * 1000))) + ((0 + c * (p * k) * (1 * n)) * (1 * (n * 1000)) + w * (p * r) * (1 * n * (4 * (n * 1000))))
wide_high w c k r p n a b h = let f = mul-le-mul_left (1000 * (n * n)) h in omega arith

pos_lit : (n : ℕ) → 0 < n → 0 < 1 * n * (4 * (n * 1000)) * (1 * (n * 1000))
pos_lit n h = let f : 0 < n * n * n = mul-pos (mul-pos h h) h in omega arith

device_at : (w kind p n : ℕ) {a b e : ℕ} → 0 < n
    → a * (4000 * n) + (carbon_mg * (p * thousandths_of kind) + 4 * (w * (p * (1000 - thousandths_of kind)))) ≤ 4000 * (w * p) + b * (4000 * n)
    → 4000 * (w * p) + b * (4000 * n) ≤ (a + e) * (4000 * n) + (carbon_mg * (p * thousandths_of kind) + 4 * (w * (p * (1000 - thousandths_of kind))))
    → Near (exact_device_mg w kind (over p n)) a b e
unfolding exact_device_mg exact_unburnt_mg exact_carbon_mg exact_destroyed exact_uncombusted
device_at w kind p n {a} {b} {e} z h l =
    near_is (exact_device_mg w kind (over p n)) _ _ (pos_lit n z)
    (is_minus _ _
    (is_times _ (1 * (n * 1000)) (is_minus _ _ (is_pos (w * p * (4 * (n * 1000)))) (is_pos (carbon_mg * (p * thousandths_of kind) * (1 * n)))))
    (is_pos (w * (p * (1000 - thousandths_of kind)) * (1 * n * (4 * (n * 1000))))))
    (wide_low w carbon_mg (thousandths_of kind) (1000 - thousandths_of kind) p n a b h)
    (wide_high w carbon_mg (thousandths_of kind) (1000 - thousandths_of kind) p n (a + e) b l)

-- ---- what the code's roundings give

destroyed_low : (kind q : ℕ) → 1000 * destroyed_of kind q ≤ q * thousandths_of kind
unfolding destroyed_of
destroyed_low kind q = omega arith

destroyed_high : (kind q : ℕ) → q * thousandths_of kind ≤ 1000 * destroyed_of kind q + 999
unfolding destroyed_of
destroyed_high kind q = omega arith

rest : (kind : ℕ) → thousandths_of kind + (1000 - thousandths_of kind) ≡ 1000
rest kind = let h : thousandths_of kind ≤ 995 = thousandths_most kind in omega arith

-- a device's exact reduction is never below the reported one, and above it by the promised mg at most
pub device_near : {u w interval device : ℕ} → Covers u w interval device → (kind : ℕ) {x : Fraction} {q i : ℕ} → RoundedDown u x q i
    → Near (exact_device_mg w kind x) (w * q) (carbon_dioxide_mg (destroyed_of kind q) + w * uncombusted_of kind q) (interval * i + device)
device_near {u} {w} {interval} {device} v kind {x} {q} {i} c =
    subst
    (λ (y : Fraction). Near (exact_device_mg w kind y) (w * q) (carbon_dioxide_mg (destroyed_of kind q) + w * uncombusted_of kind q) (interval * i + device))
    (sym (close_is c))
    (device_at w kind c.top x.den c.above_zero
    (low w v.saves carbon_mg k r c.top x.den q d (uncombusted_of kind q) (carbon_dioxide_mg d)
    v.is_saves (rest kind) (partition kind q) (destroyed_low kind q) (carbon_low d) (not_above v.unit c))
    (high u w v.saves carbon_mg k r c.top x.den q d (uncombusted_of kind q) (carbon_dioxide_mg d) i interval device
    v.unit v.is_saves (rest kind) (partition kind q) (thousandths_most kind) v.per_interval v.per_device
    (destroyed_high kind q) (carbon_high d) c.high))
  where
    k : ℕ
    k = thousandths_of kind

    r : ℕ
    r = 1000 - thousandths_of kind

    d : ℕ
    d = destroyed_of kind q
