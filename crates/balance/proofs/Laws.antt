-- Laws of the way from litres to tonnes: the litre partition, bounds for callers, what tonnes are.
-- Assumes nothing.
use Prim.Native.Nat.{ℕ, zero, suc, ◌+◌, ◌-◌, ◌*◌, ◌/◌, ◌≤◌, ◌<◌, ◌^◌}
use mathlib.Core.Path.{◌≡◌, refl, sym, ap, ap₂, ◌∙◌, subst}
use mathlib.Core.Bool.{true, false}
use native.Mathlib.Nat.{mul-le-mul, mul-le-mul_right, add-zero}
use native.Mathlib.Omega.{arith}
use lib.IntN.{ℤ, pos, negsuc, sub_ℕ, ◌-ℤ◌, ◌*ℤ◌, nat_abs}
use lib.Signed.{◌≤ℤ◌, shr_z, lt_z, non_neg}
use lib.Dec.{T}
use borrow.Author.Rules.{rules}
use mir.Syntax.{w64}
use mir.Val.{SFits, Fits, to_z, of_z}
use mir.Facts.{to_z-of_z, to_z_pos}
use Rattle.std.specs.Int.{int_max, int_div_euclid}
use Rattle.rows.specs.Rows.{sum_to}
use Rattle.rows.proofs.Sums.{sum_to_ext, sum_to_add}
use Rattle.protocol.specs.Kinds.{thousandths_of}
use Rattle.protocol.specs.Numbers.{carbon_mg}
use Rattle.protocol.proofs.KindLaws.{thousandths_most}
use Rattle.protocol.specs.Rounding.{ceil_div}
use Rattle.balance.specs.Balance.{destroyed_of, uncombusted_of, baseline_in_mg, carbon_dioxide_mg, uncombusted_in_mg, over_devices, baseline_all}
use Rattle.balance.specs.Balance.{carbon_dioxide_all, uncombusted_all, reduction_of, reduction_all, tonnes_of, IsTonnes, credits_of, tonne, device_most}
use Rattle.protocol.proofs.Integers.{Is, Floor, above, below, is_self, is_pos, is_mag, is_minus, is_sub, is_times, is_le, le_is, is_same, is_floor}
use Rattle.protocol.proofs.Integers.{by_order}

-- ---- litres

split : (q k r : ℕ) → k + r ≡ 1000 → q * k / 1000 + ceil_div (q * r) 1000 ≡ q
split q k r e = let f = ap (λ (n : ℕ). q * n) e in omega arith

rest : (kind : ℕ) → thousandths_of kind + (1000 - thousandths_of kind) ≡ 1000
rest kind = let h : thousandths_of kind ≤ 995 = thousandths_most kind in omega arith

-- destroyed and uncombusted litres are a device's methane litres, none lost and none twice
pub partition : (kind q : ℕ) → destroyed_of kind q + uncombusted_of kind q ≡ q
unfolding destroyed_of uncombusted_of
partition kind q = split q (thousandths_of kind) (1000 - thousandths_of kind) (rest kind)

pub partition_all : (devices : ℕ) (kind q : ℕ → ℕ)
    → over_devices destroyed_of devices kind q + over_devices uncombusted_of devices kind q ≡ sum_to devices q
partition_all devices kind q =
    sym (sum_to_add devices (λ d. destroyed_of (kind d) (q d)) (λ d. uncombusted_of (kind d) (q d)))
    ∙ sum_to_ext devices (λ d. destroyed_of (kind d) (q d) + uncombusted_of (kind d) (q d)) q (λ d h. partition (kind d) (q d))

pub destroyed_le : (kind q : ℕ) → destroyed_of kind q ≤ q
destroyed_le kind q = omega (arith, partition kind q)

pub uncombusted_le : (kind q : ℕ) → uncombusted_of kind q ≤ q
uncombusted_le kind q = omega (arith, partition kind q)

-- what the code's share with 0 more, or with 999 more, is
pub share_down : (kind q k r : ℕ) → k ≡ thousandths_of kind → r ≡ (q * k + 0) / 1000 → (r ≡ destroyed_of kind q) × (r ≤ q)
unfolding destroyed_of
share_down kind q k r e f =
    let g : r ≡ destroyed_of kind q = f ∙ ap (λ (n : ℕ). n / 1000) (add-zero (q * k)) ∙ ap (λ (n : ℕ). q * n / 1000) e in
    (g, omega (arith, destroyed_le kind q))

pub share_up : (kind q k r : ℕ) → k ≡ thousandths_of kind → r ≡ (q * (1000 - k) + 999) / 1000 → (r ≡ uncombusted_of kind q) × (r ≤ q)
unfolding uncombusted_of
share_up kind q k r e f =
    let g : r ≡ uncombusted_of kind q = f ∙ ap (λ (n : ℕ). ceil_div (q * (1000 - n)) 1000) e in
    (g, omega (arith, uncombusted_le kind q))

-- ---- mg

-- CO2 is rounded up, by at most three quarters of a mg
pub carbon_low : (d : ℕ) → carbon_mg * d ≤ 4 * carbon_dioxide_mg d
unfolding carbon_dioxide_mg
carbon_low d = omega arith

pub carbon_high : (d : ℕ) → 4 * carbon_dioxide_mg d ≤ carbon_mg * d + 3
unfolding carbon_dioxide_mg
carbon_high d = omega arith

pub carbon_le : (d : ℕ) → carbon_dioxide_mg d ≤ 1835 * d
unfolding carbon_dioxide_mg
carbon_le d = omega arith

-- the products that destroyed and uncombusted make of a device's litres stay below 2^50
pub thousand_times : (q k : ℕ) → q ≤ device_most → k ≤ 1000 → q * k ≤ 784806655680000
thousand_times q k h l = let p : q * k ≤ device_most * 1000 = mul-le-mul h l in omega arith

-- devices of equal kinds and litres have equal sums
pub over_ext : (f : ℕ → ℕ → ℕ) (devices : ℕ) (kind kind' q q' : ℕ → ℕ)
    → ((d : ℕ) → d < devices → kind d ≡ kind' d) → ((d : ℕ) → d < devices → q d ≡ q' d)
    → over_devices f devices kind q ≡ over_devices f devices kind' q'
over_ext f devices kind kind' q q' h l =
    sum_to_ext devices (λ d. f (kind d) (q d)) (λ d. f (kind' d) (q' d)) (λ d m. ap₂ f (h d m) (l d m))

pub reduction_ext : (devices : ℕ) (kind kind' q q' : ℕ → ℕ) (fuel : ℕ)
    → ((d : ℕ) → d < devices → kind d ≡ kind' d) → ((d : ℕ) → d < devices → q d ≡ q' d)
    → reduction_all devices kind q fuel ≡ reduction_all devices kind' q' fuel
unfolding reduction_all baseline_all carbon_dioxide_all uncombusted_all
reduction_ext devices kind kind' q q' fuel h l =
    ap₂ reduction_of
    (over_ext (λ kind q. baseline_in_mg q) devices kind kind' q q' h l)
    (ap₂ (λ (c e : ℕ). c + e + fuel)
    (over_ext (λ kind q. carbon_dioxide_mg (destroyed_of kind q)) devices kind kind' q q' h l)
    (over_ext (λ kind q. uncombusted_in_mg (uncombusted_of kind q)) devices kind kind' q q' h l))

-- ---- signed

-- the difference of two numbers up to 2^62 is a signed number of 64 bits
less_fits : (a b : ℕ) → a ≤ 4611686018427387904 → b ≤ 4611686018427387904 → SFits w64 (sub_ℕ a b)
less_fits a b h k =
    let i = (is_sub a b).is in
    by_order a b
    (λ l. record { sfits = let m = is_mag (sub_ℕ a b) {p = 0} {m = b - a} (record { is = omega arith }) in omega arith })
    (λ l. record { sfits = let m = is_mag (sub_ℕ a b) {p = a - b} {m = 0} (record { is = omega arith }) in omega arith })

-- what adds less what subtracts, in 64 bits with a sign
pub less_back : (a b : ℕ) → a ≤ 4611686018427387904 → b ≤ 4611686018427387904 → to_z w64 (of_z w64 (to_z w64 a -ℤ to_z w64 b)) ≡ reduction_of a b
unfolding reduction_of
less_back a b h k = to_z-of_z {w = w64} (subst (λ (z : ℤ). SFits w64 z) (sym less) (less_fits a b h k)) ∙ less
  where
    less : to_z w64 a -ℤ to_z w64 b ≡ sub_ℕ a b
    less =
        ap₂ (λ (x y : ℤ). x -ℤ y) (to_z_pos w64 (let l : a < 2 ^ 63 = omega arith in l)) (to_z_pos w64 (let l : b < 2 ^ 63 = omega arith in l))
        ∙ is_same (pos a -ℤ pos b) (sub_ℕ a b) (is_minus (pos a) (pos b) (is_pos a) (is_pos b)) (is_sub a b) (omega arith)

-- the library's quotient is rounded as tonnes are
pub quotient_down : (z : ℤ) (m : ℕ) → int_div_euclid z (pos m) ≡ shr_z z m
quotient_down (pos a) m = refl
quotient_down (negsuc a) m = refl

-- ---- what tonnes are

floor_is : (z t : ℤ) (k : ℕ) → Floor t (above z) (below z) k → (t *ℤ pos k) ≤ℤ z
floor_is z t k f = is_le (t *ℤ pos k) z (is_times t k (is_self t)) (is_self z) (let h = f.low in omega arith)

-- a whole number that is more than another is so by one at least
beyond : (s t : ℤ) → (above t + below s < above s + below t → ⊥) → s ≤ℤ t
beyond s t f =
    is_le s t (is_self s) (is_self t)
    (by_order (above s + below t) (above t + below s) (λ h. h) (λ h. absurd (f h)))

floor_most : (z t s : ℤ) (k : ℕ) → Floor t (above z) (below z) k → (s *ℤ pos k) ≤ℤ z → s ≤ℤ t
floor_most z t s k f h =
    beyond s t (λ l.
    let a = le_is (s *ℤ pos k) z (is_times s k (is_self s)) (is_self z) h in
    let b = mul-le-mul_right k l in
    let c = f.high in
    apart (above s) (below s) (above t) (below t) k (above z) (below z) a b c)
  where
    apart : (p m q n k a b : ℕ) → p * k + b ≤ a + m * k → suc (q + m) * k ≤ (p + n) * k → n * k + a < q * k + b + k → ⊥
    apart p m q n k a b e f g = omega arith

pub tonnes_is : (z : ℤ) → IsTonnes z (tonnes_of z)
unfolding tonnes_of
tonnes_is z =
    let f = is_floor z tonne (let h : 0 < tonne = omega arith in h) (is_self z) in
    record { not_above = floor_is z (shr_z z tonne) tonne f; greatest = λ s h. floor_most z (shr_z z tonne) s tonne f h }

-- whatever is the greatest whole number of tonnes not above the reduction is tonnes_of it
pub tonnes_only : (z t : ℤ) → IsTonnes z t → t ≡ tonnes_of z
tonnes_only z t x =
    is_same t (tonnes_of z) (is_self t) (is_self (tonnes_of z))
    (let y = tonnes_is z in
    let a = le_is t (tonnes_of z) (is_self t) (is_self (tonnes_of z)) (y.greatest t x.not_above) in
    let b = le_is (tonnes_of z) t (is_self (tonnes_of z)) (is_self t) (x.greatest (tonnes_of z) y.not_above) in
    omega arith)

-- tonnes are the reduction's floor, in naturals
pub tonnes_floor : (z : ℤ) {p m : ℕ} → Is z p m → Floor (tonnes_of z) p m tonne
unfolding tonnes_of
tonnes_floor z x = is_floor z tonne (let h : 0 < tonne = omega arith in h) x

-- ---- credits

pub credits_is : (z : ℤ) → nat_abs (int_max z (pos 0)) ≡ credits_of z
unfolding credits_of
credits_is (pos zero) = refl
credits_is (pos (suc n)) = search rules
credits_is (negsuc n) = refl
