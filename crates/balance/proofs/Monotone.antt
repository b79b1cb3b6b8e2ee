-- More litres never make less of a reduction, nor of its tonnes: a litre burnt saves 14,007 mg and costs at most 1,835.
-- Assumes nothing.
use Prim.Native.Nat.{ℕ, ◌+◌, ◌*◌, ◌≤◌, ◌<◌}
use mathlib.Core.Path.{◌≡◌}
use native.Mathlib.Nat.{mul-le-mul_right}
use native.Mathlib.Omega.{arith}
use lib.IntN.{ℤ}
use lib.Signed.{◌≤ℤ◌}
use Rattle.rows.specs.Rows.{sum_to}
use Rattle.rows.proofs.Sums.{sum_to_add, sum_to_le}
use Rattle.protocol.specs.Kinds.{thousandths_of}
use Rattle.protocol.specs.Numbers.{methane_mg}
use Rattle.protocol.proofs.Integers.{is_self, is_sub, is_le, le_is, is_floor}
use Rattle.balance.specs.Balance.{destroyed_of, uncombusted_of, baseline_in_mg, carbon_dioxide_mg, uncombusted_in_mg, baseline_all, carbon_dioxide_all, uncombusted_all}
use Rattle.balance.specs.Balance.{reduction_of, reduction_all, tonnes_of, tonne}
use Rattle.balance.proofs.Laws.{partition}

-- ---- one device

destroyed_grows : (kind q q' : ℕ) → q ≤ q' → destroyed_of kind q ≤ destroyed_of kind q'
unfolding destroyed_of
destroyed_grows kind q q' h =
    let z : q * thousandths_of kind ≤ q' * thousandths_of kind = mul-le-mul_right (thousandths_of kind) h in
    omega arith

saves : (d d' : ℕ) → d ≤ d' → methane_mg * d + carbon_dioxide_mg d' ≤ methane_mg * d' + carbon_dioxide_mg d
unfolding carbon_dioxide_mg
saves d d' h = omega arith

-- baseline less CO2 and uncombusted; what subtracts stands on the other side
device_gains : (kind q q' : ℕ) → q ≤ q'
    → methane_mg * q + (carbon_dioxide_mg (destroyed_of kind q') + methane_mg * uncombusted_of kind q')
    ≤ methane_mg * q' + (carbon_dioxide_mg (destroyed_of kind q) + methane_mg * uncombusted_of kind q)
device_gains kind q q' h =
    let a : methane_mg * destroyed_of kind q + carbon_dioxide_mg (destroyed_of kind q') ≤ methane_mg * destroyed_of kind q' + carbon_dioxide_mg (destroyed_of kind q)
    = saves (destroyed_of kind q) (destroyed_of kind q') (destroyed_grows kind q q' h) in
    let b : destroyed_of kind q + uncombusted_of kind q ≡ q = partition kind q in
    let c : destroyed_of kind q' + uncombusted_of kind q' ≡ q' = partition kind q' in
    omega arith

-- ---- all devices

-- the sums of two functions of a device, the one never above the other
sums : (n : ℕ) (a b c a' b' c' : ℕ → ℕ) → ((d : ℕ) → d < n → a d + (b' d + c' d) ≤ a' d + (b d + c d))
    → sum_to n a + (sum_to n b' + sum_to n c') ≤ sum_to n a' + (sum_to n b + sum_to n c)
sums n a b c a' b' c' h =
    let z : sum_to n (λ d. a d + (b' d + c' d)) ≤ sum_to n (λ d. a' d + (b d + c d)) = sum_to_le n _ _ h in
    let x = sum_to_add n a (λ d. b' d + c' d) in
    let y = sum_to_add n b' c' in
    let x' = sum_to_add n a' (λ d. b d + c d) in
    let y' = sum_to_add n b c in
    omega arith

all_gain : (devices : ℕ) (kind q q' : ℕ → ℕ) → ((d : ℕ) → d < devices → q d ≤ q' d)
    → baseline_all devices kind q + (carbon_dioxide_all devices kind q' + uncombusted_all devices kind q')
    ≤ baseline_all devices kind q' + (carbon_dioxide_all devices kind q + uncombusted_all devices kind q)
unfolding baseline_all carbon_dioxide_all uncombusted_all baseline_in_mg uncombusted_in_mg
all_gain devices kind q q' h =
    sums devices (λ d. methane_mg * q d) (λ d. carbon_dioxide_mg (destroyed_of (kind d) (q d))) (λ d. methane_mg * uncombusted_of (kind d) (q d))
    (λ d. methane_mg * q' d) (λ d. carbon_dioxide_mg (destroyed_of (kind d) (q' d))) (λ d. methane_mg * uncombusted_of (kind d) (q' d))
    (λ d l. device_gains (kind d) (q d) (q' d) (h d l))

differences : (a b a' b' : ℕ) → a + b' ≤ a' + b → reduction_of a b ≤ℤ reduction_of a' b'
unfolding reduction_of
differences a b a' b' h = is_le (reduction_of a b) (reduction_of a' b') (is_sub a b) (is_sub a' b') h

-- rule 9.11: no device has fewer litres, so the reduction is not lower
pub reduction_grows : (devices : ℕ) (kind q q' : ℕ → ℕ) (fuel : ℕ) → ((d : ℕ) → d < devices → q d ≤ q' d)
    → reduction_all devices kind q fuel ≤ℤ reduction_all devices kind q' fuel
unfolding reduction_all
reduction_grows devices kind q q' fuel h =
    differences (baseline_all devices kind q) (carbon_dioxide_all devices kind q + uncombusted_all devices kind q + fuel)
    (baseline_all devices kind q') (carbon_dioxide_all devices kind q' + uncombusted_all devices kind q' + fuel)
    (omega (arith, all_gain devices kind q q' h))

-- rule 9.12: of a reduction that is not lower the tonnes are not lower
pub tonnes_grow : (z w : ℤ) → z ≤ℤ w → tonnes_of z ≤ℤ tonnes_of w
unfolding tonnes_of
tonnes_grow z w h =
    is_le (tonnes_of z) (tonnes_of w) (is_self (tonnes_of z)) (is_self (tonnes_of w))
    (omega (arith, (is_floor z tonne (omega arith) (is_self z)).low, (is_floor w tonne (omega arith) (is_self w)).high, le_is z w (is_self z) (is_self w) h))
