-- From a device's methane litres to tonnes (rules 9.4 to 9.14).
-- Assumes nothing.
use Rattle.std.specs.Prelude.{ℕ, ◌+◌, ◌-◌, ◌*◌, ◌/◌, ◌≤◌, ◌≡◌, refl, ℤ, pos, negsuc, ◌*ℤ◌, ◌≤ℤ◌}
use Rattle.std.proofs.Math.IntN.{sub_ℕ}
use Rattle.std.specs.Int.Signed.{shr_z}
use Rattle.rows.specs.Rows.{sum_to}
use Rattle.protocol.specs.Numbers.{protocol, methane_mg, carbon_mg}
use Rattle.protocol.specs.Kinds.{thousandths_of}
use Rattle.protocol.specs.Rounding.{ceil_div}

-- rule 9.4: the litres of Q that a device of this kind destroys, rounded down
unfoldable pub destroyed_of : ℕ → ℕ → ℕ
destroyed_of kind q = q * thousandths_of kind / 1000

-- rule 9.5: the litres of Q that it leaves unburnt, rounded up
unfoldable pub uncombusted_of : ℕ → ℕ → ℕ
uncombusted_of kind q = ceil_div (q * (1000 - thousandths_of kind)) 1000

-- rule 9.7: baseline mg, U for each litre of Q (equation 3)
unfoldable pub baseline_in_mg : ℕ → ℕ
baseline_in_mg q = methane_mg * q

-- rule 9.8: CO2 mg, C for each destroyed litre, rounded up
unfoldable pub carbon_dioxide_mg : ℕ → ℕ
carbon_dioxide_mg destroyed = ceil_div (carbon_mg * destroyed) protocol.carbon_under

-- rule 9.9: uncombusted mg, U for each uncombusted litre
unfoldable pub uncombusted_in_mg : ℕ → ℕ
uncombusted_in_mg uncombusted = methane_mg * uncombusted

-- rule 9.10: fuel mg, quantity times factor summed over fuel lines 0 up to, and without, lines
unfoldable pub fuel_in_mg : ℕ → (ℕ → ℕ) → (ℕ → ℕ) → ℕ
fuel_in_mg lines quantity factor = sum_to lines (λ k. quantity k * factor k)

-- the sums over devices of a function of each device's kind and methane litres
abbrev pub over_devices : (ℕ → ℕ → ℕ) → ℕ → (ℕ → ℕ) → (ℕ → ℕ) → ℕ
over_devices f devices kind q = sum_to devices (λ d. f (kind d) (q d))

-- rule 9.11: baseline mg over all devices
unfoldable pub baseline_all : ℕ → (ℕ → ℕ) → (ℕ → ℕ) → ℕ
baseline_all = over_devices (λ kind q. baseline_in_mg q)

-- rule 9.8: CO2 mg over all devices, rounded for each of them and then summed
unfoldable pub carbon_dioxide_all : ℕ → (ℕ → ℕ) → (ℕ → ℕ) → ℕ
carbon_dioxide_all = over_devices (λ kind q. carbon_dioxide_mg (destroyed_of kind q))

-- rule 9.11: uncombusted mg over all devices
unfoldable pub uncombusted_all : ℕ → (ℕ → ℕ) → (ℕ → ℕ) → ℕ
uncombusted_all = over_devices (λ kind q. uncombusted_in_mg (uncombusted_of kind q))

-- what adds less what subtracts, signed
unfoldable pub reduction_of : ℕ → ℕ → ℤ
reduction_of credit debit = sub_ℕ credit debit

-- rule 9.11: reduction mg, the baseline less CO2, uncombusted and fuel, signed (equation 1)
abbrev pub equation1 : ℕ → ℕ → ℕ → ℕ → ℤ
equation1 baseline co2 uncombusted fuel = reduction_of baseline (co2 + uncombusted + fuel)

-- rule 9.11: of all devices, from each one's kind and methane litres
unfoldable pub reduction_all : ℕ → (ℕ → ℕ) → (ℕ → ℕ) → ℕ → ℤ
reduction_all devices kind q fuel = equation1 (baseline_all devices kind q) (carbon_dioxide_all devices kind q) (uncombusted_all devices kind q) fuel

-- mg in a tonne
abbrev pub tonne : ℕ
tonne = 1000000000

-- rule 9.12: tonnes, rounded towards minus infinity
unfoldable pub tonnes_of : ℤ → ℤ
tonnes_of reduction = shr_z reduction tonne

-- rule 9.12, said by what floor means (rule 1.5): the greatest whole number of tonnes that is not above the reduction,
-- a negative one too
pub record IsTonnes (reduction t : ℤ) : Type 0 where
  pub not_above : (t *ℤ pos tonne) ≤ℤ reduction
  pub greatest : (s : ℤ) → (s *ℤ pos tonne) ≤ℤ reduction → s ≤ℤ t

-- rule 9.13: credits are the tonnes, or 0 if these are negative
unfoldable pub credits_of : ℤ → ℕ
credits_of (pos n) = n
credits_of (negsuc n) = 0

-- the most methane litres that any device can have: 35,136 intervals of an oxidiser, 22,336,255 each (rule 19.12). Of drainage
-- gas it is 392,403,310,272 (rule 9.14).
abbrev pub device_most : ℕ
device_most = 784806655680

-- litres, thousandths and a rounding whose product and sum fit 64 bits
pub record Shared (q thousandths more : ℕ) : Type 0 where
  pub q_most : q ≤ device_most
  pub thousandths_most : thousandths ≤ 1000
  pub more_most : more ≤ 999

-- what adds and what subtracts are at most 2^62, so that their difference is a signed number of 64 bits
pub record Moderate (credit debit : ℕ) : Type 0 where
  pub credit_most : credit ≤ 4611686018427387904
  pub debit_most : debit ≤ 4611686018427387904

-- rule 15.1: 50,000 l in an enclosed flare
destroyed_example : destroyed_of 2 50000 ≡ 49750
unfolding destroyed_of
destroyed_example = refl

uncombusted_example : uncombusted_of 2 50000 ≡ 250
unfolding uncombusted_of
uncombusted_example = refl

carbon_example : carbon_dioxide_mg 49750 ≡ 91253938
unfolding carbon_dioxide_mg
carbon_example = refl

-- rule 15.1: a reduction of -94,405,688 mg
tonnes_example : tonnes_of (negsuc 94405687) ≡ negsuc 0
unfolding tonnes_of
tonnes_example = refl

credits_example : credits_of (negsuc 0) ≡ 0
unfolding credits_of
credits_example = refl
