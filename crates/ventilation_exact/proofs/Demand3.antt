-- Demand 3 in ventilation air: the reported tonnes are never above the exact reduction, and short of it by less than a tonne
-- and the promised grams. First over an interval's loss, the factor of unburnt methane and the mg, then with those of rule
-- 19.11.
-- Assumes nothing.
use Prim.Native.Nat.{ℕ, ◌-◌, ◌*◌, ◌≤◌, ◌<◌}
use mathlib.Core.Path.{◌≡◌, refl, sym, ◌∙◌, subst}
use native.Mathlib.Omega.{arith}
use lib.IntN.{pos}
use Rattle.rows.specs.Rows.{sum_to, pick}
use Rattle.rows.proofs.Sums.{sum_to_mul}
use Rattle.protocol.specs.Numbers.{methane_mg}
use Rattle.columns.specs.Streams.{Gas}
use Rattle.volume.specs.Volume.{correction_over, correction_under, correction_down, correction_up, parts_factor, hundredths_of, methane_under}
use Rattle.volume.specs.Volume.{methane_litres_in, methane_litres, methane_litres_up_in, methane_litres_up}
use Rattle.balance.specs.Balance.{baseline_in_mg, carbon_dioxide_mg, uncombusted_in_mg, fuel_in_mg, equation1, tonnes_of}
use Rattle.fractions.specs.Fraction.{Fraction, as_fraction, ◌-ᶠ◌, sumᶠ}
use Rattle.fractions.specs.Fair.{Fair}
use Rattle.fractions.proofs.Near.{fair_devices}
use Rattle.fractions.proofs.Close.{RoundedDown, RoundedUp, close_row, none_counted, down_interval, up_interval}
use Rattle.ventilation_exact.specs.Exact.{Used, Possible, AllPossible, exact_methane, exact_inlet, exact_exhaust, exact_device_mg, exact_reduction}
use Rattle.ventilation_exact.specs.Exact.{reported_inlet, reported_exhaust, tonnes_with, interval_mg, promised}
use Rattle.ventilation_exact.proofs.Device.{Covers, device_near}

-- ---- over loss, factor and mg

pub fair : {u w interval : ℕ} → Covers u w interval → (devices : ℕ) (x y : ℕ → Fraction) (q p i : ℕ → ℕ) (fuel : ℕ)
    → ((d : ℕ) → d < devices → RoundedDown u (x d) (q d) (i d)) → ((d : ℕ) → d < devices → RoundedUp u (y d) (p d) (i d))
    → ((d : ℕ) → d < devices → p d ≤ q d) → ((d : ℕ) → d < devices → i d ≡ 0 → q d ≡ 0)
    → Fair (sumᶠ devices (λ d. exact_device_mg w (x d) (y d)) -ᶠ as_fraction (pos fuel))
    (tonnes_of (equation1
    (sum_to devices (λ d. w * q d))
    (sum_to devices (λ d. carbon_dioxide_mg (q d - p d)))
    (sum_to devices (λ d. w * p d))
    fuel))
    (interval * sum_to devices i)
fair {u} {w} {interval} v devices x y q p i fuel down up fewer none =
    fair_devices devices (λ d. exact_device_mg w (x d) (y d)) (λ d. w * q d) (λ d. carbon_dioxide_mg (q d - p d)) (λ d. w * p d)
    (λ d. interval * i d) fuel (sum_to_mul devices interval i) (λ d h. device_near v (down d h) (up d h) (fewer d h) (none d h))

-- ---- the protocol's numbers

-- the counted intervals of device d, and of all devices
unfoldable pub counted_of : Used → ℕ → ℕ
counted_of u d = sum_to u.intervals (λ k. pick (u.counted d k) 1 0)

unfoldable pub counted_all : Used → ℕ
counted_all u = sum_to u.devices (counted_of u)

-- The mg that cover an interval: each stream is off by at most 1.02 litres, since 20,000 ppm are a 50th, and a litre destroyed
-- saves 12,172.75 mg. 2.04 of these and 0.75 mg for CO2 are 24,833.16 mg, so that 24,834 meet `Covers` and no fewer do.
abbrev pub least_mg : ℕ
least_mg = 24834

pub enough : (interval : ℕ) → least_mg ≤ interval → Covers 50 methane_mg interval
enough interval h = record { unit = omega arith; saves = 48691; is_saves = refl; per_interval = omega arith }

pub no_fewer : (interval : ℕ) → Covers 50 methane_mg interval → least_mg ≤ interval
no_fewer interval v = omega (arith, v)

-- 25 grams do
covers : Covers 50 methane_mg interval_mg
covers = enough interval_mg (omega arith)

-- a stream in an interval, rounded either way
module _ (g : Gas) (s : Possible g) where
  above : 0 < correction_under g.temp
  above = omega (arith, s.warm)

  most : g.ppm * 50 ≤ methane_under
  most = omega (arith, s.ppm_within)

  gas_down : RoundedDown 50 (exact_methane g) (methane_litres g.flow g.ppm g.temp g.press) 1
  unfolding exact_methane methane_litres methane_litres_in hundredths_of correction_down
  gas_down =
      down_interval 50 methane_under (correction_over parts_factor g.flow g.press) (correction_under g.temp) g.ppm (omega arith) above most

  gas_up : RoundedUp 50 (exact_methane g) (methane_litres_up g.flow g.ppm g.temp g.press) 1
  unfolding exact_methane methane_litres_up methane_litres_up_in correction_up
  gas_up =
      up_interval 50 methane_under (correction_over parts_factor g.flow g.press) (correction_under g.temp) g.ppm (omega arith) above most

module _ (u : Used) (s : AllPossible u) (d : ℕ) (h : d < u.devices) where
  inlet_down : RoundedDown 50 (exact_inlet u d) (reported_inlet u d) (counted_of u d)
  unfolding exact_inlet reported_inlet counted_of
  inlet_down = close_row u.intervals (u.counted d) _ _ (λ k l c. gas_down (u.inlet d k) (s.inlet d k h l c))

  exhaust_up : RoundedUp 50 (exact_exhaust u d) (reported_exhaust u d) (counted_of u d)
  unfolding exact_exhaust reported_exhaust counted_of
  exhaust_up = close_row u.intervals (u.counted d) _ _ (λ k l c. gas_up (u.exhaust d k) (s.exhaust d k h l c))

inlet_none : (u : Used) (d : ℕ) → counted_of u d ≡ 0 → reported_inlet u d ≡ 0
unfolding reported_inlet counted_of
inlet_none u d = none_counted u.intervals (u.counted d) _

-- rule 19.11, for a caller whose litres equal the reported ones device by device, and who counts the same device-intervals
pub demand_3_of : (u : Used) → AllPossible u → (inlet exhaust : ℕ → ℕ) (counted : ℕ)
    → ((d : ℕ) → d < u.devices → reported_inlet u d ≡ inlet d) → ((d : ℕ) → d < u.devices → reported_exhaust u d ≡ exhaust d)
    → ((d : ℕ) → d < u.devices → exhaust d ≤ inlet d) → counted_all u ≡ counted
    → Fair (exact_reduction u) (tonnes_with u.devices inlet exhaust (fuel_in_mg u.fuels u.quantity u.factor)) (promised counted)
unfolding exact_reduction tonnes_with promised counted_all baseline_in_mg uncombusted_in_mg
demand_3_of u s inlet exhaust counted in-same out-same fewer same =
    subst (λ (n : ℕ). Fair (exact_reduction u) (tonnes_with u.devices inlet exhaust (fuel_in_mg u.fuels u.quantity u.factor)) (promised n)) same
    (fair covers u.devices (exact_inlet u) (exact_exhaust u) inlet exhaust (counted_of u) (fuel_in_mg u.fuels u.quantity u.factor)
    (λ d h. subst (λ (q : ℕ). RoundedDown 50 (exact_inlet u d) q (counted_of u d)) (in-same d h) (inlet_down u s d h))
    (λ d h. subst (λ (p : ℕ). RoundedUp 50 (exact_exhaust u d) p (counted_of u d)) (out-same d h) (exhaust_up u s d h))
    fewer
    (λ d h e. sym (in-same d h) ∙ inlet_none u d e))
