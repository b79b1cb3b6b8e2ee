-- The exact reduction of ventilation air (rule 19.11), beside what is reported of the same readings, and the distance that may
-- lie between the two.
-- Assumes nothing.
use Rattle.std.specs.Prelude.{ℕ, ◌-◌, ◌*◌, ◌≤◌, ◌<◌, ◌≡◌, refl, Bool, true, ℤ, pos}
use Rattle.rows.specs.Rows.{sum_to, pick}
use Rattle.protocol.specs.Numbers.{methane_mg}
use Rattle.protocol.specs.Ranges.{kelvin_of, ppm_most}
use Rattle.columns.specs.Streams.{Gas, gas_of}
use Rattle.volume.specs.Volume.{correction_over, correction_under, correction_down, correction_up, parts_factor, hundredths_of, methane_under}
use Rattle.volume.specs.Volume.{methane_litres_in, methane_litres, methane_litres_up_in, methane_litres_up}
use Rattle.balance.specs.Balance.{fuel_in_mg, equation1, reduction_of, baseline_in_mg, carbon_dioxide_mg, uncombusted_in_mg, tonnes_of}
use Rattle.fractions.specs.Fraction.{Fraction, over, as_fraction, ◌-ᶠ◌, ◌*ᶠ◌, sumᶠ, ◌≤ᶠ◌}
use Rattle.fractions.specs.Worth.{exact_unburnt_mg, exact_carbon_mg}

-- The readings used: of device d in interval k, whether the interval is counted, and the readings of its two streams; the
-- fuel lines.
pub record Used : Type 0 where
  pub intervals : ℕ
  pub devices : ℕ
  pub counted : ℕ → ℕ → Bool
  pub inlet : ℕ → ℕ → Gas
  pub exhaust : ℕ → ℕ → Gas
  pub fuels : ℕ
  pub quantity : ℕ → ℕ
  pub factor : ℕ → ℕ

-- a stream above absolute zero, with at most 20,000 ppm
pub record Possible (g : Gas) : Type 0 where
  pub warm : 0 < kelvin_of g.temp
  pub ppm_within : g.ppm ≤ ppm_most

-- what accepted records give: both streams of a counted interval are such
pub record AllPossible (u : Used) : Type 0 where
  pub inlet : (d k : ℕ) → d < u.devices → k < u.intervals → u.counted d k ≡ true → Possible (u.inlet d k)
  pub exhaust : (d k : ℕ) → d < u.devices → k < u.intervals → u.counted d k ≡ true → Possible (u.exhaust d k)

-- ---- exact

-- rules 19.2 and 19.3 without their roundings: litres of methane in a stream
unfoldable pub exact_methane : Gas → Fraction
exact_methane g = over (correction_over parts_factor g.flow g.press) (correction_under g.temp) *ᶠ over g.ppm methane_under

-- over the counted intervals of device d, of either stream
abbrev pub exact_sum : Used → (ℕ → ℕ → Gas) → ℕ → Fraction
exact_sum u stream d = sumᶠ u.intervals (λ k. pick (u.counted d k) (exact_methane (stream d k)) (as_fraction (pos 0)))

unfoldable pub exact_inlet : Used → ℕ → Fraction
exact_inlet u = exact_sum u u.inlet

unfoldable pub exact_exhaust : Used → ℕ → Fraction
exact_exhaust u = exact_sum u u.exhaust

-- rule 19.11: a device's baseline less CO2 and uncombusted, where what enters and does not leave is destroyed
unfoldable pub exact_device_mg : ℕ → Fraction → Fraction → Fraction
exact_device_mg unburnt inlet exhaust =
    exact_unburnt_mg unburnt inlet -ᶠ exact_carbon_mg (inlet -ᶠ exhaust) -ᶠ exact_unburnt_mg unburnt exhaust

-- rule 19.11: over all devices, less the fuel, in mg
unfoldable pub exact_reduction : Used → Fraction
exact_reduction u =
    sumᶠ u.devices (λ d. exact_device_mg methane_mg (exact_inlet u d) (exact_exhaust u d))
    -ᶠ as_fraction (pos (fuel_in_mg u.fuels u.quantity u.factor))

-- ---- reported

-- rule 19.8: a device's litres as reported, the inlet's rounded down in each interval, the exhaust's up
unfoldable pub reported_inlet : Used → ℕ → ℕ
reported_inlet u d =
    sum_to u.intervals (λ k. let g : Gas = u.inlet d k in pick (u.counted d k) (methane_litres g.flow g.ppm g.temp g.press) 0)

unfoldable pub reported_exhaust : Used → ℕ → ℕ
reported_exhaust u d =
    sum_to u.intervals (λ k. let g : Gas = u.exhaust d k in pick (u.counted d k) (methane_litres_up g.flow g.ppm g.temp g.press) 0)

-- rules 19.9 and 19.10: the tonnes of devices with so many litres of inlet and exhaust, CO2 rounded up for each of them
unfoldable pub tonnes_with : ℕ → (ℕ → ℕ) → (ℕ → ℕ) → ℕ → ℤ
tonnes_with devices inlet exhaust fuel =
    tonnes_of (equation1
    (sum_to devices (λ d. baseline_in_mg (inlet d)))
    (sum_to devices (λ d. carbon_dioxide_mg (inlet d - exhaust d)))
    (sum_to devices (λ d. uncombusted_in_mg (exhaust d)))
    fuel)

-- ---- the distance between them

-- rule 19.11: 25 grams for each counted device-interval, in mg, and none for a device
abbrev pub interval_mg : ℕ
interval_mg = 25000

unfoldable pub promised : ℕ → ℕ
promised counted = interval_mg * counted

-- rule 19.13: one interval of an oxidiser at standard conditions, 300,000 m3 of air with 10,000 ppm in and 100 ppm out, and 700 kg
-- of CO2 from fuel: 35,453,067,500 mg to the last digit, 35 tonnes
example : Used
example =
    record {
      intervals = 1;
      devices = 1;
      counted = λ d k. true;
      inlet = λ d k. gas_of 30000 10000 (pos 2000) 101325;
      exhaust = λ d k. gas_of 30000 100 (pos 2000) 101325;
      fuels = 1;
      quantity = λ k. 1000;
      factor = λ k. 700000;
    }

example_least : as_fraction (pos 35453067500) ≤ᶠ exact_reduction example
unfolding example exact_reduction exact_device_mg exact_unburnt_mg exact_carbon_mg exact_inlet exact_exhaust exact_methane fuel_in_mg
example_least = record { across = record { le = tt } }

example_most : exact_reduction example ≤ᶠ as_fraction (pos 35453067500)
unfolding example exact_reduction exact_device_mg exact_unburnt_mg exact_carbon_mg exact_inlet exact_exhaust exact_methane fuel_in_mg
example_most = record { across = record { le = tt } }

example_litres : (reported_inlet example 0 ≡ 3000000) × (reported_exhaust example 0 ≡ 30000)
unfolding example reported_inlet reported_exhaust methane_litres methane_litres_in hundredths_of correction_down methane_litres_up methane_litres_up_in correction_up
example_litres = (refl, refl)

example_tonnes : tonnes_with 1 (λ d. 3000000) (λ d. 30000) 700000000 ≡ pos 35
unfolding tonnes_with reduction_of baseline_in_mg carbon_dioxide_mg uncombusted_in_mg tonnes_of
example_tonnes = refl

example_distance : promised 1 ≡ interval_mg
unfolding promised
example_distance = refl
