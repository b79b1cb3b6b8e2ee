-- The exact reduction (rule 10.1), beside what is reported of the same values, and the distance that may lie between
-- the two (rules 10.3 and 10.4).
-- Assumes nothing.
use Rattle.std.specs.Prelude.{ℕ, ◌+◌, ◌-◌, ◌*◌, ◌≤◌, ◌<◌, ◌≡◌, refl, Bool, true, ℤ, pos}
use Rattle.rows.specs.Rows.{sum_to, pick}
use Rattle.protocol.specs.Numbers.{methane_mg}
use Rattle.protocol.specs.Kinds.{thousandths_of}
use Rattle.protocol.specs.Ranges.{kelvin_of, content_most}
use Rattle.volume.specs.Volume.{correction_over, correction_under, correction_down, parts_factor, hundredths_of, methane_under, methane_litres_in, methane_litres}
use Rattle.balance.specs.Balance.{fuel_in_mg, reduction_of, reduction_all, baseline_all, carbon_dioxide_all, uncombusted_all, baseline_in_mg, carbon_dioxide_mg, uncombusted_in_mg}
use Rattle.balance.specs.Balance.{destroyed_of, uncombusted_of, tonnes_of}
use Rattle.fractions.specs.Fraction.{Fraction, over, as_fraction, ◌-ᶠ◌, ◌*ᶠ◌, sumᶠ, ◌≤ᶠ◌}
use Rattle.fractions.specs.Worth.{exact_unburnt_mg, exact_carbon_mg}

-- The values used: of device d in interval k, whether the interval is counted, flow, CH4 content, temperature and
-- pressure, in the units of rule 3.3; each device's kind; the fuel lines.
pub record Used : Type 0 where
  pub intervals : ℕ
  pub devices : ℕ
  pub counted : ℕ → ℕ → Bool
  pub flow : ℕ → ℕ → ℕ
  pub content : ℕ → ℕ → ℕ
  pub temp : ℕ → ℕ → ℤ
  pub press : ℕ → ℕ → ℕ
  pub kind : ℕ → ℕ
  pub fuels : ℕ
  pub quantity : ℕ → ℕ
  pub factor : ℕ → ℕ

-- what accepted records give: a counted interval's temperature is above absolute zero and its content at most 100 %
pub record Possible (u : Used) : Type 0 where
  pub warm : (d k : ℕ) → d < u.devices → k < u.intervals → u.counted d k ≡ true → 0 < kelvin_of (u.temp d k)
  pub content_within : (d k : ℕ) → d < u.devices → k < u.intervals → u.counted d k ≡ true → u.content d k ≤ content_most

-- ---- exact

-- rule 9.1 without its rounding: hundredths of a litre at standard conditions
unfoldable pub exact_hundredths : ℕ → ℤ → ℕ → Fraction
exact_hundredths flow temp press = over (correction_over parts_factor flow press) (correction_under temp)

-- rule 9.2 without its rounding: litres of methane
unfoldable pub exact_methane : ℕ → ℕ → ℤ → ℕ → Fraction
exact_methane flow content temp press = exact_hundredths flow temp press *ᶠ over content methane_under

-- rule 9.3: over the counted intervals of device d
unfoldable pub exact_q : Used → ℕ → Fraction
exact_q u d =
    sumᶠ u.intervals (λ k.
    pick (u.counted d k) (exact_methane (u.flow d k) (u.content d k) (u.temp d k) (u.press d k)) (as_fraction (pos 0)))

-- rule 9.4 without its rounding
unfoldable pub exact_destroyed : ℕ → Fraction → Fraction
exact_destroyed kind q = q *ᶠ over (thousandths_of kind) 1000

-- rule 9.5 without its rounding
unfoldable pub exact_uncombusted : ℕ → Fraction → Fraction
exact_uncombusted kind q = q *ᶠ over (1000 - thousandths_of kind) 1000

-- rule 10.1: a device's baseline less CO2 and uncombusted
unfoldable pub exact_device_mg : ℕ → ℕ → Fraction → Fraction
exact_device_mg unburnt kind q =
    exact_unburnt_mg unburnt q -ᶠ exact_carbon_mg (exact_destroyed kind q) -ᶠ exact_unburnt_mg unburnt (exact_uncombusted kind q)

-- rule 10.1: over all devices, less the fuel, in mg
unfoldable pub exact_reduction : Used → Fraction
exact_reduction u =
    sumᶠ u.devices (λ d. exact_device_mg methane_mg (u.kind d) (exact_q u d))
    -ᶠ as_fraction (pos (fuel_in_mg u.fuels u.quantity u.factor))

-- ---- reported

-- rule 9.3: a device's methane litres as reported, each interval's rounded down
unfoldable pub reported_q : Used → ℕ → ℕ
reported_q u d =
    sum_to u.intervals (λ k.
    pick (u.counted d k) (methane_litres (u.flow d k) (u.content d k) (u.temp d k) (u.press d k)) 0)

-- rule 9.12: the tonnes as reported
unfoldable pub reported_tonnes : Used → ℤ
reported_tonnes u =
    tonnes_of (reduction_all u.devices u.kind (reported_q u) (fuel_in_mg u.fuels u.quantity u.factor))

-- ---- the distance between them

-- rule 10.4: 13 grams for each counted device-interval, in mg
abbrev pub interval_mg : ℕ
interval_mg = 13000

-- rule 10.4: 13 g for each device, in mg
abbrev pub device_mg : ℕ
device_mg = 13000

-- so much of so many counted device-intervals and so many devices
unfoldable pub promised : ℕ → ℕ → ℕ
promised counted devices = interval_mg * counted + device_mg * devices

-- rule 14.1: one interval of an enclosed flare at standard conditions, 3,000 m3 of pure methane, and 700 kg of CO2 from
-- fuel: 35,635,658,750 mg to the last digit (rule 14.3), 35 tonnes
example : Used
example =
    record {
      intervals = 1;
      devices = 1;
      counted = λ d k. true;
      flow = λ d k. 30000;
      content = λ d k. 10000;
      temp = λ d k. pos 2000;
      press = λ d k. 101325;
      kind = λ d. 2;
      fuels = 1;
      quantity = λ k. 1000;
      factor = λ k. 700000;
    }

example_least : as_fraction (pos 35635658750) ≤ᶠ exact_reduction example
unfolding example exact_reduction exact_device_mg exact_unburnt_mg exact_carbon_mg exact_destroyed exact_uncombusted exact_q exact_methane exact_hundredths fuel_in_mg
example_least = record { across = record { le = tt } }

example_most : exact_reduction example ≤ᶠ as_fraction (pos 35635658750)
unfolding example exact_reduction exact_device_mg exact_unburnt_mg exact_carbon_mg exact_destroyed exact_uncombusted exact_q exact_methane exact_hundredths fuel_in_mg
example_most = record { across = record { le = tt } }

example_tonnes : reported_tonnes example ≡ pos 35
unfolding example reported_tonnes reported_q methane_litres methane_litres_in hundredths_of correction_down tonnes_of reduction_all reduction_of baseline_all carbon_dioxide_all uncombusted_all baseline_in_mg carbon_dioxide_mg uncombusted_in_mg destroyed_of uncombusted_of fuel_in_mg
example_tonnes = refl

example_distance : promised 1 1 ≡ interval_mg + device_mg
unfolding promised
example_distance = refl
