-- Whole calls: the row, the account and the sheet.
-- Assumes nothing.
use Rattle.std.specs.Prelude.{◌≡◌, refl, List, [], ◌∷◌, ◌++◌, pos, negsuc, replicate, Ok}
use Rattle.protocol.specs.Ranges.{mark}
use Rattle.volume.specs.Volume.{correction_down, correction_up, hundredths_of, methane_litres_in, methane_litres, methane_litres_up_in, methane_litres_up}
use Rattle.balance.specs.Balance.{baseline_in_mg, carbon_dioxide_mg, uncombusted_in_mg, fuel_in_mg, reduction_of, tonnes_of, credits_of}
use Rattle.steps.specs.Step.{verdict_of}
use Rattle.steps.specs.Wrong.{wrong_fuel}
use Rattle.steps.specs.Steps.{intervals_step, devices_step, lengths_step, fuels_step}
use Rattle.accounts.specs.Totals.{counted_in, replaced_in, excluded_in, totals_over}
use Rattle.accounts.specs.Sheet.{fuel_sum, figures_from}
use Rattle.ventilation_readings.specs.Readings.{wrong_reading, readings_step}
use Rattle.ventilation_judge.specs.Call.{Call}
use Rattle.ventilation_judge.specs.Order.{lengths_of, judged}
use Rattle.ventilation_device.specs.Outcomes.{inlet_litres, exhaust_litres, outcome_of, entry_of}
use Rattle.ventilation_device.specs.Device.{entry_at, inlet_of, exhaust_of, account_of}
use Rattle.ventilation_devices.specs.Devices.{outcome_part, Results, results_of}
use Rattle.ventilation.specs.Sheet.{lent_in, figures_of}
use Rattle.ventilation_corners.specs.Calls.{Interval, call_of, standard, densest, interval, worked}

-- what a call of one device gives, where nothing stood in the accounts
abbrev after : Call → Results
after c = results_of (lent_in c) 1 (record { outcome = []; accounts = replicate 208 0 })

-- rule 19.13: the worked example is accepted, and its account and its sheet
accepted : judged worked ≡ Ok tt
unfolding judged verdict_of intervals_step devices_step lengths_of lengths_step wrong_reading readings_step wrong_fuel fuels_step
accepted = refl

account : after worked
    ≡ record { outcome = 0 ∷ []; accounts = (1 ∷ 0 ∷ 0 ∷ 0 ∷ 0 ∷ 0 ∷ 0 ∷ 0 ∷ 0 ∷ 0 ∷ 3000000 ∷ 2970000 ∷ 30000 ∷ []) ++ replicate 195 0 }
unfolding results_of outcome_part account_of inlet_of exhaust_of entry_at entry_of outcome_of methane_litres methane_litres_in hundredths_of correction_down methane_litres_up methane_litres_up_in correction_up
account = refl

sheet : figures_of worked
    ≡ record {
      intervals = 1;
      devices = 1;
      counted = 1;
      replaced = 0;
      excluded = 0;
      methane_l = 3000000;
      destroyed_l = 2970000;
      uncombusted_l = 30000;
      baseline_mg = 42021000000;
      co2_mg = 5447722500;
      uncombusted_mg = 420210000;
      fuel_mg = 700000000;
      reduction_mg = pos 35453067500;
      tonnes = pos 35;
      credits = 35;
    }
unfolding figures_of figures_from totals_over counted_in replaced_in excluded_in fuel_sum fuel_in_mg reduction_of tonnes_of credits_of baseline_in_mg carbon_dioxide_mg uncombusted_in_mg account_of inlet_of exhaust_of entry_at entry_of outcome_of methane_litres methane_litres_in hundredths_of correction_down methane_litres_up methane_litres_up_in correction_up
sheet = refl

-- as much out as in, stopped, unrecorded, the same readings, a reading missing, and 50,000 l in with 1,000 out; 3 is before 6
mixed : List Interval
mixed =
    interval (standard 1000 5000) (standard 1000 5000) 1
    ∷ interval densest densest 0
    ∷ interval densest densest 3
    ∷ interval densest densest 1
    ∷ interval densest (standard mark 0) 2
    ∷ interval (standard 1000 5000) (standard 1000 100) 2
    ∷ []

row_of_mixed : after (call_of mixed [] [])
    ≡ record {
      outcome = 0 ∷ 3 ∷ 4 ∷ 6 ∷ 5 ∷ 0 ∷ [];
      accounts = (2 ∷ 0 ∷ 0 ∷ 1 ∷ 1 ∷ 1 ∷ 1 ∷ 0 ∷ 0 ∷ 0 ∷ 100000 ∷ 49000 ∷ 51000 ∷ []) ++ replicate 195 0;
    }
unfolding mixed results_of outcome_part account_of inlet_of exhaust_of entry_at entry_of outcome_of methane_litres methane_litres_in hundredths_of correction_down methane_litres_up methane_litres_up_in correction_up
row_of_mixed = refl

-- CO2 is that of the 49,000 l of difference: 7,337 × 49,000 / 4
figures_of_mixed : ((figures_of (call_of mixed [] [])).counted ≡ 2) × ((figures_of (call_of mixed [] [])).excluded ≡ 4)
    × ((figures_of (call_of mixed [] [])).co2_mg ≡ 89878250) × ((figures_of (call_of mixed [] [])).reduction_mg ≡ pos 596464750)
unfolding mixed figures_of figures_from totals_over counted_in replaced_in excluded_in fuel_sum fuel_in_mg reduction_of baseline_in_mg carbon_dioxide_mg uncombusted_in_mg account_of inlet_of exhaust_of entry_at entry_of outcome_of methane_litres methane_litres_in hundredths_of correction_down methane_litres_up methane_litres_up_in correction_up
figures_of_mixed = (refl, refl, refl, refl)

-- an oxidiser that destroys nothing, and one tonne and 1 mg of fuel: -2 tonnes, and no credits
losing : ((figures_of (call_of (interval (standard 1000 5000) (standard 1000 5000) 1 ∷ []) (1000 ∷ 1 ∷ []) (1000000 ∷ 1 ∷ []))).tonnes ≡ negsuc 1)
    × ((figures_of (call_of (interval (standard 1000 5000) (standard 1000 5000) 1 ∷ []) (1000 ∷ 1 ∷ []) (1000000 ∷ 1 ∷ []))).credits ≡ 0)
unfolding figures_of figures_from totals_over fuel_sum fuel_in_mg reduction_of tonnes_of credits_of baseline_in_mg carbon_dioxide_mg uncombusted_in_mg account_of inlet_of exhaust_of entry_at entry_of outcome_of methane_litres methane_litres_in hundredths_of correction_down methane_litres_up methane_litres_up_in correction_up
losing = (refl, refl)
