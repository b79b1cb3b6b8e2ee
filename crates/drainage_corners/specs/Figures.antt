-- Whole sheets, from the call to the last line.
-- Assumes nothing.
use Rattle.std.specs.Prelude.{ℕ, ◌≡◌, refl, [], ◌∷◌, ℤ, pos, negsuc}
use Rattle.figures.specs.declared.Figures.{Figures}
use Rattle.volume.specs.Volume.{methane_litres, methane_litres_in, hundredths_of, correction_down}
use Rattle.balance.specs.Balance.{destroyed_of, uncombusted_of, baseline_in_mg, carbon_dioxide_mg, uncombusted_in_mg, fuel_in_mg, reduction_of, tonnes_of, credits_of}
use Rattle.drainage_window.specs.Window.{tally_of, mean_of, limit_of, meets, greatest_up_to}
use Rattle.drainage_drift.specs.Drift.{corrected_at, kept_or, corrected, stretch_drift, together}
use Rattle.drainage_runs.specs.Runs.{gap_start, gap_end, run, whole, usable}
use Rattle.drainage_gaps.specs.Gaps.{class_of, window_values, replacement_of, replacement_at}
use Rattle.drainage_outcomes.specs.Outcomes.{outcome_of, litres_for}
use Rattle.drainage_device.specs.Device.{instrument_of, corrected_flow, corrected_content, outcome_at, value_at, flow_used_at, content_used_at, litres_at, methane_of, account_of}
use Rattle.drainage_devices.specs.Devices.{records_of}
use Rattle.accounts.specs.Totals.{counted_in, replaced_in, excluded_in, totals_over}
use Rattle.accounts.specs.Sheet.{fuel_sum, figures_from}
use Rattle.drainage.specs.Sheet.{figures_of}
use Rattle.drainage_corners.specs.Calls.{worked, injected, stopped, gapped}

-- one counted interval of 3,000,000 l: destroyed, uncombusted, mg, tonnes
abbrev burnt : ℕ → ℕ → ℕ → ℕ → ℕ → ℕ → ℕ → Figures
burnt destroyed uncombusted co2 left fuel reduction tonnes =
    record {
      intervals = 1;
      devices = 1;
      counted = 1;
      replaced = 0;
      excluded = 0;
      methane_l = 3000000;
      destroyed_l = destroyed;
      uncombusted_l = uncombusted;
      baseline_mg = 42021000000;
      co2_mg = co2;
      uncombusted_mg = left;
      fuel_mg = fuel;
      reduction_mg = pos reduction;
      tonnes = pos tonnes;
      credits = tonnes;
    }

-- one excluded interval and so much fuel
abbrev excluded : ℕ → ℤ → ℤ → Figures
excluded fuel reduction tonnes =
    record {
      intervals = 1;
      devices = 1;
      counted = 0;
      replaced = 0;
      excluded = 1;
      methane_l = 0;
      destroyed_l = 0;
      uncombusted_l = 0;
      baseline_mg = 0;
      co2_mg = 0;
      uncombusted_mg = 0;
      fuel_mg = fuel;
      reduction_mg = reduction;
      tonnes = tonnes;
      credits = 0;
    }

-- rule 14.2: the worked example's sheet; pipeline injection; and rule 9.12 on reductions of 0, -1 mg, exactly -1 tonne,
-- and -1 tonne and 1 mg
sheets : (figures_of worked ≡ burnt 2985000 15000 5475236250 210105000 700000000 35635658750 35)
    × (figures_of injected ≡ burnt 2880000 120000 5282640000 1680840000 0 35057520000 35)
    × (figures_of (stopped [] []) ≡ excluded 0 (pos 0) (pos 0))
    × (figures_of (stopped (1 ∷ []) (1 ∷ [])) ≡ excluded 1 (negsuc 0) (negsuc 0))
    × (figures_of (stopped (1000 ∷ []) (1000000 ∷ [])) ≡ excluded 1000000000 (negsuc 999999999) (negsuc 0))
    × (figures_of (stopped (1000 ∷ 1 ∷ []) (1000000 ∷ 1 ∷ [])) ≡ excluded 1000000001 (negsuc 1000000000) (negsuc 1))
unfolding figures_of figures_from fuel_sum totals_over counted_in replaced_in excluded_in account_of records_of methane_of litres_at litres_for methane_litres methane_litres_in hundredths_of correction_down outcome_at outcome_of flow_used_at content_used_at value_at corrected_flow corrected_content instrument_of corrected_at kept_or corrected stretch_drift together destroyed_of uncombusted_of baseline_in_mg carbon_dioxide_mg uncombusted_in_mg fuel_in_mg reduction_of tonnes_of credits_of
sheets = (refl, refl, refl, refl, refl, refl)

-- rule 11.3: of 33 intervals one is replaced and all are counted
mended : ((figures_of (gapped 16)).counted ≡ 33) × ((figures_of (gapped 16)).replaced ≡ 1) × ((figures_of (gapped 16)).excluded ≡ 0)
unfolding figures_of figures_from totals_over counted_in replaced_in excluded_in account_of records_of outcome_at outcome_of value_at corrected_flow corrected_content instrument_of corrected_at kept_or corrected stretch_drift together replacement_at replacement_of gap_start gap_end run whole usable class_of tally_of mean_of limit_of meets greatest_up_to window_values
mended = (refl, refl, refl)
