-- Entries of the three rows and of the accounts.
-- Assumes nothing.
use Rattle.std.specs.Prelude.{ℕ, ◌≡◌, refl, [], ◌∷◌, ◌++◌, pos, negsuc, get_or, replicate}
use Rattle.drainage_window.specs.Window.{tally_of, mean_of, limit_of, meets, greatest_up_to}
use Rattle.drainage_drift.specs.Drift.{corrected_at, kept_or, corrected, stretch_drift, together}
use Rattle.drainage_runs.specs.Runs.{gap_start, gap_end, run, whole, usable}
use Rattle.drainage_gaps.specs.Gaps.{class_of, window_values, replacement_of, replacement_at}
use Rattle.drainage_judge.specs.Call.{Call}
use Rattle.volume.specs.Volume.{methane_litres, methane_litres_in, hundredths_of, correction_down}
use Rattle.balance.specs.Balance.{destroyed_of, uncombusted_of}
use Rattle.drainage_outcomes.specs.Outcomes.{outcome_of, litres_for}
use Rattle.drainage_device.specs.Device.{instrument_of, corrected_flow, corrected_content, outcome_at, value_at, flow_used_at, content_used_at, litres_at, methane_of, account_of}
use Rattle.drainage_devices.specs.Devices.{records_of, outcome_part, flow_part, content_part, Results, results_of}
use Rattle.drainage.specs.Sheet.{lent_in}
use Rattle.drainage_corners.specs.Calls.{worked, checked, gapped}

-- the results of a call with one device, where nothing stood in the accounts
abbrev after : Call → Results
after c = results_of (lent_in c) 1 (record { outcome = []; flow = []; content = []; accounts = replicate 208 0 })

-- the worked example's rows (rule 14.1), and its device's account: one interval with outcome 0, and the litres of rule 14.2
measured : after worked
    ≡ record {
      outcome = 0 ∷ [];
      flow = 30000 ∷ [];
      content = 10000 ∷ [];
      accounts = (1 ∷ 0 ∷ 0 ∷ 0 ∷ 0 ∷ 0 ∷ 0 ∷ 0 ∷ 0 ∷ 0 ∷ 3000000 ∷ 2985000 ∷ 15000 ∷ []) ++ replicate 195 0;
    }
unfolding results_of outcome_part flow_part content_part account_of methane_of litres_at litres_for methane_litres methane_litres_in hundredths_of correction_down destroyed_of uncombusted_of records_of outcome_at outcome_of flow_used_at content_used_at value_at corrected_flow corrected_content instrument_of corrected_at kept_or corrected stretch_drift together
measured = refl

-- rule 6.4: checks at 0 and at N of one interval. Both failed: the greater drift counts (rule 6.5). One failed and one
-- passed: the failed one, as a passed check there cuts nothing off (rule 6.3). 90 % low and 5 % high: the high one.
ends : ((after (checked 0 1 (pos 500) (pos 700))).flow ≡ 934 ∷ []) × ((after (checked 0 1 (pos 700) (pos 0))).flow ≡ 934 ∷ [])
    × ((after (checked 0 1 (pos 0) (pos 700))).flow ≡ 934 ∷ []) × ((after (checked 0 1 (negsuc 8999) (pos 500))).flow ≡ 952 ∷ [])
unfolding results_of outcome_part flow_part content_part records_of outcome_at outcome_of flow_used_at content_used_at value_at corrected_flow corrected_content instrument_of corrected_at kept_or corrected stretch_drift together
ends = (refl, refl, refl, refl)

-- the outcome and the flow used at interval i
abbrev entry : Call → ℕ → ℕ × ℕ
entry c i = (get_or (after c).outcome i 99, get_or (after c).flow i 99)

-- rule 7.5: a gap of one with 16 measured on either side is replaced by their mean. With fewer on a side, at the row's
-- start or at its end, its windows are not whole (rule 7.2): outcome 9 (rule 8.1), and 0 for the flow (rule 8.4).
gaps : (entry (gapped 16) 16 ≡ (1, 100)) × (entry (gapped 15) 15 ≡ (9, 0)) × (entry (gapped 0) 0 ≡ (9, 0)) × (entry (gapped 32) 32 ≡ (9, 0))
unfolding results_of outcome_part flow_part content_part records_of outcome_at outcome_of flow_used_at content_used_at value_at corrected_flow corrected_content instrument_of corrected_at kept_or corrected stretch_drift together replacement_at replacement_of gap_start gap_end run whole usable class_of tally_of mean_of limit_of meets greatest_up_to window_values
gaps = (refl, refl, refl, refl)
