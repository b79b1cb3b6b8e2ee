-- The order of test of drainage gas: which steps a call goes through, and what comes of it. The steps are in crates/steps.
-- Assumes nothing.
use Rattle.std.specs.Prelude.{ℕ, ◌*◌, ◌≡◌, List, [], ◌∷◌, length, Result}
use Rattle.refusals.specs.declared.Refusal.{Refusal}
use Rattle.refusals.specs.Table.{told_by}
use Rattle.protocol.specs.Ranges.{device_checks}
use Rattle.steps.specs.Step.{Step, verdict_of, Tells}
use Rattle.steps.specs.Steps.{intervals_step, devices_step, lengths_step, mine_step, kinds_step, misplaced_step, checks_step, fuels_step}
use Rattle.drainage_readings.specs.Readings.{readings_step}
use Rattle.drainage_judge.specs.Call.{Call}

-- rules 3.12 and 4.3: every lent slice's length, and beside it the one that N and D ask for; the fuel factors' is the
-- number of quantities
unfoldable pub lengths_of : Call → List (ℕ × ℕ)
lengths_of c =
    (length c.kinds, c.devices)
    ∷ (length c.checks.counts, 2 * c.devices)
    ∷ (length c.checks.positions, device_checks * c.devices)
    ∷ (length c.checks.drifts, device_checks * c.devices)
    ∷ (length c.series.flow, c.devices * c.intervals)
    ∷ (length c.series.content, c.devices * c.intervals)
    ∷ (length c.series.temp, c.devices * c.intervals)
    ∷ (length c.series.press, c.devices * c.intervals)
    ∷ (length c.series.status, c.devices * c.intervals)
    ∷ (c.outcome_length, c.devices * c.intervals)
    ∷ (c.flow_row_length, c.devices * c.intervals)
    ∷ (c.content_row_length, c.devices * c.intervals)
    ∷ (length c.fuel.factor, length c.fuel.quantity)
    ∷ []

-- rule 5.1: the order of test
abbrev pub steps_of : Call → List Step
steps_of c =
    intervals_step c.intervals
    ∷ devices_step c.devices
    ∷ lengths_step (lengths_of c)
    ∷ mine_step c.mine
    ∷ kinds_step c.kinds
    ∷ misplaced_step c.mine c.kinds
    ∷ checks_step c.intervals c.checks
    ∷ readings_step c.intervals c.series
    ∷ fuels_step c.fuel
    ∷ []

-- what is answered before anything is worked out: nothing is wrong, or the first refusal
unfoldable pub judged : Call → Result Unit Refusal
judged c = verdict_of (steps_of c)

-- what a verdict is promised to be: that one, and told with the number, the device and the place of the table
pub record Judged (c : Call) (v : Result Unit Refusal) : Type 0 where
  pub verdict : v ≡ judged c
  pub told : Tells (steps_of c) (told_by v)
