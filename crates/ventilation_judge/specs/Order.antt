-- The order of test of ventilation air: which steps a call goes through, and what comes of it.
-- Assumes nothing.
use Rattle.std.specs.Prelude.{ℕ, ◌*◌, ◌≡◌, List, [], ◌∷◌, length, Result}
use Rattle.refusals.specs.declared.Refusal.{Refusal}
use Rattle.refusals.specs.Table.{told_by}
use Rattle.steps.specs.Step.{Step, verdict_of, Tells}
use Rattle.steps.specs.Steps.{intervals_step, devices_step, lengths_step, fuels_step}
use Rattle.ventilation_readings.specs.Readings.{readings_step}
use Rattle.ventilation_judge.specs.Call.{Call}

-- rule 19.4: every lent slice's length, and beside it the one that N and D ask for; the fuel factors' is the number of
-- quantities
unfoldable pub lengths_of : Call → List (ℕ × ℕ)
lengths_of c =
    (length c.air.inlet.flow, c.devices * c.intervals)
    ∷ (length c.air.inlet.ppm, c.devices * c.intervals)
    ∷ (length c.air.inlet.temp, c.devices * c.intervals)
    ∷ (length c.air.inlet.press, c.devices * c.intervals)
    ∷ (length c.air.exhaust.flow, c.devices * c.intervals)
    ∷ (length c.air.exhaust.ppm, c.devices * c.intervals)
    ∷ (length c.air.exhaust.temp, c.devices * c.intervals)
    ∷ (length c.air.exhaust.press, c.devices * c.intervals)
    ∷ (length c.air.status, c.devices * c.intervals)
    ∷ (c.outcome_length, c.devices * c.intervals)
    ∷ (length c.fuel.factor, length c.fuel.quantity)
    ∷ []

-- rule 19.6: the order of test
abbrev pub steps_of : Call → List Step
steps_of c =
    intervals_step c.intervals
    ∷ devices_step c.devices
    ∷ lengths_step (lengths_of c)
    ∷ readings_step c.intervals c.air
    ∷ fuels_step c.fuel
    ∷ []

-- what is answered before anything is worked out: nothing is wrong, or the first refusal
unfoldable pub judged : Call → Result Unit Refusal
judged c = verdict_of (steps_of c)

-- what a verdict is promised to be: that one, and told with the number, the device and the place of the table
pub record Judged (c : Call) (v : Result Unit Refusal) : Type 0 where
  pub verdict : v ≡ judged c
  pub told : Tells (steps_of c) (told_by v)
