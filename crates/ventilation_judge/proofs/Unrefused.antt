-- What is known of a call that is not refused, in plain facts: for the crates above, which work with no step.
-- Assumes nothing.
use Prim.Native.Nat.{ℕ, ◌*◌, ◌≤◌, ◌<◌}
use mathlib.Core.Path.{◌≡◌, sym, subst}
use native.Mathlib.Omega.{arith}
use lib.ListN.{length, get_or}
use Rattle.std.proofs.Common.{Ok}
use Rattle.protocol.specs.Ranges.{intervals_most, devices_most}
use Rattle.columns.specs.Series.{Burnable}
use Rattle.columns.specs.Streams.{AirLong, AirRight}
use Rattle.steps.specs.Step.{step_verdict, Clear, AllClear}
use Rattle.steps.specs.Steps.{intervals_step, devices_step, lengths_step, fuels_step}
use Rattle.steps.proofs.Verdicts.{step_clear, Among, clear_of}
use Rattle.steps.proofs.Clear.{within_least, within_most, intervals_clear, devices_clear, lengths_clear, fuels_clear}
use Rattle.ventilation_readings.specs.Readings.{readings_step}
use Rattle.ventilation_readings.proofs.Laws.{readings_clear}
use Rattle.ventilation_judge.specs.Call.{Call}
use Rattle.ventilation_judge.specs.Order.{lengths_of, steps_of, judged}
use Rattle.ventilation_judge.proofs.Laws.{judged_clear}

-- N and D are within their limits, and every slice that is read is as long as they ask
pub record Sized (c : Call) : Type 0 where
  pub intervals_least : 1 ≤ c.intervals
  pub intervals_within : c.intervals ≤ intervals_most
  pub devices_least : 1 ≤ c.devices
  pub devices_within : c.devices ≤ devices_most
  pub long : AirLong c.air (c.devices * c.intervals)
  pub factor_long : length c.fuel.factor ≡ length c.fuel.quantity

pub record Unrefused (c : Call) : Type 0 where
  pub shape : Sized c
  pub outcome_long : c.outcome_length ≡ c.devices * c.intervals
  pub right : AirRight c.air (c.devices * c.intervals)
  pub burnable : Burnable c.fuel

-- ---- the shape, where the lengths are those that are asked

module _ (c : Call) (clear : Clear (lengths_step (lengths_of c))) where
  -- length k of the list
  same : (k : ℕ) → k < length (lengths_of c) → (get_or (lengths_of c) k (0, 0)).0 ≡ (get_or (lengths_of c) k (0, 0)).1
  same = lengths_clear (lengths_of c) clear

  pub sized : Clear (intervals_step c.intervals) → Clear (devices_step c.devices) → Sized c
  unfolding lengths_of
  sized n d =
      let n-right = intervals_clear c.intervals n in
      let d-right = devices_clear c.devices d in
      record {
        intervals_least = within_least _ _ n-right;
        intervals_within = within_most _ _ n-right;
        devices_least = within_least _ _ d-right;
        devices_within = within_most _ _ d-right;
        long =
            record {
              inlet = record { flow = same 0 (omega arith); ppm = same 1 (omega arith); temp = same 2 (omega arith); press = same 3 (omega arith) };
              exhaust = record { flow = same 4 (omega arith); ppm = same 5 (omega arith); temp = same 6 (omega arith); press = same 7 (omega arith) };
              status = same 8 (omega arith);
            };
        factor_long = same 10 (omega arith);
      }

  outcome_is : c.outcome_length ≡ c.devices * c.intervals
  unfolding lengths_of
  outcome_is = same 9 (omega arith)

-- where the first steps of the order refuse nothing, the others can look at what is lent
module _ (c : Call) (n : Ok tt ≡ step_verdict (intervals_step c.intervals)) (d : Ok tt ≡ step_verdict (devices_step c.devices)) where
  pub in_limits : (c.intervals ≤ intervals_most) × (c.devices ≤ devices_most)
  in_limits = (within_most _ _ (intervals_clear _ (step_clear n)), within_most _ _ (devices_clear _ (step_clear d)))

  module _ (l : Ok tt ≡ step_verdict (lengths_step (lengths_of c))) where
    shape : Sized c
    shape = sized c (step_clear l) (step_clear n) (step_clear d)

    pub air_long : (0 < c.intervals) × AirLong c.air (length c.air.status)
    air_long = let x = shape in (x.intervals_least, subst (AirLong c.air) (sym x.long.status) x.long)

    pub factors_long : length c.fuel.factor ≡ length c.fuel.quantity
    factors_long = shape.factor_long

-- ---- a call that is not refused

all_clear : (c : Call) → AllClear (steps_of c) → Unrefused c
all_clear c a =
    let intervals : Clear (intervals_step c.intervals) = clear_of a Among.top in
    let devices : Clear (devices_step c.devices) = clear_of a (search (Among.top, Among.under) depth 12) in
    let lengths : Clear (lengths_step (lengths_of c)) = clear_of a (search (Among.top, Among.under) depth 12) in
    let readings : Clear (readings_step c.intervals c.air) = clear_of a (search (Among.top, Among.under) depth 12) in
    let fuels : Clear (fuels_step c.fuel) = clear_of a (search (Among.top, Among.under) depth 12) in
    let shape : Sized c = sized c lengths intervals devices in
    record {
      shape = shape;
      outcome_long = outcome_is c lengths;
      right = subst (AirRight c.air) shape.long.status (readings_clear c.intervals c.air readings);
      burnable = fuels_clear c.fuel fuels shape.factor_long;
    }

pub unrefused : (c : Call) → judged c ≡ Ok tt → Unrefused c
unrefused c e = all_clear c (judged_clear c e)
