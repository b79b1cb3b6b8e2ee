-- What is known of a call that is not refused, in plain facts: for the crates above, which work with no step.
-- Assumes nothing.
use Prim.Native.Nat.{ℕ, ◌+◌, ◌*◌, ◌≤◌, ◌<◌}
use mathlib.Core.Path.{◌≡◌, sym, subst}
use mathlib.Core.Bool.{true, false}
use native.Mathlib.Omega.{arith}
use lib.IntN.{pos}
use lib.ListN.{length, get_or}
use Rattle.std.proofs.Common.{Ok}
use Rattle.protocol.specs.Kinds.{is_kind, misplaced}
use Rattle.protocol.specs.Ranges.{intervals_most, devices_most, checks_most, drift_right}
use Rattle.columns.specs.Series.{ChecksLong, Long, InRange, Burnable}
use Rattle.steps.specs.Step.{step_verdict, Clear, AllClear}
use Rattle.steps.specs.Steps.{intervals_step, devices_step, lengths_step, mine_step, kinds_step, misplaced_step, checks_step, fuels_step}
use Rattle.steps.specs.Scans.{Kept}
use Rattle.steps.proofs.Verdicts.{step_clear, Among, clear_of}
use Rattle.steps.proofs.Clear.{within_least, within_most, intervals_clear, devices_clear, lengths_clear, mine_clear, kinds_clear, placed_clear, fuels_clear}
use Rattle.steps.proofs.Clear.{count_clear, position_clear, drift_clear, rise_clear}
use Rattle.drainage_readings.specs.Readings.{readings_step}
use Rattle.drainage_readings.proofs.Laws.{readings_clear}
use Rattle.drainage_judge.specs.Call.{Call}
use Rattle.drainage_judge.specs.Order.{lengths_of, steps_of, judged}
use Rattle.drainage_judge.proofs.Laws.{judged_clear}

-- N and D are within their limits, and every slice that is read is as long as they ask
pub record Sized (c : Call) : Type 0 where
  pub intervals_least : 1 ≤ c.intervals
  pub intervals_within : c.intervals ≤ intervals_most
  pub devices_least : 1 ≤ c.devices
  pub devices_within : c.devices ≤ devices_most
  pub kinds_long : length c.kinds ≡ c.devices
  pub roomy : ChecksLong c.checks c.devices
  pub long : Long c.series (c.devices * c.intervals)
  pub factor_long : length c.fuel.factor ≡ length c.fuel.quantity

-- Instrument g of device d is 2 d for flow and 2 d + 1 for CH4; check j of it stands at 32 g + j.
pub record Unrefused (c : Call) : Type 0 where
  pub shape : Sized c
  pub outcome_long : c.outcome_length ≡ c.devices * c.intervals
  pub flow_row_long : c.flow_row_length ≡ c.devices * c.intervals
  pub content_row_long : c.content_row_length ≡ c.devices * c.intervals
  pub mine_most : c.mine ≤ 1
  pub kind_right : (d : ℕ) → d < c.devices → is_kind (get_or c.kinds d 0) ≡ true
  pub kind_placed : (d : ℕ) → d < c.devices → misplaced c.mine (get_or c.kinds d 0) ≡ false
  pub count_most : (g : ℕ) → g < 2 * c.devices → get_or c.checks.counts g 0 ≤ checks_most
  pub position_most : (g j : ℕ) → g < 2 * c.devices → j < get_or c.checks.counts g 0
      → get_or c.checks.positions (checks_most * g + j) 0 ≤ c.intervals
  pub drift_in_range : (g j : ℕ) → g < 2 * c.devices → j < get_or c.checks.counts g 0
      → drift_right (get_or c.checks.drifts (checks_most * g + j) (pos 0)) ≡ true
  pub positions_rise : (g j k : ℕ) → g < 2 * c.devices → j < k → k < get_or c.checks.counts g 0
      → get_or c.checks.positions (checks_most * g + j) 0 < get_or c.checks.positions (checks_most * g + k) 0
  pub readings_in_range : InRange c.series (c.devices * c.intervals)
  pub burnable : Burnable c.fuel

-- ---- the shape, where the lengths are those that are asked

module _ (c : Call) (clear : Clear (lengths_step (lengths_of c))) where
  -- length k of the list
  same : (k : ℕ) → k < length (lengths_of c) → (get_or (lengths_of c) k (0, 0)).0 ≡ (get_or (lengths_of c) k (0, 0)).1
  same = lengths_clear (lengths_of c) clear

  pub sized : Clear (intervals_step c.intervals) → Clear (devices_step c.devices) → Sized c
  unfolding lengths_of
  sized n d =
      let n-right = intervals_clear c.intervals n in
      let d-right = devices_clear c.devices d in
      record {
        intervals_least = within_least _ _ n-right;
        intervals_within = within_most _ _ n-right;
        devices_least = within_least _ _ d-right;
        devices_within = within_most _ _ d-right;
        kinds_long = same 0 (omega arith);
        roomy = record { counts = same 1 (omega arith); positions = same 2 (omega arith); drifts = same 3 (omega arith) };
        long =
            record {
              flow = same 4 (omega arith);
              content = same 5 (omega arith);
              temp = same 6 (omega arith);
              press = same 7 (omega arith);
              status = same 8 (omega arith);
            };
        factor_long = same 12 (omega arith);
      }

  outcome_is : c.outcome_length ≡ c.devices * c.intervals
  unfolding lengths_of
  outcome_is = same 9 (omega arith)

  flow_row_is : c.flow_row_length ≡ c.devices * c.intervals
  unfolding lengths_of
  flow_row_is = same 10 (omega arith)

  content_row_is : c.content_row_length ≡ c.devices * c.intervals
  unfolding lengths_of
  content_row_is = same 11 (omega arith)

-- where the first steps of the order refuse nothing, the others can look at what is lent
module _ (c : Call) (n : Ok tt ≡ step_verdict (intervals_step c.intervals)) (d : Ok tt ≡ step_verdict (devices_step c.devices)) where
  pub in_limits : (c.intervals ≤ intervals_most) × (c.devices ≤ devices_most)
  in_limits = (within_most _ _ (intervals_clear _ (step_clear n)), within_most _ _ (devices_clear _ (step_clear d)))

  module _ (l : Ok tt ≡ step_verdict (lengths_step (lengths_of c))) where
    shape : Sized c
    shape = sized c (step_clear l) (step_clear n) (step_clear d)

    pub kept : Kept c.checks
    kept =
        let x = shape in
        record {
          few = omega (arith, x.roomy.counts, x.devices_within);
          positions = omega (arith, x.roomy.counts, x.roomy.positions);
          drifts = omega (arith, x.roomy.drifts, x.roomy.positions);
        }

    pub series_long : (0 < c.intervals) × Long c.series (length c.series.flow)
    series_long = let x = shape in (x.intervals_least, subst (Long c.series) (sym x.long.flow) x.long)

    pub factors_long : length c.fuel.factor ≡ length c.fuel.quantity
    factors_long = shape.factor_long

-- ---- a call that is not refused

all_clear : (c : Call) → AllClear (steps_of c) → Unrefused c
all_clear c a =
    let intervals : Clear (intervals_step c.intervals) = clear_of a Among.top in
    let devices : Clear (devices_step c.devices) = clear_of a (search (Among.top, Among.under) depth 12) in
    let lengths : Clear (lengths_step (lengths_of c)) = clear_of a (search (Among.top, Among.under) depth 12) in
    let mine : Clear (mine_step c.mine) = clear_of a (search (Among.top, Among.under) depth 12) in
    let kinds : Clear (kinds_step c.kinds) = clear_of a (search (Among.top, Among.under) depth 12) in
    let placed : Clear (misplaced_step c.mine c.kinds) = clear_of a (search (Among.top, Among.under) depth 12) in
    let checks : Clear (checks_step c.intervals c.checks) = clear_of a (search (Among.top, Among.under) depth 12) in
    let readings : Clear (readings_step c.intervals c.series) = clear_of a (search (Among.top, Among.under) depth 12) in
    let fuels : Clear (fuels_step c.fuel) = clear_of a (search (Among.top, Among.under) depth 12) in
    let shape : Sized c = sized c lengths intervals devices in
    let kind : (d : ℕ) → d < c.devices → d < length c.kinds = λ d h. omega (arith, shape.kinds_long) in
    let instrument : (g : ℕ) → g < 2 * c.devices → g < length c.checks.counts = λ g h. omega (arith, shape.roomy.counts) in
    record {
      shape = shape;
      outcome_long = outcome_is c lengths;
      flow_row_long = flow_row_is c lengths;
      content_row_long = content_row_is c lengths;
      mine_most = mine_clear c.mine mine;
      kind_right = λ d h. kinds_clear c.kinds kinds d (kind d h);
      kind_placed = λ d h. placed_clear c.mine c.kinds placed d (kind d h);
      count_most = λ g h. count_clear c.intervals c.checks checks g (instrument g h);
      position_most = λ g j h. position_clear c.intervals c.checks checks g (instrument g h) j;
      drift_in_range = λ g j h. drift_clear c.intervals c.checks checks g (instrument g h) j;
      positions_rise = λ g j k h. rise_clear c.intervals c.checks checks g (instrument g h) j k;
      readings_in_range = subst (InRange c.series) shape.long.flow (readings_clear c.intervals c.series readings);
      burnable = fuels_clear c.fuel fuels shape.factor_long;
    }

pub unrefused : (c : Call) → judged c ≡ Ok tt → Unrefused c
unrefused c e = all_clear c (judged_clear c e)
