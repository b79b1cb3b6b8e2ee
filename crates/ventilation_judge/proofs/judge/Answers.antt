-- The steps, one after the other: those passed, and the one that refuses.
use Rattle.std.proofs.Common.{rules}
use Rattle.steps.proofs.Verdicts.{Chain}
use Rattle.ventilation_judge.specs.Call.{call_in}
use Rattle.ventilation_judge.proofs.Laws.{judged_by, judged_stopped}
use Rattle.ventilation_judge.proofs.Unrefused.{in_limits, air_long, factors_long}
use Rattle.ventilation_judge.proofs.judge.Goals as goal

pub returns-in_err-intervals : goal.returns-in_err-intervals
returns-in_err-intervals c = judged_stopped _ c.in_err-intervals.field-0.0 _ (search rules) (search (Chain.passed, Chain.refused, rules) depth 30)

pub returns-in_err-devices : goal.returns-in_err-devices
returns-in_err-devices c = judged_stopped _ c.in_err-devices.field-0.0 _ (search rules) (search (Chain.passed, Chain.refused, rules) depth 30)

pub lengths-requires : goal.lengths-requires
lengths-requires c = in_limits (call_in c.args.call.now c.args.outcome_row) c.in_ok-intervals.ensures c.in_ok-devices.ensures

pub returns-in_err-lengths : goal.returns-in_err-lengths
returns-in_err-lengths c = judged_stopped _ c.in_err-lengths.field-0.0 _ (search rules) (search (Chain.passed, Chain.refused, rules) depth 30)

pub readings-requires : goal.readings-requires
readings-requires c = air_long (call_in c.args.call.now c.args.outcome_row) c.in_ok-intervals.ensures c.in_ok-devices.ensures c.in_ok-lengths.ensures

pub returns-in_err-readings : goal.returns-in_err-readings
returns-in_err-readings c = judged_stopped _ c.in_err-readings.field-0.0 _ (search rules) (search (Chain.passed, Chain.refused, rules) depth 30)

pub fuels-requires : goal.fuels-requires
fuels-requires c = factors_long (call_in c.args.call.now c.args.outcome_row) c.in_ok-intervals.ensures c.in_ok-devices.ensures c.in_ok-lengths.ensures

pub returns : goal.returns
returns c = judged_by _ _ (search (Chain.passed, Chain.last, rules) depth 30)
