-- The pass keeps row, counts and litres as the definitions have them.
use mathlib.Core.Path.{◌≡◌}
use Rattle.columns.specs.Lent.{air_in}
use Rattle.ventilation_device.specs.Device.{entry_at}
use Rattle.ventilation_device.proofs.Pass.{reads_entry, going_few, slot_fits, supplied_room, left_room, going_more, left_in, going_all}
use Rattle.ventilation_device.proofs.fill_row.Goals as goal
use Rattle.ventilation_device.proofs.fill_row.Goals.{After-settle-e}

entry : (c : After-settle-e) → c.settle-e.result ≡ entry_at (air_in c.args.air.now) c.loop-i.i
entry c = reads_entry (air_in c.args.air.now) c.loop-i.i c.gas.ensures c.gas-in-loop-i.ensures c.settle-e.ensures

pub bounds-outcomes-e : goal.bounds-outcomes-e
bounds-outcomes-e c = going_few c.loop-i.invariant c.loop-i-test.true _ (entry (goal.at.bounds-outcomes-e c).After-settle-e)

pub overflow_add-outcomes : goal.overflow_add-outcomes
overflow_add-outcomes c = slot_fits c.loop-i.invariant c.loop-i-test.true _ (entry (goal.at.overflow_add-outcomes c).After-settle-e)

pub bounds-outcomes-e-in-loop-i : goal.bounds-outcomes-e-in-loop-i
bounds-outcomes-e-in-loop-i c = going_few c.loop-i.invariant c.loop-i-test.true _ (entry (goal.at.bounds-outcomes-e-in-loop-i c).After-settle-e)

pub overflow_add-supplied : goal.overflow_add-supplied
overflow_add-supplied c = supplied_room c.loop-i.invariant c.loop-i-test.true _ (entry (goal.at.overflow_add-supplied c).After-settle-e)

pub overflow_add-left : goal.overflow_add-left
overflow_add-left c = left_room c.loop-i.invariant c.loop-i-test.true _ (entry (goal.at.overflow_add-left c).After-settle-e)

pub loop-i-preserved : goal.loop-i-preserved
loop-i-preserved c = going_more c.loop-i.invariant c.loop-i-test.true _ (entry (goal.at.loop-i-preserved c).After-settle-e)

pub overflow_sub-result : goal.overflow_sub-result
overflow_sub-result c = left_in c.loop-i.invariant

pub returns : goal.returns
returns c = going_all c.loop-i.invariant c.loop-i-test.false
