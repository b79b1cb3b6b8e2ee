-- The pass keeps row, counts and litres as the definitions have them.
use Rattle.columns.specs.Lent.{air_in}
use Rattle.ventilation_device.proofs.Pass.{Going}
use Rattle.ventilation_device.proofs.fill_row.Given as goal

abbrev pub invariant-loop-i : goal.invariant-loop-i
invariant-loop-i l = Going (air_in l.air) l.initial.outcome l.outcome l.outcomes l.supplied l.left l.i
