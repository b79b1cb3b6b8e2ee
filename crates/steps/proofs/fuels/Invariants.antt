-- The first wrong fuel line, their count first.
use Rattle.std.proofs.Common.{length, ◌+◌}
use Rattle.rows.proofs.Scan.{Passed}
use Rattle.columns.specs.Lent.{fuel_in}
use Rattle.steps.specs.Wrong.{wrong_fuel}
use Rattle.steps.proofs.fuels.Given as goal

abbrev pub invariant-loop-line : goal.invariant-loop-line
invariant-loop-line l = Passed (1 + length l.fuel.quantity.now) (wrong_fuel (fuel_in l.fuel)) (l.line + 1)
