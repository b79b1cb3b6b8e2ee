-- The first wrong count or check, all instruments' things in one scan.
use Rattle.std.proofs.Common.{◌+◌}
use Rattle.columns.specs.Lent.{checks_in}
use Rattle.steps.proofs.Tests.{ThingsPassed}
use Rattle.steps.proofs.first_wrong_check.Given as goal

abbrev pub invariant-loop-j : goal.invariant-loop-j
invariant-loop-j l = ThingsPassed l.intervals (checks_in l.checks) l.g (1 + l.j)

abbrev pub invariant-loop-g : goal.invariant-loop-g
invariant-loop-g l = ThingsPassed l.intervals (checks_in l.checks) l.g 0
