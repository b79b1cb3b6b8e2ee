-- The first measured entry after a gap, or the row's end.
use mathlib.Core.Path.{◌≡◌}
use Rattle.drainage_runs.specs.Runs.{gap_end}
use Rattle.drainage_runs.proofs.gap_end.Given as goal

abbrev pub invariant-loop-i : goal.invariant-loop-i
invariant-loop-i l = gap_end l.reading l.from ≡ gap_end l.reading l.i
