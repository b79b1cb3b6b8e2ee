-- The look at a gap's two windows gives whether they are whole.
use mathlib.Core.Path.{◌≡◌}
use mathlib.Core.Bool.{true}
use Rattle.drainage_runs.proofs.Look.{Measured, Looked}
use Rattle.drainage_runs.proofs.windows_whole.Given as goal

abbrev pub invariant-loop-k : goal.invariant-loop-k
invariant-loop-k l = (l.all ≡ true) × Measured l.reading l.from l.k

abbrev pub invariant-look : goal.invariant-look
invariant-look l = (l.all ≡ true) × Looked l.reading l.a l.e l.w l.from-index
