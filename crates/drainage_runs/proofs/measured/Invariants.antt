-- Whether every entry of a block is measured.
use Prim.Native.Nat.{◌+◌}
use mathlib.Core.Path.{◌≡◌}
use Rattle.rows.specs.Rows.{every}
use Rattle.drainage_runs.specs.Runs.{measured_at}
use Rattle.drainage_runs.proofs.measured.Given as goal

abbrev pub invariant-loop-k : goal.invariant-loop-k
invariant-loop-k l = l.all ≡ every l.k (λ j. measured_at l.reading (l.i + j))
