-- `drift::stretch` meets its contract. Both loops' invariant: the row is written from start up to i, one store a turn.
-- Assumes nothing.
use Prim.Native.Nat.{◌-◌, ◌≤◌}
use mathlib.Core.Path.{◌≡◌}
use lib.ListN.{length}
use Rattle.rows.specs.Rows.{Continued}
use Rattle.drainage_drift.specs.Drift.{kept_or}
use Rattle.drainage_drift.proofs.stretch.Given as goal

abbrev pub invariant-loop-k : goal.invariant-loop-k
invariant-loop-k l = (l.end ≤ length l.reading) × (length l.used ≡ length l.reading)
    × Continued l.start l.k (kept_or 0 l.reading) l.initial.used l.used

abbrev pub invariant-loop-i : goal.invariant-loop-i
invariant-loop-i l = (l.end ≤ length l.reading) × (length l.used ≡ length l.reading)
    × (10000 ≤ l.divisor) × Continued l.start l.i (kept_or (l.divisor - 10000) l.reading) l.initial.used l.used
