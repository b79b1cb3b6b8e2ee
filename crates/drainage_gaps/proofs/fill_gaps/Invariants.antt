-- Every gap is filled once: the loop's invariant is `Filling`.
use Prim.Native.Nat.{◌-◌}
use lib.ListN.{length}
use Rattle.drainage_gaps.proofs.Filling.{Filling}
use Rattle.drainage_gaps.proofs.fill_gaps.Given as goal

abbrev pub invariant-loop-i : goal.invariant-loop-i
invariant-loop-i l = Filling l.reading l.initial.used l.used l.i

abbrev pub decreases-loop-i : goal.decreases-loop-i
decreases-loop-i l = length l.reading - l.i
