-- `text::same` meets its contract. Both loops' invariant: the first i bytes of the key, for which there is room, stand there. Assumes nothing.
use Prim.Native.Nat.{◌-◌}
use lib.ListN.{length}
use Rattle.text.proofs.Keys.{Alike}
use Rattle.text.proofs.same.Given as goal

abbrev pub invariant-loop-i : goal.invariant-loop-i
invariant-loop-i l = Alike l.t l.start l.key l.i

abbrev pub decreases-loop-i : goal.decreases-loop-i
decreases-loop-i l = length l.key - l.i

abbrev pub invariant-loop-k : goal.invariant-loop-k
invariant-loop-k l = Alike l.t l.start l.key l.k
