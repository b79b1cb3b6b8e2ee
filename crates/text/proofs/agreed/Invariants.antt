-- `text::agreed` meets its contract. The invariant: the first i bytes of the key stand there. Assumes nothing.
use Prim.Native.Nat.{◌+◌}
use lib.ListN.{take}
use Rattle.text.specs.Form.{Stands}
use Rattle.text.proofs.agreed.Given as goal

abbrev pub invariant-loop-i : goal.invariant-loop-i
invariant-loop-i l = Stands l.t l.start (l.start + l.i) (take l.i l.key)
