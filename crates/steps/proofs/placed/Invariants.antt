-- The first device that this mine does not allow: one scan.
use Rattle.std.proofs.Common.{length, get_or}
use Rattle.rows.proofs.Scan.{Passed}
use Rattle.protocol.specs.Kinds.{misplaced}
use Rattle.steps.proofs.placed.Given as goal

abbrev pub invariant-loop-device : goal.invariant-loop-device
invariant-loop-device l = Passed (length l.kinds) (λ d. misplaced l.mine (get_or l.kinds d 0)) l.device
