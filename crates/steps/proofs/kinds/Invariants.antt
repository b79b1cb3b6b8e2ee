-- The first device whose kind is none: one scan.
use Rattle.std.proofs.Common.{length, get_or, not}
use Rattle.rows.proofs.Scan.{Passed}
use Rattle.protocol.specs.Kinds.{is_kind}
use Rattle.steps.proofs.kinds.Given as goal

abbrev pub invariant-loop-device : goal.invariant-loop-device
invariant-loop-device l = Passed (length l.kinds) (λ d. not (is_kind (get_or l.kinds d 0))) l.device
