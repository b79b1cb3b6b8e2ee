-- The scan passes over equal entries only.
use Rattle.std.proofs.Common.{length, not, eqb, get_or}
use Rattle.rows.proofs.Scan.{Passed}
use Rattle.rows.proofs.first_difference.Given as goal

abbrev pub invariant-loop-i : goal.invariant-loop-i
invariant-loop-i l = Passed (length l.have) (λ k. not (eqb (get_or l.have k 0) (get_or l.want k 0))) l.i
