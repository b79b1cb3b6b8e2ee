-- The scan passes over equal entries only.
use Rattle.std.proofs.Common.{ap, not}
use borrow.Author.Tests.{eq-eqb, ne_eqb}
use Rattle.rows.proofs.Scan.{passed_none, passed_more, passed_found, passed_through}
use Rattle.rows.proofs.first_difference.Goals as goal

pub loop-i-init : goal.loop-i-init
loop-i-init c = passed_none _ _

pub returns-then-have-i : goal.returns-then-have-i
returns-then-have-i c = passed_found _ _ _ c.loop-i.invariant (ap not (ne_eqb _ _ c.if-have-i.true))

pub loop-i-preserved : goal.loop-i-preserved
loop-i-preserved c =
    passed_more _ _ _ c.loop-i.invariant c.loop-i-test.true (ap not (eq-eqb _ _ c.if-have-i.false))

pub returns : goal.returns
returns c = passed_through _ _ _ c.loop-i.invariant c.loop-i-test.false
