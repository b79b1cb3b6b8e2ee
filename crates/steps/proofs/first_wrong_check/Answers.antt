-- The first wrong count or check, all instruments' things in one scan.
use Rattle.std.proofs.Common.{◌≡◌, ◌+◌, ◌*◌, length, refl, sym, subst, ◌∙◌, arith, lt-ltb, le-ltb}
use Rattle.rows.specs.Rows.{FirstOf}
use Rattle.protocol.specs.Ranges.{things}
use Rattle.columns.specs.Lent.{checks_in}
use Rattle.rows.proofs.Scan.{passed_all}
use Rattle.steps.specs.Steps.{checks_step}
use Rattle.steps.proofs.Tests.{thing_found, thing_goes, rest_goes, check_found, check_goes, thing_count}
use Rattle.steps.proofs.first_wrong_check.Goals as goal

pub returns-then-count-gt-CHECKS : goal.returns-then-count-gt-CHECKS
returns-then-count-gt-CHECKS c =
    thing_found _ _ _ c.loop-g-test.true 0 (omega arith) c.loop-g.invariant
    (thing_count _ _ _ 0 refl ∙ lt-ltb _ _ c.if-count-gt-CHECKS.true)

pub loop-j-init : goal.loop-j-init
loop-j-init c =
    thing_goes _ _ _ c.loop-g-test.true 0 (omega arith) c.loop-g.invariant (thing_count _ _ _ 0 refl ∙ le-ltb _ _ c.if-count-gt-CHECKS.false)

pub returns-then-wrong_check : goal.returns-then-wrong_check
returns-then-wrong_check c =
    let few = c.if-count-gt-CHECKS.false in
    let h = c.loop-j-test.true in
    check_found _ _ _ c.loop-g-test.true c.loop-j.j (omega arith) c.loop-j.invariant h (sym c.wrong_check.ensures ∙ c.if-wrong_check.true)

pub loop-j-preserved : goal.loop-j-preserved
loop-j-preserved c =
    let few = c.if-count-gt-CHECKS.false in
    let h = c.loop-j-test.true in
    check_goes _ _ _ c.loop-g-test.true c.loop-j.j (omega arith) c.loop-j.invariant h (sym c.wrong_check.ensures ∙ c.if-wrong_check.false)

pub loop-g-preserved : goal.loop-g-preserved
loop-g-preserved c =
    let few = c.if-count-gt-CHECKS.false in
    rest_goes _ _ _ c.loop-g-test.true _ c.loop-j-test.false c.loop-j.invariant

pub returns : goal.returns
unfolding checks_step
returns c =
    let h = c.loop-g-test.false in
    let x = c.loop-g.invariant in
    subst (FirstOf _ _) (let z : things * c.loop-g.g + 0 ≡ length (checks_in c.args.checks.now).counts * things = omega (arith, x.within) in z)
    (passed_all _ _ _ x (omega arith))
