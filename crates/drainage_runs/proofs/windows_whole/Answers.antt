-- The look at a gap's two windows gives whether they are whole.
use mathlib.Core.Path.{◌≡◌, refl, sym, ap, ◌∙◌, subst}
use mathlib.Core.Bool.{not}
use native.Mathlib.Omega.{arith}
use Rattle.drainage_runs.proofs.Laws.{missing_is, measured_is}
use Rattle.drainage_runs.proofs.Look.{Measured, measured_none, measured_more, short_before, short_after, looked_none, looked_room, looked_side}
use Rattle.drainage_runs.proofs.Look.{looked_all, looked_fails}
use Rattle.drainage_runs.proofs.windows_whole.Goals as goal

pub returns-then-a-w : goal.returns-then-a-w
returns-then-a-w c = short_before _ _ _ _ c.if-a-w.true

pub returns-then-reading-e : goal.returns-then-reading-e
returns-then-reading-e c =
    let g = c.args in short_after g.reading.now g.a g.e g.w c.requires.2 (omega (arith, c.if-reading-e.true))

pub look-init : goal.look-init
look-init c =
    let g = c.args in
    (refl, looked_none g.reading.now g.a g.e g.w c.requires.1 (omega (arith, c.if-a-w.false)) (omega (arith, c.if-reading-e.false)))

pub loop-k-init : goal.loop-k-init
loop-k-init c = (c.look.invariant.0, measured_none _ _)

pub loop-k-preserved : goal.loop-k-preserved
loop-k-preserved c =
    let v = c.loop-k.invariant in
    let room = looked_room c.look.invariant.1 c.look-test.true in
    (v.0, measured_more _ _ _ v.1 (ap not (measured_is c.args.reading.now _ (omega (arith, room)) c.if-reading-from.false)))

pub look-preserved : goal.look-preserved
look-preserved c =
    let v = c.loop-k.invariant in
    let q : c.loop-k.k ≡ c.args.w = omega arith in
    (v.0, looked_side c.look.invariant.1 (subst (Measured c.args.reading.now _) q v.1))

pub returns-after-look : goal.returns-after-look
returns-after-look c = c.look.invariant.0 ∙ sym (looked_all c.look.invariant.1 c.look-test.false)

pub returns-then-reading-from : goal.returns-then-reading-from
returns-then-reading-from c =
    let room = looked_room c.look.invariant.1 c.look-test.true in
    looked_fails c.look.invariant.1 _ c.look-test.true c.loop-k-test.true
    (ap not (missing_is c.args.reading.now _ (omega (arith, room)) c.if-reading-from.true))
