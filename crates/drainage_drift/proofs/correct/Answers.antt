-- `drift::correct` meets its contract. The loop's invariant is `Walked` of proofs/Walk.antt.
-- Assumes nothing.
use borrow.Author.Rules.{rules}
use Prim.Native.Nat.{◌<◌, ◌^◌}
use lib.IntN.{pos}
use lib.ListN.{get_or}
use lib.Signed.{mag}
use Rattle.drainage_drift.proofs.Walk.{walked_passed, walked_failed, walked_all, read_passes, read_greater}
use Rattle.drainage_drift.proofs.correct.Goals as goal
use Rattle.drainage_drift.proofs.correct.Goals.{then-passed, else-passed}

pub loop-j-preserved : goal.loop-j-preserved
loop-j-preserved c =
    let drift = get_or c.args.instrument.now.drifts.now c.loop-j.j (pos 0) in
    let fits : mag drift < 2 ^ 31 = search rules in
    elim c.if-passed.branch [
      | then-passed w ↦
          rw (w.used-is, w.start-is, w.divisor-is) (walked_passed _ _ _ _ _ c.loop-j.j _ _ c.loop-j.invariant c.loop-j-test.true
          (read_passes drift fits _ _ c.passed.ensures w.if-passed.true) w.stretch.ensures)
      | else-passed w ↦
          rw (w.used-is, w.start-is, w.divisor-is) (walked_failed _ _ _ _ c.loop-j.j _ _ c.loop-j.invariant _ c.loop-j-test.true
          (read_passes drift fits _ _ c.passed.ensures w.if-passed.false)
          (read_greater drift fits c.loop-j.divisor _ _ w.raise.ensures w.max-divisor.ensures))
    ]

pub returns : goal.returns
returns c = walked_all _ _ _ _ _ c.loop-j.j _ _ c.loop-j.invariant c.loop-j-test.false c.stretch-2.ensures
