-- The first device that this mine does not allow: one scan.
use Rattle.std.proofs.Common.{sym, ◌∙◌}
use Rattle.rows.proofs.Scan.{passed_found, passed_all}
use Rattle.steps.specs.Steps.{misplaced_step}
use Rattle.steps.proofs.Verdicts.{stops, goes, end_clean}
use Rattle.steps.proofs.placed.Goals as goal

pub returns-then-is_misplaced : goal.returns-then-is_misplaced
unfolding misplaced_step
returns-then-is_misplaced c =
    sym (stops _ _ _ (passed_found _ _ _ c.loop-device.invariant (sym c.is_misplaced.ensures ∙ c.if-is_misplaced.true)) c.loop-device-test.true)

pub returns : goal.returns
unfolding misplaced_step
returns c = sym (goes _ _ _ (passed_all _ _ _ c.loop-device.invariant c.loop-device-test.false) c.loop-device-test.false ∙ end_clean)
