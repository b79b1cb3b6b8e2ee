-- The first device whose kind is none: one scan.
use Rattle.std.proofs.Common.{sym, ◌∙◌}
use Rattle.rows.proofs.Scan.{passed_found, passed_all}
use Rattle.protocol.proofs.KindLaws.{kind_refused}
use Rattle.steps.specs.Steps.{kinds_step}
use Rattle.steps.proofs.Verdicts.{stops, goes, end_clean}
use Rattle.steps.proofs.kinds.Goals as goal

pub returns-then-is_err : goal.returns-then-is_err
unfolding kinds_step
returns-then-is_err c = sym (stops _ _ _ (passed_found _ _ _ c.loop-device.invariant (kind_refused _ _ c.try_from.ensures ∙ sym c.is_err.ensures.value ∙ c.if-is_err.true)) c.loop-device-test.true)

pub returns : goal.returns
unfolding kinds_step
returns c = sym (goes _ _ _ (passed_all _ _ _ c.loop-device.invariant c.loop-device-test.false) c.loop-device-test.false ∙ end_clean)
