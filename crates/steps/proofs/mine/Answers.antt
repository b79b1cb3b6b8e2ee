-- One thing to look at: the mine.
use Rattle.std.proofs.Common.{refl, sym, ◌∙◌}
use Rattle.protocol.proofs.KindLaws.{mine_refused}
use Rattle.steps.specs.Steps.{mine_step}
use Rattle.steps.proofs.Verdicts.{one_stops, one_goes, end_clean}
use Rattle.steps.proofs.mine.Goals as goal

pub returns-then-is_err : goal.returns-then-is_err
unfolding mine_step
returns-then-is_err c = sym (one_stops _ _ refl (mine_refused _ _ c.try_from.ensures ∙ sym c.is_err.ensures.value ∙ c.if-is_err.true))

pub returns : goal.returns
unfolding mine_step
returns c = sym (one_goes _ _ refl (mine_refused _ _ c.try_from.ensures ∙ sym c.is_err.ensures.value ∙ c.if-is_err.false) ∙ end_clean)
