-- One thing to look at: the number of intervals.
use Rattle.std.proofs.Common.{refl, sym, ap, ◌∙◌, not}
use Rattle.steps.specs.Steps.{intervals_step}
use Rattle.steps.proofs.Verdicts.{one_stops, one_goes, end_clean}
use Rattle.steps.proofs.intervals.Goals as goal

pub returns-then-not-within : goal.returns-then-not-within
unfolding intervals_step
returns-then-not-within c = sym (one_stops _ _ refl (ap not (sym c.within.ensures ∙ c.if-not-within.true)))

pub returns : goal.returns
unfolding intervals_step
returns c = sym (one_goes _ _ refl (ap not (sym c.within.ensures ∙ c.if-not-within.false)) ∙ end_clean)
