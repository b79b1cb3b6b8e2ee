-- One thing to look at: the number of devices.
use Rattle.std.proofs.Common.{refl, sym, ap, ◌∙◌, not}
use Rattle.steps.specs.Steps.{devices_step}
use Rattle.steps.proofs.Verdicts.{one_stops, one_goes, end_clean}
use Rattle.steps.proofs.devices.Goals as goal

pub returns-then-not-within : goal.returns-then-not-within
unfolding devices_step
returns-then-not-within c = sym (one_stops _ _ refl (ap not (sym c.within.ensures ∙ c.if-not-within.true)))

pub returns : goal.returns
unfolding devices_step
returns c = sym (one_goes _ _ refl (ap not (sym c.within.ensures ∙ c.if-not-within.false)) ∙ end_clean)
