-- What a gap's entries hold: its replacement, or the outcome that excludes them.
use mathlib.Core.Path.{sym, ◌∙◌}
use Rattle.drainage_gaps.proofs.Laws.{held_long, held_not, held_value}
use Rattle.drainage_gaps.proofs.held.Goals as goal

pub returns-in_default : goal.returns-in_default
returns-in_default c = held_long _ _ _ _ (sym c.in_default.is ∙ c.class_of.ensures)

pub returns-in_default-replace : goal.returns-in_default-replace
returns-in_default-replace c =
    held_not _ _ _ _ c.in-Some.w c.in-Some.rule (sym c.in-Some.is ∙ c.class_of.ensures) (sym c.in_default-replace.is ∙ c.replace.ensures)

pub returns : goal.returns
returns c =
    held_value _ _ _ _ c.in-Some.w c.in-Some.rule (sym c.in-Some.is ∙ c.class_of.ensures) _ (sym c.in-Some-replace.is ∙ c.replace.ensures)
