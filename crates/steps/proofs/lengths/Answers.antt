-- Two lists that are compared entry by entry are one list of pairs.
use Rattle.std.proofs.Common.{ℕ, sym, ◌∙◌, subst, ◌<◌, ◌≤◌}
use Rattle.steps.specs.Steps.{lengths_step}
use Rattle.steps.proofs.Tests.{pairs_found, paired_long}
use Rattle.steps.proofs.Verdicts.{stops, goes, end_clean}
use Rattle.steps.proofs.lengths.Goals as goal

pub returns-then-first_difference-have : goal.returns-then-first_difference-have
unfolding lengths_step
returns-then-first_difference-have c =
    sym (stops _ _ _ (pairs_found c.args.have.now c.args.want.now _ c.requires c.first_difference.ensures)
    (subst (λ (m : ℕ). c.first_difference.result < m) (paired_long _ _ c.requires) c.if-first_difference-have.true))

pub returns : goal.returns
unfolding lengths_step
returns c =
    sym (goes _ _ _ (pairs_found c.args.have.now c.args.want.now _ c.requires c.first_difference.ensures)
    (subst (λ (m : ℕ). m ≤ c.first_difference.result) (paired_long _ _ c.requires) c.if-first_difference-have.false) ∙ end_clean)
