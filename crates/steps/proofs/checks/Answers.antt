-- What is told of the first wrong thing.
use Prim.Native.Nat.{ℕ, ◌/◌}
use Rattle.std.proofs.Common.{Err, ap, ◌∙◌}
use Rattle.refusals.specs.declared.Refusal.TheVariants as Refusal
use Rattle.steps.proofs.Tests.{thing_told, things_right}
use Rattle.steps.proofs.checks.Goals as goal

pub returns-in-Some : goal.returns-in-Some
returns-in-Some c =
    ap (λ (p : ℕ). Err (Refusal.Check (c.in-Some.g / 2) p)) c.thing_place.ensures
    ∙ thing_told _ _ _ _ c.in-Some.ensures

pub returns-in-None : goal.returns-in-None
returns-in-None c = things_right _ _ c.in-None.ensures
