-- Tonnes, or none below zero.
use mathlib.Core.Path.{ap, ◌∙◌}
use lib.IntN.{ℤ, pos, nat_abs}
use mir.Syntax.{w64}
use mir.Facts.{to_z-of_z}
use Rattle.std.specs.Int.{int_max}
use Rattle.balance.proofs.Laws.{credits_is}
use Rattle.balance.proofs.credits.Goals as goal

pub returns : goal.returns
returns c =
    ap nat_abs (to_z-of_z {w = w64} (record { sfits = c.max.type_inv }) ∙ c.max.ensures.value)
    ∙ ap (λ (z : ℤ). nat_abs (int_max z (pos 0))) (to_z-of_z c.ranges.t)
    ∙ credits_is c.args.t
