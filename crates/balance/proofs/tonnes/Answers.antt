-- In wholes of a tonne, rounded down.
use mathlib.Core.Path.{◌∙◌, ap}
use lib.IntN.{ℤ, pos}
use mir.Syntax.{w64}
use mir.Facts.{to_z-of_z}
use Rattle.std.specs.Int.{int_div_euclid}
use Rattle.balance.specs.Balance.{tonnes_of}
use Rattle.balance.proofs.Laws.{quotient_down}
use Rattle.balance.proofs.tonnes.Goals as goal

pub returns : goal.returns
unfolding tonnes_of
returns c =
    to_z-of_z {w = w64} (record { sfits = c.div_euclid.type_inv }) ∙ c.div_euclid.ensures
    ∙ ap (λ (z : ℤ). int_div_euclid z (pos 1000000000)) (to_z-of_z {w = w64} (record { sfits = c.reduction.type_inv }) ∙ c.reduction.ensures)
    ∙ quotient_down _ 1000000000
