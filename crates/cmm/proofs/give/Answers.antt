-- `cmm::give` meets its contract: the stored literals are the figures, once the signed ones are taken back. Assumes nothing.
use mathlib.Core.List.{[], ◌∷◌}
use mathlib.Core.Path.{refl}
use native.Mathlib.Omega.{arith}
use mir.ValLaws.{to_z-of_z}
use mir.Syntax.{w64}
use Rattle.cmm.specs.Figures.{amounts_of, balances_of}
use Rattle.cmm.proofs.give.Goals as goal

pub returns : goal.returns
unfolding amounts_of balances_of
returns c =
    let f = c.args.f in (
      refl,
      λ i. to_z-of_z w64 f.reduction_mg (record { sfits = omega arith }) i
          ∷ to_z-of_z w64 f.tonnes (record { sfits = omega arith }) i
          ∷ [],
    )
