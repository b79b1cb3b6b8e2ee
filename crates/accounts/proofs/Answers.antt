-- An answer gives one sheet's figures, or is refused, and never both.
-- Assumes nothing.
use Prim.Native.Nat.{ℕ}
use mathlib.Core.Path.{◌≡◌}
use native.Mathlib.Omega.{arith}
use Rattle.std.proofs.Common.{Result, Ok, Err}
use Rattle.refusals.specs.declared.Refusal.{Refusal}
use Rattle.figures.specs.declared.Figures.{Figures}

pub same_figures : (f g : Figures) → (let a : Result Figures Refusal = Ok f in a) ≡ Ok g → f ≡ g
same_figures f g e = cc

pub never : {X : Type 0} (r : Refusal) (f : Figures) → (let a : Result Figures Refusal = Err r in a) ≡ Ok f → X
never r f e = let z : ◌≡◌ {A = ℕ} 0 1 = cc in absurd (let w : ⊥ = omega arith in w)
