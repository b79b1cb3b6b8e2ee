-- How reported tonnes lie to an exact reduction.
-- Assumes nothing.
use Rattle.std.specs.Prelude.{ℕ, ◌+◌, ℤ, pos, ◌+ℤ◌, ◌*ℤ◌}
use Rattle.balance.specs.Balance.{tonne}
use Rattle.fractions.specs.Fraction.{Fraction, Proper, as_fraction, ◌≤ᶠ◌, ◌<ᶠ◌}

-- t tonnes are never above x mg (rule 10.3), and short of it by less than a tonne and the distance (rule 10.4)
pub record Fair (x : Fraction) (t : ℤ) (distance : ℕ) : Type 0 where
  pub proper : Proper x
  pub never_above : as_fraction (t *ℤ pos tonne) ≤ᶠ x
  pub short : x <ᶠ as_fraction (t *ℤ pos tonne +ℤ pos (tonne + distance))
