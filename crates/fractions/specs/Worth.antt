-- What so many litres of methane are worth in mg, without rounding.
-- Assumes nothing.
use Rattle.std.specs.Prelude.{ℕ, pos}
use Rattle.protocol.specs.Numbers.{protocol, carbon_mg}
use Rattle.fractions.specs.Fraction.{Fraction, over, as_fraction, ◌*ᶠ◌}

-- mg of so many litres of methane that are not burnt, at `unburnt` mg a litre: the baseline (rule 9.7) and uncombusted mg
-- (rule 9.9)
unfoldable pub exact_unburnt_mg : ℕ → Fraction → Fraction
exact_unburnt_mg unburnt litres = as_fraction (pos unburnt) *ᶠ litres

-- mg of CO2 of so many litres that are destroyed (rule 9.8)
unfoldable pub exact_carbon_mg : Fraction → Fraction
exact_carbon_mg destroyed = over carbon_mg protocol.carbon_under *ᶠ destroyed
