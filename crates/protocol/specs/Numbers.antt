-- rule 2.1: the protocol's numbers under one name, the one place of the specifications that has them.
-- `in_force` of src/lib.rt is proved to give the same ones, from the code's constants.
-- Assumes nothing.
use Rattle.std.specs.Prelude.{ℕ, ◌*◌, ◌≡◌, refl}
use Rattle.protocol.specs.declared.Numbers.{Numbers}

-- rule 2.1: density in mg a litre, warming factor, carbon factor as 11 / 4, reference temperature in hundredths of a
-- kelvin, reference pressure in Pa
abbrev pub protocol : Numbers
protocol = record { density = 667; warming = 21; carbon_over = 11; carbon_under = 4; kelvin = 29315; pascal = 101325 }

-- rule 2.3: U, the mg of CO2 equivalent of a litre of methane that is not burnt: 14,007
abbrev pub methane_mg : ℕ
methane_mg = protocol.density * protocol.warming

-- rule 2.4: four times C, the mg of CO2 of a litre of methane that is burnt: 7,337, to be divided by carbon_under
abbrev pub carbon_mg : ℕ
carbon_mg = protocol.density * protocol.carbon_over

-- U of rule 2.3, and the numerator of C in rule 2.4
unburnt : methane_mg ≡ 14007
unburnt = refl

burnt : carbon_mg ≡ 7337
burnt = refl
