-- The quotient rounded up; rounded down it is the logic's own.
-- Assumes nothing.
use Rattle.std.specs.Prelude.{ℕ, ◌+◌, ◌-◌, ◌/◌, ◌≡◌, refl}

-- rule 1.5: ceil (a / b)
abbrev pub ceil_div : ℕ → ℕ → ℕ
ceil_div a b = (a + (b - 1)) / b

with_a_rest : ceil_div 9 4 ≡ 3
with_a_rest = refl

without : ceil_div 8 4 ≡ 2
without = refl
