-- Fractions (rule 10.2): added and compared by multiplying across, numerator and denominator without a limit.
-- Assumes nothing.
use Rattle.std.specs.Prelude.{ℕ, zero, suc, ◌*◌, ◌<◌, ◌≡◌, refl, ℤ, pos, negsuc, ◌+ℤ◌, ◌-ℤ◌, ◌*ℤ◌, ◌≤ℤ◌, ◌<ℤ◌}

pub record Fraction : Type 0 where
  pub num : ℤ
  pub den : ℕ

-- rule 10.2: the denominator is above 0
pub record Proper (x : Fraction) : Type 0 where
  pub above_zero : 0 < x.den

-- a / b of two naturals
abbrev pub over : ℕ → ℕ → Fraction
over a b = record { num = pos a; den = b }

-- a whole number
abbrev pub as_fraction : ℤ → Fraction
as_fraction z = record { num = z; den = 1 }

infixl 6 ◌+ᶠ◌ ◌-ᶠ◌
infixl 7 ◌*ᶠ◌
infix 4 ◌≤ᶠ◌ ◌<ᶠ◌
abbrev pub ◌+ᶠ◌ : Fraction → Fraction → Fraction
x +ᶠ y = record { num = x.num *ℤ pos y.den +ℤ y.num *ℤ pos x.den; den = x.den * y.den }

abbrev pub ◌-ᶠ◌ : Fraction → Fraction → Fraction
x -ᶠ y = record { num = x.num *ℤ pos y.den -ℤ y.num *ℤ pos x.den; den = x.den * y.den }

abbrev pub ◌*ᶠ◌ : Fraction → Fraction → Fraction
x *ᶠ y = record { num = x.num *ℤ y.num; den = x.den * y.den }

-- f 0 + f 1 + .. + f (n - 1)
abbrev pub sumᶠ : ℕ → (ℕ → Fraction) → Fraction
sumᶠ zero f = as_fraction (pos 0)
sumᶠ (suc n) f = sumᶠ n f +ᶠ f n

-- rule 10.2: x is at most y, of two proper fractions
pub record ◌≤ᶠ◌ (x y : Fraction) : Type 0 where
  pub across : (x.num *ℤ pos y.den) ≤ℤ (y.num *ℤ pos x.den)

-- x is below y, of two proper fractions
pub record ◌<ᶠ◌ (x y : Fraction) : Type 0 where
  pub across : (x.num *ℤ pos y.den) <ℤ (y.num *ℤ pos x.den)

-- 1/2 + 1/3 is 5/6, and 1/2 - 1/3 is 1/6
half_and_third : over 1 2 +ᶠ over 1 3 ≡ over 5 6
half_and_third = refl

third_from_half : over 1 2 -ᶠ over 1 3 ≡ over 1 6
third_from_half = refl

-- -1/2 times 2/3 is -2/6, which is at most -1/3 and below 0
minus_third : record { num = negsuc 0; den = 2 } *ᶠ over 2 3 ≡ record { num = negsuc 1; den = 6 }
minus_third = refl

not_above : record { num = negsuc 1; den = 6 } ≤ᶠ record { num = negsuc 0; den = 3 }
not_above = record { across = record { le = tt } }

below_zero : record { num = negsuc 1; den = 6 } <ᶠ as_fraction (pos 0)
below_zero = record { across = record { lt = tt } }
