-- rule 9.15: the correction worked with a smaller pair of numbers, 117,260 / 4,053 for litres and 11,726,000 / 4,053 for
-- hundredths of a litre. Rule 9.1's equation (`correction_down`) stays what is believed: the pairs are tied to the reference
-- conditions and give the same whole numbers.
-- Assumes nothing.
use Prim.Native.Nat.{ℕ, ◌*◌, ◌/◌, ◌<◌}
use mathlib.Core.Path.{◌≡◌, refl, sym, ap, ◌∙◌}
use native.Mathlib.Nat.{mul-div-mul_left}
use native.Mathlib.Omega.{arith}
use lib.IntN.{ℤ}
use Rattle.protocol.specs.Numbers.{protocol}
use Rattle.protocol.specs.Ranges.{kelvin_of}
use Rattle.protocol.specs.Rounding.{ceil_div}
use Rattle.protocol.proofs.RoundingLaws.{ceil_same}
use Rattle.volume.specs.Volume.{correction_over, correction_under, correction_down, correction_up, parts_factor, hundredths_of}

abbrev pub over : ℕ
over = 117260

abbrev pub parts_over : ℕ
parts_over = 11726000

abbrev pub under : ℕ
under = 4053

-- the pairs have no numbers of their own: 25 times them is the reference conditions, with the 100 litres and the 10,000
-- hundredths of a unit of flow
pub over_tied : 25 * over ≡ 100 * protocol.kelvin
over_tied = refl

pub hundredths_over_tied : 25 * parts_over ≡ parts_factor * protocol.kelvin
hundredths_over_tied = refl

pub under_tied : 25 * under ≡ protocol.pascal
under_tied = refl

-- in one product, as the code works them, the hundredths are rule 9.1's, for every flow, temperature and pressure, in range
-- or not (at absolute zero and below both are the logic's quotient by 0)
pub same_hundredths : (flow : ℕ) (temp : ℤ) (press : ℕ) → flow * parts_over * press / (kelvin_of temp * under) ≡ hundredths_of flow temp press
unfolding hundredths_of correction_down
same_hundredths flow temp press =
    sym (mul-div-mul_left (flow * parts_over * press) (kelvin_of temp * under) (let z : 0 < 25 = omega arith in z))
    ∙ ap (λ (n : ℕ). n / (25 * (kelvin_of temp * under))) (let z : 25 * (flow * parts_over * press) ≡ parts = omega arith in z)
    ∙ ap (λ (n : ℕ). parts / n) (let z : 25 * (kelvin_of temp * under) ≡ correction_under temp = omega arith in z)
  where
    parts : ℕ
    parts = correction_over parts_factor flow press

-- and so they are rounded up, where there is a quotient
pub same_up : (flow : ℕ) (temp : ℤ) (press : ℕ) → 0 < kelvin_of temp
    → ceil_div (flow * parts_over * press) (kelvin_of temp * under) ≡ correction_up parts_factor flow temp press
unfolding correction_up
same_up flow temp press warm =
    ceil_same 25 (flow * parts_over * press) (kelvin_of temp * under) (omega (arith, warm)) (omega arith)
    ∙ ap (λ (n : ℕ). ceil_div n (25 * (kelvin_of temp * under))) (let z : 25 * (flow * parts_over * press) ≡ parts = omega arith in z)
    ∙ ap (λ (n : ℕ). ceil_div parts n) (let z : 25 * (kelvin_of temp * under) ≡ correction_under temp = omega arith in z)
  where
    parts : ℕ
    parts = correction_over parts_factor flow press
