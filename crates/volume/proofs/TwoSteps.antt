-- rule 9.15: the hundredths in two steps, whole litres with a remainder and then a hundred times the remainder. They are
-- rule 9.1's, and no number on the way reaches 2^53, up to which a spreadsheet is exact.
-- Assumes nothing.
use Prim.Native.Nat.{ℕ, ◌+◌, ◌*◌, ◌/◌, ◌%◌, ◌^◌, ◌≤◌, ◌<◌}
use mathlib.Core.Path.{◌≡◌, sym, ap, ◌∙◌}
use native.Mathlib.Nat.{mul-add-div_right, mod-add-div', mod-lt, mul-le-mul}
use native.Mathlib.Omega.{arith}
use lib.IntN.{ℤ}
use Rattle.protocol.specs.Ranges.{kelvin_of, flow_most}
use Rattle.volume.specs.Volume.{hundredths_of, Inside, parts_most}
use Rattle.volume.proofs.Pair.{over, parts_over, under, same_hundredths}
use Rattle.volume.proofs.Laws.{hundredths_most}

-- the product over quotient and remainder
pub spread : (q r d g : ℕ) → q * g * d + r * g ≡ (r + q * d) * g
spread q r d g = omega arith

-- e × g / d, from the quotient and the remainder of e by d
pub divided_first : (e d g : ℕ) → 0 < d → e / d * g + e % d * g / d ≡ e * g / d
divided_first e d g above =
    sym (mul-add-div_right above (e / d * g) (e % d * g))
    ∙ ap (λ (n : ℕ). n / d) (spread (e / d) (e % d) d g ∙ ap (λ (n : ℕ). n * g) (mod-add-div' e d))

-- product and divisor of the first step
abbrev pub product : ℕ → ℕ → ℕ
product flow press = flow * over * press

abbrev pub divisor : ℤ → ℕ
divisor temp = kelvin_of temp * under

-- a hundred for each whole litre, and the hundredths of the remainder
abbrev pub in_two_steps : ℕ → ℤ → ℕ → ℕ
in_two_steps flow temp press = product flow press / divisor temp * 100 + product flow press % divisor temp * 100 / divisor temp

-- the two steps give rule 9.1's hundredths, for every flow and pressure and every temperature above absolute zero
pub two_steps : (flow : ℕ) (temp : ℤ) (press : ℕ) → 0 < kelvin_of temp → in_two_steps flow temp press ≡ hundredths_of flow temp press
two_steps flow temp press above =
    divided_first (product flow press) (divisor temp) 100 (omega (arith, above))
    ∙ ap (λ (n : ℕ). n / divisor temp) (let z : product flow press * 100 ≡ flow * parts_over * press = omega arith in z)
    ∙ same_hundredths flow temp press

-- the numbers of the two steps, those given and those worked out, each below 2^53
pub record Small (flow : ℕ) (temp : ℤ) (press : ℕ) : Type 0 where
  pub flow_small : flow < 2 ^ 53
  pub press_small : press < 2 ^ 53
  pub kelvin_small : kelvin_of temp < 2 ^ 53
  pub scaled_small : flow * over < 2 ^ 53
  pub product_small : product flow press < 2 ^ 53
  pub divisor_small : divisor temp < 2 ^ 53
  pub litres_small : product flow press / divisor temp < 2 ^ 53
  pub first_small : product flow press / divisor temp * 100 < 2 ^ 53
  pub rest_small : product flow press % divisor temp < 2 ^ 53
  pub hundred_rest_small : product flow press % divisor temp * 100 < 2 ^ 53
  pub second_small : product flow press % divisor temp * 100 / divisor temp < 2 ^ 53
  pub hundredths_small : in_two_steps flow temp press < 2 ^ 53

-- 30,000 × 117,260 × 300,000 = 1,055,340,000,000,000
product_most : (flow press : ℕ) → flow ≤ flow_most → press ≤ 300000 → product flow press ≤ 1055340000000000
product_most flow press a b =
    let h : product flow press ≤ 30000 * over * 300000 = mul-le-mul (let z : flow * over ≤ 30000 * over = omega arith in z) b in
    omega arith

pub small : (flow : ℕ) (temp : ℤ) (press : ℕ) → Inside flow temp press → Small flow temp press
small flow temp press i =
    let same : in_two_steps flow temp press ≡ hundredths_of flow temp press = two_steps flow temp press (omega (arith, i.kelvin_least)) in
    let most : hundredths_of flow temp press ≤ parts_most = hundredths_most flow temp press i in
    let rest : product flow press % divisor temp < divisor temp = mod-lt (product flow press) (omega (arith, i.kelvin_least)) in
    record {
      flow_small = omega (arith, i.flow_within);
      press_small = omega (arith, i.press_most);
      kelvin_small = omega (arith, i.kelvin_most);
      scaled_small = omega (arith, i.flow_within);
      product_small = omega (arith, product_most flow press i.flow_within i.press_most);
      divisor_small = omega (arith, i.kelvin_most);
      litres_small = omega (arith, same, most);
      first_small = omega (arith, same, most);
      rest_small = omega (arith, rest, i.kelvin_most);
      hundred_rest_small = omega (arith, rest, i.kelvin_most);
      second_small = omega (arith, same, most);
      hundredths_small = omega (arith, same, most);
    }
