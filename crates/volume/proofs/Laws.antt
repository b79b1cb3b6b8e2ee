-- Bounds of the volume's numbers, and what the crates above may cite of `methane_litres`.
-- Assumes nothing.
use Prim.Native.Nat.{ℕ, ◌+◌, ◌*◌, ◌/◌, ◌≤◌}
use mathlib.Core.Path.{◌≡◌, ap, ◌∙◌, subst}
use native.Mathlib.Nat.{mul-le-mul, mul-le-mul_right, mul-div-le, zero-mul, zero-div}
use native.Mathlib.Omega.{arith}
use lib.IntN.{ℤ}
use Rattle.protocol.specs.Ranges.{kelvin_of, flow_most, content_most, ppm_most}
use Rattle.protocol.specs.Rounding.{ceil_div}
use Rattle.volume.specs.Volume.{correction_under, correction_down, correction_up, parts_factor, hundredths_of, methane_under, methane_litres_in, methane_litres, Inside, parts_most, litres_most, air_most}
use Rattle.volume.proofs.Mirror.{up_one_more}
use Rattle.volume.proofs.Pair.{parts_over, under, same_hundredths}

-- flow × 11,726,000 × pressure is at most 105,534,000,000,000,000
pub over_most : (flow press : ℕ) → flow ≤ flow_most → press ≤ 300000 → flow * parts_over * press ≤ 105534000000000000
over_most flow press a b =
    let h : flow * parts_over * press ≤ 30000 * parts_over * 300000
    = mul-le-mul (let z : flow * parts_over ≤ 30000 * parts_over = omega arith in z) b in
    omega arith

-- a quotient q of that by k × 4,053
quotient_most : (n k q : ℕ) → n ≤ 105534000000000000 → 23315 ≤ k → k * under * q ≤ n → q ≤ parts_most
quotient_most n k q a b h =
    let z : 23315 * q ≤ k * q = mul-le-mul_right q b in
    omega arith

-- the hundredths of rule 9.1, worked with the pair
pub hundredths_most : (flow : ℕ) (temp : ℤ) (press : ℕ) → Inside flow temp press → hundredths_of flow temp press ≤ parts_most
hundredths_most flow temp press i =
    subst (λ (n : ℕ). n ≤ parts_most) (same_hundredths flow temp press)
    (quotient_most (flow * parts_over * press) (kelvin_of temp) (flow * parts_over * press / (kelvin_of temp * under))
    (over_most flow press i.flow_within i.press_most) i.kelvin_least (mul-div-le (flow * parts_over * press) (kelvin_of temp * under)))

-- rounded up they are one more at the most
pub up_most : (flow : ℕ) (temp : ℤ) (press : ℕ) → Inside flow temp press → correction_up parts_factor flow temp press ≤ parts_most + 1
unfolding hundredths_of
up_most flow temp press i =
    let most : correction_down parts_factor flow temp press ≤ parts_most = hundredths_most flow temp press i in
    omega (arith, up_one_more parts_factor flow temp press (omega (arith, i.kelvin_least)))

-- hundredths × content of ventilation air, with one of them more, is at most 22,336,255,640,000
pub content_product_most : (parts content : ℕ) → parts ≤ parts_most + 1 → content ≤ ppm_most → parts * content ≤ 22336255640000
content_product_most parts content a b = let h : parts * content ≤ 1116812782 * 20000 = mul-le-mul a b in omega arith

-- methane of ventilation air, down and up
pub air_most_lem : (parts content : ℕ) → parts ≤ parts_most → content ≤ ppm_most → parts * content / methane_under ≤ air_most
air_most_lem parts content a b = let h : parts * content ≤ parts_most * 20000 = mul-le-mul a b in omega arith

pub air_up_most : (parts content : ℕ) → parts ≤ parts_most + 1 → content ≤ ppm_most → ceil_div (parts * content) methane_under ≤ air_most + 1
air_up_most parts content a b = omega (arith, content_product_most parts content a b)

-- there is no more methane than gas
pub methane_most : (hundredths content : ℕ) → hundredths ≤ parts_most → content ≤ content_most → hundredths * content / methane_under ≤ litres_most
methane_most hundredths content a b = let h : hundredths * content ≤ parts_most * 10000 = mul-le-mul a b in omega arith

-- no flow, no methane
pub no_flow : (content : ℕ) (temp : ℤ) (press : ℕ) → methane_litres 0 content temp press ≡ 0
unfolding methane_litres methane_litres_in hundredths_of correction_down
no_flow content temp press =
    ap (λ (n : ℕ). n * content / methane_under)
    (ap (λ (n : ℕ). n / correction_under temp) (zero-mul press) ∙ zero-div (correction_under temp))
    ∙ ap (λ (n : ℕ). n / methane_under) (zero-mul content)

-- what any interval inside the ranges has
pub methane_litres_most : (flow content : ℕ) (temp : ℤ) (press : ℕ) → Inside flow temp press → content ≤ content_most → methane_litres flow content temp press ≤
    litres_most
unfolding methane_litres methane_litres_in
methane_litres_most flow content temp press i h = methane_most (hundredths_of flow temp press) content (hundredths_most flow temp press i) h

-- and any interval of ventilation air
pub air_litres_most : (flow content : ℕ) (temp : ℤ) (press : ℕ) → Inside flow temp press → content ≤ ppm_most → methane_litres flow content temp press ≤ air_most
unfolding methane_litres methane_litres_in
air_litres_most flow content temp press i h = air_most_lem (hundredths_of flow temp press) content (hundredths_most flow temp press i) h
