-- rule 9.15: the formula that README.md gives for a spreadsheet. It gives the hundredths and the methane litres of rules
-- 9.1 and 9.2, and no number in it has more than 14 digits.
-- Assumes nothing.
use Prim.Native.Nat.{ℕ, ◌+◌, ◌-◌, ◌*◌, ◌/◌, ◌%◌, ◌^◌, ◌≤◌, ◌<◌}
use mathlib.Core.Path.{◌≡◌, sym, ap, ap₂, ◌∙◌, subst}
use native.Mathlib.Nat.{mod-eq-sub-div-mul, mod-add-div', mul-add-mod_self_right, mod-lt, mul-le-mul, div-le_self, div-mul-le_self}
use native.Mathlib.Omega.{arith}
use lib.IntN.{ℤ}
use Rattle.protocol.specs.Ranges.{kelvin_of, content_most}
use Rattle.volume.specs.Volume.{hundredths_of, methane_under, methane_litres_in, methane_litres, Inside, parts_most}
use Rattle.volume.proofs.Laws.{hundredths_most, content_product_most, methane_most}
use Rattle.volume.proofs.Pair.{over}
use Rattle.volume.proofs.TwoSteps.{product, divisor, spread, divided_first, two_steps}

-- E to M of README.md, for the flow, the content, the temperature and the pressure in A to D
abbrev pub cell_e : ℕ → ℕ
cell_e flow = flow * over

abbrev pub cell_f : ℤ → ℕ
cell_f temp = divisor temp

abbrev pub cell_g : ℕ → ℤ → ℕ
cell_g flow temp = cell_e flow / cell_f temp

abbrev pub cell_h : ℕ → ℤ → ℕ
cell_h flow temp = cell_e flow - cell_g flow temp * cell_f temp

abbrev pub cell_i : ℕ → ℤ → ℕ → ℕ
cell_i flow temp press = cell_h flow temp * press / cell_f temp

abbrev pub cell_j : ℕ → ℤ → ℕ → ℕ
cell_j flow temp press = cell_h flow temp * press - cell_i flow temp press * cell_f temp

abbrev pub cell_k : ℕ → ℤ → ℕ → ℕ
cell_k flow temp press = cell_g flow temp * press + cell_i flow temp press

abbrev pub cell_l : ℕ → ℤ → ℕ → ℕ
cell_l flow temp press = cell_k flow temp press * 100 + cell_j flow temp press * 100 / cell_f temp

abbrev pub cell_m : ℕ → ℕ → ℤ → ℕ → ℕ
cell_m flow content temp press = cell_l flow temp press * content / 1000000

-- the remainder of e × p by d, from the remainder of e
remainder_first : (e d p : ℕ) → e % d * p % d ≡ e * p % d
remainder_first e d p =
    sym (mul-add-mod_self_right (e / d * p) d (e % d * p))
    ∙ ap (λ (n : ℕ). n % d) (spread (e / d) (e % d) d p ∙ ap (λ (n : ℕ). n * p) (mod-add-div' e d))

-- H and J are remainders
h_is : (flow : ℕ) (temp : ℤ) → cell_h flow temp ≡ cell_e flow % cell_f temp
h_is flow temp = sym (mod-eq-sub-div-mul (cell_e flow) (cell_f temp))

j_is : (flow : ℕ) (temp : ℤ) (press : ℕ) → cell_j flow temp press ≡ product flow press % divisor temp
j_is flow temp press =
    sym (mod-eq-sub-div-mul (cell_h flow temp * press) (cell_f temp))
    ∙ ap (λ (n : ℕ). n * press % cell_f temp) (h_is flow temp)
    ∙ remainder_first (cell_e flow) (cell_f temp) press

-- K has the whole litres
k_is : (flow : ℕ) (temp : ℤ) (press : ℕ) → 0 < kelvin_of temp → cell_k flow temp press ≡ product flow press / divisor temp
k_is flow temp press above =
    ap (λ (n : ℕ). cell_g flow temp * press + n * press / cell_f temp) (h_is flow temp)
    ∙ divided_first (cell_e flow) (cell_f temp) press (omega (arith, above))

-- the hundredths of L are rule 9.1's, for every flow and pressure and every temperature above absolute zero
pub retraced : (flow : ℕ) (temp : ℤ) (press : ℕ) → 0 < kelvin_of temp → cell_l flow temp press ≡ hundredths_of flow temp press
retraced flow temp press above =
    ap₂ (λ (n m : ℕ). n * 100 + m * 100 / cell_f temp) (k_is flow temp press above) (j_is flow temp press)
    ∙ two_steps flow temp press above

-- and the methane litres of M are rule 9.2's
pub retraced_methane : (flow content : ℕ) (temp : ℤ) (press : ℕ) → 0 < kelvin_of temp → cell_m flow content temp press ≡ methane_litres flow content temp press
unfolding methane_litres methane_litres_in
retraced_methane flow content temp press above = ap (λ (n : ℕ). n * content / methane_under) (retraced flow temp press above)

-- a remainder of the largest divisor
below_most : (flow : ℕ) (temp : ℤ) (press n r : ℕ) → Inside flow temp press → r ≡ n % cell_f temp → r ≤ 151237694
below_most flow temp press n r i e =
    let less : n % cell_f temp < cell_f temp = mod-lt n (omega (arith, i.kelvin_least)) in
    omega (arith, less, e, i.kelvin_most)

l_most : (flow : ℕ) (temp : ℤ) (press : ℕ) → Inside flow temp press → cell_l flow temp press ≤ parts_most
l_most flow temp press i =
    subst (λ (n : ℕ). n ≤ parts_most)
    (sym (retraced flow temp press (omega (arith, i.kelvin_least))))
    (hundredths_most flow temp press i)

-- what stands in the cells, and the products inside I to M
pub record Digits (flow content : ℕ) (temp : ℤ) (press : ℕ) : Type 0 where
  pub e_digits : cell_e flow < 10 ^ 14
  pub f_digits : cell_f temp < 10 ^ 14
  pub g_digits : cell_g flow temp < 10 ^ 14
  pub g_product_digits : cell_g flow temp * cell_f temp < 10 ^ 14
  pub h_digits : cell_h flow temp < 10 ^ 14
  pub h_product_digits : cell_h flow temp * press < 10 ^ 14
  pub i_digits : cell_i flow temp press < 10 ^ 14
  pub i_product_digits : cell_i flow temp press * cell_f temp < 10 ^ 14
  pub j_digits : cell_j flow temp press < 10 ^ 14
  pub whole_digits : cell_g flow temp * press < 10 ^ 14
  pub k_digits : cell_k flow temp press < 10 ^ 14
  pub k_product_digits : cell_k flow temp press * 100 < 10 ^ 14
  pub j_product_digits : cell_j flow temp press * 100 < 10 ^ 14
  pub l_digits : cell_l flow temp press < 10 ^ 14
  pub l_product_digits : cell_l flow temp press * content < 10 ^ 14
  pub m_digits : cell_m flow content temp press < 10 ^ 14

pub digits : (flow content : ℕ) (temp : ℤ) (press : ℕ) → Inside flow temp press → content ≤ content_most → Digits flow content temp press
digits flow content temp press i h =
    let first : cell_g flow temp * cell_f temp ≤ cell_e flow = div-mul-le_self (cell_e flow) (cell_f temp) in
    let rest : cell_h flow temp ≤ 151237694 = below_most flow temp press (cell_e flow) (cell_h flow temp) i (h_is flow temp) in
    let product-rest : cell_h flow temp * press ≤ 151237694 * 300000 = mul-le-mul rest i.press_most in
    let second : cell_i flow temp press * cell_f temp ≤ cell_h flow temp * press = div-mul-le_self (cell_h flow temp * press) (cell_f temp) in
    let last : cell_j flow temp press ≤ 151237694 = below_most flow temp press (product flow press) (cell_j flow temp press) i (j_is flow temp press) in
    let most : cell_l flow temp press ≤ parts_most = l_most flow temp press i in
    record {
      e_digits = omega (arith, i.flow_within);
      f_digits = omega (arith, i.kelvin_most);
      g_digits = omega (arith, div-le_self (cell_e flow) (cell_f temp), i.flow_within);
      g_product_digits = omega (arith, first, i.flow_within);
      h_digits = omega (arith, rest);
      h_product_digits = omega (arith, product-rest);
      i_digits = omega (arith, most);
      i_product_digits = omega (arith, second, product-rest);
      j_digits = omega (arith, last);
      whole_digits = omega (arith, most);
      k_digits = omega (arith, most);
      k_product_digits = omega (arith, most);
      j_product_digits = omega (arith, last);
      l_digits = omega (arith, most);
      l_product_digits = omega (arith, content_product_most (cell_l flow temp press) content (omega (arith, most)) (omega (arith, h)));
      m_digits = omega (arith, methane_most (cell_l flow temp press) content most h);
    }
