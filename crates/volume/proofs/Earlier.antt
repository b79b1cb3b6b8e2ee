-- The rule in force before: whole litres of gas, rounded down, then whole litres of methane. An interval's methane litres
-- are never fewer than by that rule, and at most one litre more.
-- Assumes nothing.
use Prim.Native.Nat.{ℕ, ◌+◌, ◌*◌, ◌/◌, ◌≤◌, ◌<◌}
use mathlib.Core.Path.{◌≡◌, refl, subst}
use native.Mathlib.Nat.{mul-le-mul_right, mul-div-le, lt-mul-div-succ, lt_of_mul-lt-mul_left}
use native.Mathlib.Omega.{arith}
use lib.IntN.{ℤ, pos}
use Rattle.protocol.specs.Ranges.{kelvin_of, content_most}
use Rattle.volume.specs.Volume.{correction_over, correction_under, correction_down, hundredths_of, methane_litres_in, methane_litres}

-- 0.1 m3, the unit of a flow, is 100 litres; they were rounded down to whole ones
unfoldable pub earlier_litres : ℕ → ℤ → ℕ → ℕ
earlier_litres flow temp press = correction_down 100 flow temp press

unfoldable pub earlier_methane_litres : ℕ → ℕ → ℤ → ℕ → ℕ
earlier_methane_litres flow content temp press = earlier_litres flow temp press * content / 10000

-- l whole litres and h hundredths of n / d litres
hundreds_low : (n d l h : ℕ) → d * l ≤ n → 100 * n < d * (h + 1) → 100 * l ≤ h
hundreds_low n d l h a b =
    let z : 100 * l < h + 1 = lt_of_mul-lt-mul_left d (let y : d * (100 * l) < d * (h + 1) = omega arith in y) in
    omega arith

hundreds_high : (n d l h : ℕ) → n < d * (l + 1) → d * h ≤ 100 * n → h < 100 * l + 100
hundreds_high n d l h a b = lt_of_mul-lt-mul_left d (let z : d * h < d * (100 * l + 100) = omega arith in z)

-- c hundredths of a percent of them
litres_low : (l h c : ℕ) → 100 * l ≤ h → l * c / 10000 ≤ h * c / 1000000
litres_low l h c a = let z : 100 * l * c ≤ h * c = mul-le-mul_right c a in omega arith

litres_high : (l h c : ℕ) → h < 100 * l + 100 → c ≤ content_most → h * c / 1000000 ≤ l * c / 10000 + 1
litres_high l h c a b = let z : h * c ≤ (100 * l + 99) * c = mul-le-mul_right c (omega (arith, a)) in omega arith

module _ (flow : ℕ) (temp : ℤ) (press : ℕ) (warm : 0 < kelvin_of temp) where
  above : 0 < correction_under temp
  above = omega (arith, warm)

  hundred : correction_over 10000 flow press ≡ 100 * correction_over 100 flow press
  hundred = omega arith

  pub whole_litres_low : 100 * earlier_litres flow temp press ≤ hundredths_of flow temp press
  unfolding earlier_litres hundredths_of correction_down
  whole_litres_low =
      hundreds_low (correction_over 100 flow press) (correction_under temp) _ _ (mul-div-le (correction_over 100 flow press) (correction_under temp))
      (subst (λ (n : ℕ). n < correction_under temp * (correction_over 10000 flow press / correction_under temp + 1)) hundred
      (lt-mul-div-succ (correction_over 10000 flow press) above))

  pub whole_litres_high : hundredths_of flow temp press < 100 * earlier_litres flow temp press + 100
  unfolding earlier_litres hundredths_of correction_down
  whole_litres_high =
      hundreds_high (correction_over 100 flow press) (correction_under temp) _ _ (lt-mul-div-succ (correction_over 100 flow press) above)
      (subst (λ (n : ℕ). correction_under temp * (correction_over 10000 flow press / correction_under temp) ≤ n) hundred
      (mul-div-le (correction_over 10000 flow press) (correction_under temp)))

  -- the request's word: no interval has fewer methane litres than before
  pub never_fewer : (content : ℕ) → earlier_methane_litres flow content temp press ≤ methane_litres flow content temp press
  unfolding earlier_methane_litres methane_litres methane_litres_in
  never_fewer content = litres_low (earlier_litres flow temp press) (hundredths_of flow temp press) content whole_litres_low

  pub one_more_at_most : (content : ℕ) → content ≤ content_most
      → methane_litres flow content temp press ≤ earlier_methane_litres flow content temp press + 1
  unfolding earlier_methane_litres methane_litres methane_litres_in
  one_more_at_most content most = litres_high (earlier_litres flow temp press) (hundredths_of flow temp press) content whole_litres_high most

-- both are reached: 38.76 l of gas at 100 % and at 99 %, of which 38 l were counted
none_more : methane_litres 1 10000 (pos 10000) 50000 ≡ earlier_methane_litres 1 10000 (pos 10000) 50000
unfolding earlier_methane_litres earlier_litres methane_litres methane_litres_in hundredths_of correction_down
none_more = refl

one_more : methane_litres 1 9900 (pos 10000) 50000 ≡ earlier_methane_litres 1 9900 (pos 10000) 50000 + 1
unfolding earlier_methane_litres earlier_litres methane_litres methane_litres_in hundredths_of correction_down
one_more = refl
