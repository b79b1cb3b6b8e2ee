-- The correction rounded up beside the one rounded down, over any factor: not below the exact parts, by less than a part
-- above them, and so the same as rounded down or one part more.
-- Assumes nothing.
use Prim.Native.Nat.{ℕ, ◌+◌, ◌*◌, ◌≤◌, ◌<◌}
use native.Mathlib.Nat.{mul-div-le, lt-mul-div-succ, le_of_mul-le-mul_left, lt_of_mul-lt-mul_left}
use native.Mathlib.Omega.{arith}
use lib.IntN.{ℤ}
use Rattle.protocol.specs.Ranges.{kelvin_of}
use Rattle.protocol.proofs.RoundingLaws.{ceil_low, ceil_high}
use Rattle.volume.specs.Volume.{correction_over, correction_under, correction_down, correction_up}

-- q whole parts and u rounded up
not_fewer : (a b q u : ℕ) → 0 < b → b * q ≤ a → a ≤ b * u → q ≤ u
not_fewer a b q u h f g = le_of_mul-le-mul_left (let z : b * q ≤ b * u = omega arith in z) h

one_more : (a b q u : ℕ) → a < b * (q + 1) → b * u < a + b → u ≤ q + 1
one_more a b q u f g =
    let z : u < q + 2 = lt_of_mul-lt-mul_left b (let y : b * u < b * (q + 2) = omega arith in y) in
    omega arith

module _ (factor flow : ℕ) (temp : ℤ) (press : ℕ) (warm : 0 < kelvin_of temp) where
  above : 0 < correction_under temp
  above = omega (arith, warm)

  pub up_not_below : correction_over factor flow press ≤ correction_under temp * correction_up factor flow temp press
  unfolding correction_up
  up_not_below = ceil_low (correction_over factor flow press) (correction_under temp) above

  pub up_by_less : correction_under temp * correction_up factor flow temp press < correction_over factor flow press + correction_under temp
  unfolding correction_up
  up_by_less = ceil_high (correction_over factor flow press) (correction_under temp) above

  pub down_not_above_up : correction_down factor flow temp press ≤ correction_up factor flow temp press
  unfolding correction_down
  down_not_above_up =
      not_fewer (correction_over factor flow press) (correction_under temp) _ _ above (mul-div-le (correction_over factor flow press) (correction_under temp)) up_not_below

  pub up_one_more : correction_up factor flow temp press ≤ correction_down factor flow temp press + 1
  unfolding correction_down
  up_one_more =
      one_more (correction_over factor flow press) (correction_under temp) _ _ (lt-mul-div-succ (correction_over factor flow press) above) up_by_less
