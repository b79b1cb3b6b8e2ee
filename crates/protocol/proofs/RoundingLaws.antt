-- Laws of the quotient rounded up.
-- Assumes nothing.
use Prim.Native.Nat.{ℕ, ◌+◌, ◌-◌, ◌*◌, ◌≤◌, ◌<◌}
use mathlib.Core.Path.{◌≡◌}
use native.Mathlib.Nat.{mul-div-le, lt-mul-div-succ, le_of_mul-le-mul_left, lt_of_mul-lt-mul_left, le_antisymm, mul-le-mul_left, mul-pos}
use native.Mathlib.Omega.{arith}
use Rattle.protocol.specs.Rounding.{ceil_div}

-- a / b rounded up: not below it, and above it by less than one
pub ceil_low : (a b : ℕ) → 0 < b → a ≤ b * ceil_div a b
ceil_low a b h = omega (arith, lt-mul-div-succ (a + (b - 1)) h)

pub ceil_high : (a b : ℕ) → 0 < b → b * ceil_div a b < a + b
ceil_high a b h = omega (arith, mul-div-le (a + (b - 1)) b)

-- u is not above any v that is enough
least : (a b u v : ℕ) → 0 < b → b * u < a + b → a ≤ b * v → u ≤ v
least a b u v h f g =
    let z : u < v + 1 = lt_of_mul-lt-mul_left b (let y : b * u < b * (v + 1) = omega arith in y) in
    omega arith

-- both sides taken m times
pub ceil_same : (m a b : ℕ) → 0 < b → 0 < m → ceil_div a b ≡ ceil_div (m * a) (m * b)
ceil_same m a b h l =
    le_antisymm
    (least a b (ceil_div a b) (ceil_div (m * a) (m * b)) h (ceil_high a b h)
    (le_of_mul-le-mul_left (let z : m * a ≤ m * (b * ceil_div (m * a) (m * b)) = omega (arith, ceil_low (m * a) (m * b) above) in z) l))
    (least (m * a) (m * b) (ceil_div (m * a) (m * b)) (ceil_div a b) above (ceil_high (m * a) (m * b) above)
    (let z : m * a ≤ m * (b * ceil_div a b) = mul-le-mul_left m (ceil_low a b h) in omega arith))
  where
    above : 0 < m * b
    above = mul-pos l h
