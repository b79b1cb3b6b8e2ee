-- Every product of the limit's condition fits 64 bits, bounded in stages: the largest, 100 × 575 × (S - nL)², is
-- 17,169,408,000,000,000,000.
-- Assumes nothing.
use Prim.Native.Nat.{ℕ, ◌-◌, ◌*◌, ◌≤◌}
use native.Mathlib.Nat.{mul-le-mul}
use native.Mathlib.Omega.{arith}
use Rattle.drainage_window.specs.declared.Tally.{Tally}
use Rattle.drainage_window.specs.Window.{z95}
use Rattle.drainage_window.specs.Sizes.{Sized}

sum_most : (n s : ℕ) → n ≤ 576 → s ≤ n * 30000 → s ≤ 17280000
sum_most n s a b = omega arith

count_squares : (n q : ℕ) → n ≤ 576 → q ≤ n * 900000000 → n * q ≤ 298598400000000
count_squares n q a b =
    let h : n * q ≤ 576 * 518400000000 = mul-le-mul a (let z : q ≤ 518400000000 = omega arith in z) in
    omega arith

square : (s : ℕ) → s ≤ 17280000 → s * s ≤ 298598400000000
square s h = let z : s * s ≤ 17280000 * 17280000 = mul-le-mul h h in omega arith

-- z2, at most 3.85, and the count less one, at most 575, times any of the squares
times_z : (z x : ℕ) → z ≤ z95 → x ≤ 298598400000000 → z * x ≤ 114960384000000000
times_z z x a b = let h : z * x ≤ 385 * 298598400000000 = mul-le-mul a b in omega arith

times_count : (m x : ℕ) → m ≤ 575 → x ≤ 298598400000000 → m * x ≤ 171694080000000000
times_count m x a b = let h : m * x ≤ 575 * 298598400000000 = mul-le-mul a b in omega arith

module _ {t : Tally} (s : Sized t) where
  pub limit_fits : (l : ℕ) → l ≤ 30000 → t.n * l ≤ 17280000
  limit_fits l h = let z : t.n * l ≤ 576 * 30000 = mul-le-mul s.few h in omega arith

  pub squares_fit : t.n * t.squares ≤ 298598400000000
  squares_fit = count_squares t.n t.squares s.few s.squares_most

  pub sum_fits : t.sum * t.sum ≤ 298598400000000
  sum_fits = square t.sum (sum_most t.n t.sum s.few s.sum_most)

  pub left_fits : (x : ℕ) → (t.sum - x) * (t.sum - x) ≤ 298598400000000
  left_fits x =
      square (t.sum - x)
      (let z : t.sum ≤ 17280000 = sum_most t.n t.sum s.few s.sum_most in omega arith)

  pub squares_fit_z : {z : ℕ} → z ≤ z95 → z * (t.n * t.squares) ≤ 114960384000000000
  squares_fit_z {z} h = times_z z (t.n * t.squares) h squares_fit

  pub sum_fits_z : {z : ℕ} → z ≤ z95 → z * (t.sum * t.sum) ≤ 114960384000000000
  sum_fits_z {z} h = times_z z (t.sum * t.sum) h sum_fits

  pub left_fits_n : (x : ℕ) → (t.n - 1) * ((t.sum - x) * (t.sum - x)) ≤ 171694080000000000
  left_fits_n x = times_count (t.n - 1) ((t.sum - x) * (t.sum - x)) (omega (arith, s.few)) (left_fits x)
