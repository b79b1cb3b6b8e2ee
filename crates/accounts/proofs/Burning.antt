-- The sum over fuel lines, as a loop's invariant.
-- Assumes nothing.
use Prim.Native.Nat.{ℕ, ◌+◌, ◌*◌, ◌≤◌, ◌<◌}
use mathlib.Core.Path.{◌≡◌, sym, ap, ◌∙◌, subst}
use native.Mathlib.Nat.{mul-le-mul, mul-le-mul_right, le_trans}
use native.Mathlib.Numerals.{add-one}
use native.Mathlib.Omega.{arith}
use lib.ListN.{length, get_or}
use Rattle.rows.specs.Rows.{sum_to}
use Rattle.rows.proofs.Sums.{sum_to_bound}
use Rattle.balance.specs.Balance.{fuel_in_mg}
use Rattle.columns.specs.Series.{Fuel, Burnable}
use Rattle.accounts.specs.Sheet.{fuel_sum}

-- the mg of line k
abbrev pub line : Fuel → ℕ → ℕ
line f k = get_or f.quantity k 0 * get_or f.factor k 0

pub record Burning (f : Fuel) (sum i : ℕ) : Type 0 where
  pub within : i ≤ length f.quantity
  pub fuels : Burnable f
  pub so_far : sum ≡ sum_to i (line f)

pub line_most : (f : Fuel) → Burnable f → (k : ℕ) → k < length f.quantity → line f k ≤ 4000000000000000
line_most f x k h =
    let z : get_or f.quantity k 0 * get_or f.factor k 0 ≤ 1000000000 * 4000000 = mul-le-mul (x.quantity_within k h) (x.factor_within k h) in omega arith

sum_most : (f : Fuel) → Burnable f → (i : ℕ) → i ≤ length f.quantity → sum_to i (line f) ≤ 256000000000000000
sum_most f x i h =
    let a : sum_to i (line f) ≤ i * 4000000000000000 = sum_to_bound i 4000000000000000 (line f) (λ k l. line_most f x k (omega arith)) in
    let b : i * 4000000000000000 ≤ 64 * 4000000000000000 = mul-le-mul_right 4000000000000000 (le_trans h x.few) in
    omega arith

module _ (f : Fuel) (sum i : ℕ) (v : Burning f sum i) where
  pub sum_room : sum ≤ 256000000000000000
  sum_room = subst (λ (s : ℕ). s ≤ 256000000000000000) (sym v.so_far) (sum_most f v.fuels i v.within)

  pub burnt : length f.quantity ≤ i
      → (sum ≡ fuel_sum f) × (sum ≤ 256000000000000000)
  unfolding fuel_in_mg fuel_sum
  burnt h =
      let e : i ≡ length f.quantity = omega (arith, v.within) in
      (v.so_far ∙ ap (λ (m : ℕ). sum_to m (line f)) e, sum_room)
