-- The sum of two windows of 16, one value of each a turn, as a loop's invariant: what is added and what is left make the whole.
-- Assumes nothing.
use Prim.Native.Nat.{ℕ, ◌+◌, ◌*◌, ◌/◌, ◌≤◌, ◌<◌}
use mathlib.Core.Path.{◌≡◌, sym, ap, ap₂, ◌∙◌, subst}
use mathlib.Core.List.{List, ◌++◌}
use native.Mathlib.Omega.{arith}
use lib.ListN.{length, get_or, drop, length-append}
use lib.Seq.{drop-length}
use Rattle.rows.specs.Rows.{total}
use Rattle.drainage_window.specs.Window.{tally_of, mean_of}
use Rattle.drainage_window.specs.Sizes.{Low}
use Rattle.drainage_window.proofs.Laws.{total-append, total_most, tally_most, low_append, mean_most}
use Rattle.drainage_window.proofs.Adding.{off}

pub record Pairing (xs ys : List ℕ) (sum i : ℕ) : Type 0 where
  pub length_xs : length xs ≡ 16
  pub length_ys : length ys ≡ 16
  pub low_xs : Low 30000 xs
  pub low_ys : Low 30000 ys
  pub within : i ≤ 16
  pub left : sum + (total (drop i xs) + total (drop i ys)) ≡ total xs + total ys

module _ {xs ys : List ℕ} {sum i : ℕ} (p : Pairing xs ys sum i) where
  -- no sum on the way leaves its bound: 32 values of at most 30,000
  all_most : total xs + total ys ≤ 960000
  all_most =
      let x : total xs ≤ 16 * 30000 = subst (λ (n : ℕ). total xs ≤ n * 30000) p.length_xs (total_most 30000 xs p.low_xs) in
      let y : total ys ≤ 16 * 30000 = subst (λ (n : ℕ). total ys ≤ n * 30000) p.length_ys (total_most 30000 ys p.low_ys) in
      omega arith

  pub pair_fits : i < 16 → sum + (get_or xs i 0 + get_or ys i 0) ≤ 960000
  pair_fits h =
      let x : i < length xs = omega (arith, p.length_xs) in
      let y : i < length ys = omega (arith, p.length_ys) in
      omega (arith, off xs i x, off ys i y, p.left, all_most)

  pub mean_all : 16 ≤ i → sum / 32 ≡ mean_of (tally_of (xs ++ ys))
  unfolding mean_of tally_of
  mean_all h = ap₂ ◌/◌ (added ∙ sym (total-append xs ys)) (sym counted)
    where
      nothing : (zs : List ℕ) → length zs ≡ 16 → total (drop i zs) ≡ 0
      nothing zs e =
          ap total (ap (λ (n : ℕ). drop n zs) (let z : i ≡ length zs = omega (arith, p.within) in z) ∙ drop-length zs)

      added : sum ≡ total xs + total ys
      added = omega (arith, p.left, nothing xs p.length_xs, nothing ys p.length_ys)

      counted : length (xs ++ ys) ≡ 32
      counted = length-append xs ys ∙ (let z : length xs + length ys ≡ 32 = omega (arith, p.length_xs, p.length_ys) in z)

  pub mean_all_most : mean_of (tally_of (xs ++ ys)) ≤ 30000
  mean_all_most =
      mean_most (tally_of (xs ++ ys)) 30000 (tally_most 30000 (xs ++ ys) (low_append 30000 xs ys p.low_xs p.low_ys))
