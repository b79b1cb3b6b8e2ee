-- A window's sums as a loop's invariant: what is added and what is left make the whole. Start, step and end.
-- Assumes nothing.
use Prim.Native.Nat.{ℕ, ◌+◌, ◌*◌, ◌≤◌, ◌<◌}
use mathlib.Core.Path.{◌≡◌, sym, ap, ap₂, ◌∙◌, subst}
use mathlib.Core.List.{List, [], ◌++◌, map}
use native.Mathlib.Nat.{mul-le-mul_right}
use native.Mathlib.Numerals.{add-one}
use native.Mathlib.Omega.{arith}
use lib.ListN.{length, get_or, drop, drop_of_length-le}
use lib.Seq.{drop-cons}
use Rattle.rows.specs.Rows.{total}
use Rattle.drainage_window.specs.declared.Tally.{Tally}
use Rattle.drainage_window.specs.Window.{tally_of}
use Rattle.drainage_window.specs.Sizes.{Low, Windows, Sized}
use Rattle.drainage_window.proofs.Laws.{total_most, squares_most, tally_append, windows_sized}

abbrev pub squared : List ℕ → List ℕ
squared xs = map (λ v. v * v) xs

pub record Adding (xs : List ℕ) (sum squares i : ℕ) : Type 0 where
  pub few : length xs ≤ 288
  pub low : Low 30000 xs
  pub within : i ≤ length xs
  pub left : sum + total (drop i xs) ≡ total xs
  pub left_squares : squares + total (squared (drop i xs)) ≡ total (squared xs)

-- the value at i is what comes off what is left
module _ (xs : List ℕ) (i : ℕ) (h : i < length xs) where
  pub off : total (drop i xs) ≡ get_or xs i 0 + total (drop (i + 1) xs)
  off = rw (add-one, drop-cons xs i 0)

  off_squares : total (squared (drop i xs)) ≡ get_or xs i 0 * get_or xs i 0 + total (squared (drop (i + 1) xs))
  off_squares = rw (add-one, drop-cons xs i 0)

module _ {xs : List ℕ} {sum squares i : ℕ} (a : Adding xs sum squares i) (h : i < length xs) where
  -- no sum on the way leaves its bound: 288 values of at most 30,000
  pub sum_fits : sum + get_or xs i 0 ≤ 8640000
  sum_fits =
      let z : length xs * 30000 ≤ 288 * 30000 = mul-le-mul_right 30000 a.few in
      omega (arith, off xs i h, a.left, total_most 30000 xs a.low)

  pub squares_fit : squares + get_or xs i 0 * get_or xs i 0 ≤ 259200000000
  squares_fit =
      let z : length xs * 900000000 ≤ 288 * 900000000 = mul-le-mul_right 900000000 a.few in
      let y : total (squared xs) ≤ length xs * 900000000 = squares_most 30000 xs a.low in
      omega (arith, off_squares xs i h, a.left_squares)

pub adding_all : {xs : List ℕ} {sum squares i : ℕ} → Adding xs sum squares i → length xs ≤ i
    → record { n = length xs; sum = sum; squares = squares } ≡ tally_of xs
unfolding tally_of
adding_all {xs} {sum} {squares} {i} a h = λ j. record { n = length xs; sum = all j; squares = all_squares j }
  where
    nothing : drop i xs ≡ []
    nothing = drop_of_length-le xs h

    all : sum ≡ total xs
    all = let z : total (drop i xs) ≡ 0 = ap total nothing in omega (arith, a.left)

    all_squares : squares ≡ total (squared xs)
    all_squares = let z : total (squared (drop i xs)) ≡ 0 = ap (λ (ys : List ℕ). total (squared ys)) nothing in omega (arith, a.left_squares)

-- ---- the two windows together

abbrev pub sums : Tally → Tally → Tally
sums a b = record { n = a.n + b.n; sum = a.sum + b.sum; squares = a.squares + b.squares }

pub sums_are : {a b : Tally} (xs ys : List ℕ) → a ≡ tally_of xs → b ≡ tally_of ys → sums a b ≡ tally_of (xs ++ ys)
sums_are xs ys p q = ap₂ sums p q ∙ sym (tally_append xs ys)

pub sums_sized : {a b : Tally} {xs ys : List ℕ} → a ≡ tally_of xs → b ≡ tally_of ys → Windows xs ys → Sized (sums a b)
sums_sized {xs = xs} {ys = ys} p q w = subst Sized (sym (sums_are xs ys p q)) (windows_sized xs ys w)
