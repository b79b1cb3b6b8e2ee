-- Counts over all devices are counts over each: what the sheet counts, entry by entry.
-- Assumes nothing.
use Prim.Native.Nat.{ℕ, zero, suc, ◌+◌, ◌*◌, ◌≤◌, ◌<◌}
use mathlib.Core.Path.{◌≡◌, refl, sym, ap, ap₂, ◌∙◌}
use mathlib.Core.Bool.{Bool, true, false, not}
use native.Mathlib.Nat.{zero-mul, suc-mul, add-zero, add-suc, add_assoc}
use native.Mathlib.Omega.{arith}
use lib.Dec.{eqb}
use borrow.Author.Tests.{le-ltb, ne_eqb}
use Rattle.rows.specs.Rows.{pick, either, sum_to, count_of, hit}
use Rattle.rows.proofs.Sums.{sum_to_ext, sum_to_add, sum_to_swap, hit_other, hits_once}
use Rattle.accounts.specs.Account.{counted}

-- a sum over a + n entries
sum_on : (a n : ℕ) (f : ℕ → ℕ) → sum_to (a + n) f ≡ sum_to a f + sum_to n (λ k. f (a + k))
sum_on a zero f = ap (λ (m : ℕ). sum_to m f) (add-zero a) ∙ sym (add-zero (sum_to a f))
sum_on a (suc n) f =
    ap (λ (m : ℕ). sum_to m f) (add-suc a n)
    ∙ ap (λ (s : ℕ). s + f (a + n)) (sum_on a n f)
    ∙ add_assoc (sum_to a f) (sum_to n (λ k. f (a + k))) (f (a + n))

-- over d rows of n entries
pub sum_rows : (d n : ℕ) (f : ℕ → ℕ) → sum_to (d * n) f ≡ sum_to d (λ e. sum_to n (λ k. f (e * n + k)))
sum_rows zero n f = ap (λ (m : ℕ). sum_to m f) (zero-mul n)
sum_rows (suc d) n f =
    ap (λ (m : ℕ). sum_to m f) (suc-mul d n)
    ∙ sum_on (d * n) n f
    ∙ ap (λ (s : ℕ). s + sum_to n (λ k. f (d * n + k))) (sum_rows d n f)

-- ---- an outcome in the tests, and in the counts

-- above j there is no hit of j
other : (y j : ℕ) → j < y → hit y j ≡ 0
other y j h = hit_other y j (λ e. omega arith)

counted_hits : (x : ℕ) → pick (counted x) 1 0 ≡ hit x 0 + hit x 1 + hit x 2
counted_hits zero = refl
counted_hits (suc zero) = refl
counted_hits (suc (suc zero)) = refl
counted_hits (suc (suc (suc x))) = none (suc (suc (suc x))) (omega arith)
  where
    none : (y : ℕ) → 3 ≤ y → pick (counted y) 1 0 ≡ hit y 0 + hit y 1 + hit y 2
    none y h =
        ap (λ (b : Bool). pick b 1 0) (le-ltb y 3 h) ∙ sym (ap₂ ◌+◌ (ap₂ ◌+◌ (other y 0 (omega arith)) (other y 1 (omega arith))) (other y 2 (omega arith)))

replaced_hits : (x : ℕ) → pick (either (eqb x 1) (eqb x 2)) 1 0 ≡ hit x 1 + hit x 2
replaced_hits zero = refl
replaced_hits (suc zero) = refl
replaced_hits (suc (suc zero)) = refl
replaced_hits (suc (suc (suc x))) = none (suc (suc (suc x))) (omega arith)
  where
    none : (y : ℕ) → 3 ≤ y → pick (either (eqb y 1) (eqb y 2)) 1 0 ≡ hit y 1 + hit y 2
    none y h =
        ap₂ (λ (a b : Bool). pick (either a b) 1 0) (ne_eqb y 1 (λ e. omega arith)) (ne_eqb y 2 (λ e. omega arith))
        ∙ sym (ap₂ ◌+◌ (other y 1 (omega arith)) (other y 2 (omega arith)))

excluded_hits : (x : ℕ) → x < 10 → pick (not (counted x)) 1 0 ≡ sum_to 7 (λ j. hit x (3 + j))
excluded_hits x h = rest (hit x) (pick (counted x) 1 0) (pick (not (counted x)) 1 0) (hits_once 10 x h) (counted_hits x) (either_one (counted x))
  where
    either_one : (b : Bool) → pick b 1 0 + pick (not b) 1 0 ≡ 1
    either_one true = refl
    either_one false = refl

    rest : (f : ℕ → ℕ) (p q : ℕ) → sum_to 10 f ≡ 1 → p ≡ f 0 + f 1 + f 2 → p + q ≡ 1 → q ≡ sum_to 7 (λ j. f (3 + j))
    rest f p q a b c = omega arith

-- ---- a row of n entries

module _ (n : ℕ) (f : ℕ → ℕ) where
  pub row_counted : sum_to n (λ k. pick (counted (f k)) 1 0) ≡ count_of n f 0 + count_of n f 1 + count_of n f 2
  row_counted =
      sum_to_ext n (λ k. pick (counted (f k)) 1 0) (λ k. hit (f k) 0 + hit (f k) 1 + hit (f k) 2) (λ k h. counted_hits (f k))
      ∙ sum_to_add n (λ k. hit (f k) 0 + hit (f k) 1) (λ k. hit (f k) 2)
      ∙ ap (λ (s : ℕ). s + count_of n f 2) (sum_to_add n (λ k. hit (f k) 0) (λ k. hit (f k) 1))

  pub row_replaced : sum_to n (λ k. pick (either (eqb (f k) 1) (eqb (f k) 2)) 1 0) ≡ count_of n f 1 + count_of n f 2
  row_replaced =
      sum_to_ext n (λ k. pick (either (eqb (f k) 1) (eqb (f k) 2)) 1 0) (λ k. hit (f k) 1 + hit (f k) 2) (λ k h. replaced_hits (f k))
      ∙ sum_to_add n (λ k. hit (f k) 1) (λ k. hit (f k) 2)

  pub row_excluded : ((k : ℕ) → k < n → f k < 10) → sum_to n (λ k. pick (not (counted (f k))) 1 0) ≡ sum_to 7 (λ j. count_of n f (3 + j))
  row_excluded x =
      sum_to_ext n (λ k. pick (not (counted (f k))) 1 0) (λ k. sum_to 7 (λ j. hit (f k) (3 + j))) (λ k h. excluded_hits (f k) (x k h))
      ∙ sum_to_swap n 7 (λ k j. hit (f k) (3 + j))
