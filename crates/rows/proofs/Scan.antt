-- A scan for the first offender, as a loop's invariant: the indices passed are clean. Start, step and both ends.
-- Assumes nothing.
use Prim.Native.Nat.{ℕ, ◌+◌, ◌≤◌, ◌<◌}
use mathlib.Core.Path.{◌≡◌}
use mathlib.Core.Bool.{Bool, true, false}
use native.Mathlib.Nat.{not-suc-le-zero, not-le_of_lt}
use native.Mathlib.Omega.{arith}
use borrow.Author.Count.{below_more}
use Rattle.rows.specs.Rows.{FirstOf}

pub record Passed (n : ℕ) (p : ℕ → Bool) (i : ℕ) : Type 0 where
  pub within : i ≤ n
  pub clean : (k : ℕ) → k < i → p k ≡ false

pub passed_none : (n : ℕ) (p : ℕ → Bool) → Passed n p 0
passed_none n p = record { within = omega arith; clean = λ k h. absurd (not-suc-le-zero h) }

pub passed_more : (n : ℕ) (p : ℕ → Bool) (i : ℕ) → Passed n p i → i < n → p i ≡ false → Passed n p (i + 1)
passed_more n p i x h e = record { within = omega arith; clean = below_more _ _ x.clean e }

pub passed_found : (n : ℕ) (p : ℕ → Bool) (i : ℕ) → Passed n p i → p i ≡ true → FirstOf n p i
passed_found n p i x e = record { within = x.within; before = x.clean; found = λ h. e }

pub passed_all : (n : ℕ) (p : ℕ → Bool) (i : ℕ) → Passed n p i → n ≤ i → FirstOf n p i
passed_all n p i x h = record { within = x.within; before = x.clean; found = λ l. absurd (not-le_of_lt l h) }

-- the same, said of the end itself
pub passed_through : (n : ℕ) (p : ℕ → Bool) (i : ℕ) → Passed n p i → n ≤ i → FirstOf n p n
passed_through n p i x h = record { within = omega arith; before = λ k l. x.clean k (omega (arith, l, h)); found = λ l. absurd (not-le_of_lt l (let z : n ≤ n = omega arith in z)) }
