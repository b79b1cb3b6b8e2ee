-- Statistics of a gap's two windows: the mean and the lower limit (rules 7.6 to 7.8 of docs/RULES.md). Upper layers rely on these
-- names and on the laws in proofs/Laws.antt only.
-- Assumes nothing.
use Rattle.std.specs.Prelude.{ℕ, zero, suc, ◌+◌, ◌-◌, ◌*◌, ◌/◌, ◌<◌, ◌≡◌, refl, Bool, true, false, List, ◌++◌, map, leb, ℤ, pos, ◌-ℤ◌, ◌*ℤ◌, length, replicate, ◌≤ℤ◌}
use Rattle.rows.specs.Rows.{both, total}
use Rattle.drainage_window.specs.declared.Tally.{Tally}

-- how many values there are, n, their sum S and the sum of their squares Q2
unfoldable pub tally_of : List ℕ → Tally
tally_of xs = record { n = length xs; sum = total xs; squares = total (map (λ v. v * v) xs) }

-- Rule 7.6: the mean, rounded down
unfoldable pub mean_of : Tally → ℕ
mean_of t = t.sum / t.n

-- Rule 7.7, the two conditions on L, over whole numbers with sign. A window is a sample, so n - 1 divides its spread; z is z2 in
-- hundredths, so 100 stands on the right.
pub record Condition (n S Q2 z L : ℤ) : Type 0 where
  pub room : (n *ℤ L) ≤ℤ S
  pub spread : (z *ℤ ((n *ℤ Q2) -ℤ (S *ℤ S))) ≤ℤ (pos 100 *ℤ (((n -ℤ pos 1) *ℤ (S -ℤ (n *ℤ L))) *ℤ (S -ℤ (n *ℤ L))))

abbrev pub Meets : Tally → ℕ → ℕ → Type 0
Meets t z L = Condition (pos t.n) (pos t.sum) (pos t.squares) (pos z) (pos L)

-- Rule 7.7: the lower limit is the greatest L, 0 or more, that meets both, and 0 if there is none
pub record IsLimit (t : Tally) (z L : ℕ) : Type 0 where
  pub reached : 0 < L → Meets t z L
  pub greatest : (M : ℕ) → L < M → Meets t z M → ⊥

-- Rule 7.8: z2 in hundredths, 1.645² and 1.960² rounded up, for 90 % and for 95 %
abbrev pub z90 : ℕ
z90 = 271

abbrev pub z95 : ℕ
z95 = 385

-- Rule 7.5: the intervals of each window, where the mean, the lower 90 % limit or the lower 95 % limit is taken of its values
abbrev pub mean_width : ℕ
mean_width = 16

abbrev pub width90 : ℕ
width90 = 96

abbrev pub width95 : ℕ
width95 = 288

-- ---- The computing form, which code and examples use. proofs/Laws.antt has that it is the same: `meets_true` and `meets_met` for
-- the conditions; `limit_is`, `limit_of_lem` and `limit_unique` for the limit.

-- the two sides of the second condition in natural numbers, of one value or more: z2 × S² stands on the right, so that nothing
-- is cut off at 0
abbrev pub spread_of : Tally → ℕ → ℕ
spread_of t z = z * (t.n * t.squares)

abbrev pub allowed_of : Tally → ℕ → ℕ → ℕ
allowed_of t z L = z * (t.sum * t.sum) + 100 * ((t.n - 1) * ((t.sum - t.n * L) * (t.sum - t.n * L)))

-- both conditions as a test
unfoldable pub meets : Tally → ℕ → ℕ → Bool
meets t z L = both (leb (t.n * L) t.sum) (leb (spread_of t z) (allowed_of t z L))

-- the greatest whole number up to k that passes a test, or 0
unfoldable pub greatest_up_to : (ℕ → Bool) → ℕ → ℕ
greatest_up_to p zero = 0
greatest_up_to p (suc k) = elim (p (suc k)) [ true ↦ suc k | false ↦ greatest_up_to p k ]

-- the limit: no whole number above the mean meets the first condition
unfoldable pub limit_of : Tally → ℕ → ℕ
limit_of t z = greatest_up_to (meets t z) (mean_of t)

-- ---- Examples (rule 15.1)

mean_example : mean_of (tally_of (replicate 16 100 ++ replicate 16 101)) ≡ 100
unfolding mean_of tally_of
mean_example = refl

limit_example : limit_of (tally_of (replicate 96 0 ++ replicate 96 2000)) z90 ≡ 880
unfolding limit_of mean_of tally_of meets greatest_up_to
limit_example = refl

-- beside rule 15.1: 575 × 90² is below 3.85 × 1,100² and 576 × 90² is not, so this tells n - 1 from n at 95 %
limit_95_example : limit_of (tally_of (replicate 288 0 ++ replicate 288 2200)) z95 ≡ 1009
unfolding limit_of mean_of tally_of meets greatest_up_to
limit_95_example = refl

limit_none : limit_of (tally_of (replicate 191 0 ++ replicate 1 192)) z90 ≡ 0
unfolding limit_of mean_of tally_of meets greatest_up_to
limit_none = refl
