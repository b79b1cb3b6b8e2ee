-- A pass over a row: what is written, summed and counted with one more entry.
-- Assumes nothing.
use Prim.Native.Nat.{ℕ, zero, suc, ◌+◌, ◌<◌}
use mathlib.Core.Path.{◌≡◌, refl, sym, ap, ap₂, ◌∙◌}
use mathlib.Core.Bool.{Bool, true, false}
use mathlib.Core.List.{List, ◌++◌}
use native.Mathlib.Numerals.{add-one}
use native.Mathlib.Omega.{arith}
use borrow.Author.Tests.{eqb-true, eqb-false}
use lib.Dec.{eqb}
use lib.ListN.{length, get_or, drop, set, replicate}
use lib.Seq.{get_or-set_same, get_or-set_other}
use Rattle.rows.specs.Rows.{build, sum_to, count_of, hit}
use Rattle.rows.proofs.Laws.{build_step}
use Rattle.rows.proofs.Sums.{hit_same, hit_other}

-- a row with one more entry written
pub row_more : (i : ℕ) (g : ℕ → ℕ) (old row : List ℕ) (v : ℕ) → row ≡ build i g ++ drop i old → i < length old → v ≡ g i
    → set row i v ≡ build (i + 1) g ++ drop (i + 1) old
row_more i g old row v e h q =
    ap₂ (λ (xs : List ℕ) (y : ℕ). set xs i y) e q
    ∙ build_step i g old h
    ∙ ap (λ (m : ℕ). build m g ++ drop m old) (sym (add-one i))

pub sum_more : (i : ℕ) (g : ℕ → ℕ) (s v : ℕ) → s ≡ sum_to i g → v ≡ g i → s + v ≡ sum_to (i + 1) g
sum_more i g s v e q = ap₂ ◌+◌ e q ∙ ap (λ (m : ℕ). sum_to m g) (sym (add-one i))

-- counts of nothing
pub zeros : (m j : ℕ) → ◌≡◌ {A = ℕ} (get_or (replicate m 0) j 0) 0
zeros zero j = refl
zeros (suc m) zero = refl
zeros (suc m) (suc j) = zeros m j

-- one more interval with outcome k, counted where it belongs
pub count_more : (i : ℕ) (g : ℕ → ℕ) (counts : List ℕ) (k j : ℕ) → k ≡ g i → k < length counts → get_or counts j 0 ≡ count_of i g j
    → get_or (set counts k (get_or counts k 0 + 1)) j 0 ≡ count_of (i + 1) g j
count_more i g counts k j q h e = go (eqb k j) refl ∙ sum_more i (λ m. hit (g m) j) (count_of i g j) (hit k j) refl (ap (λ (y : ℕ). hit y j) q)
  where
    same : k ≡ j → get_or (set counts k (get_or counts k 0 + 1)) j 0 ≡ count_of i g j + hit k j
    same z =
        ap (λ (y : ℕ). get_or (set counts k (get_or counts k 0 + 1)) y 0) (sym z)
        ∙ get_or-set_same counts k (get_or counts k 0 + 1) 0 h
        ∙ ap₂ ◌+◌ (ap (λ (y : ℕ). get_or counts y 0) z ∙ e) (sym (ap (λ (y : ℕ). hit y j) z ∙ hit_same j))

    other : (k ≡ j → ⊥) → get_or (set counts k (get_or counts k 0 + 1)) j 0 ≡ count_of i g j + hit k j
    other z =
        get_or-set_other counts k j (get_or counts k 0 + 1) 0 (λ w. z (sym w))
        ∙ e
        ∙ (let y : hit k j ≡ 0 = hit_other k j z in let w : count_of i g j ≡ count_of i g j + hit k j = omega arith in w)

    go : (t : Bool) → eqb k j ≡ t → get_or (set counts k (get_or counts k 0 + 1)) j 0 ≡ count_of i g j + hit k j
    go true z = same (eqb-true k j z)
    go false z = other (eqb-false k j z)
