-- What a corrected reading is, for callers: marked exactly where the reading is, never above it, and the reading itself
-- where nothing is taken out.
-- Assumes nothing.
use Prim.Native.Nat.{ℕ, zero, suc, ◌+◌, ◌*◌, ◌/◌, ◌-◌, ◌≤◌, ◌<◌, max}
use mathlib.Core.Path.{◌≡◌, refl, sym, ap, ap₂, ◌∙◌, subst}
use mathlib.Core.Bool.{Bool, true, false}
use mathlib.Core.List.{List}
use mathlib.Core.Logic.{⊎_elim}
use native.Mathlib.Nat.{div-le_of_le-mul, mul-div_cancel, not-suc-le-zero, le_step, lt-suc_self, eq-or-lt_of_le, le_of_suc-le-suc, le_trans}
use native.Mathlib.Nat.{le_of_lt, lt_of_not-le, max-zero, le-max_left, le-max_right, max-eq_left, max-eq_right}
use native.Mathlib.Decide.{dec_le}
use native.Mathlib.Omega.{arith}
use lib.ListN.{length, get_or}
use borrow.Author.Tests.{eqb-true, eqb-false, eq-eqb, ne_eqb}
use Rattle.rows.specs.Rows.{pick}
use Rattle.rows.proofs.Laws.{get_or_inside}
use Rattle.protocol.specs.Ranges.{mark, missing}
use Rattle.drainage_drift.specs.Drift.{Instrument, passes, together, excess, max_to, stretch_drift, corrected, kept_or, corrected_at}

pub corrected_le : (d v : ℕ) → corrected d v ≤ v
unfolding corrected
corrected_le d v = div-le_of_le-mul (10000 + d) (let w : v * 10000 ≤ (10000 + d) * v = omega arith in w)

pub corrected_none : (v : ℕ) → corrected 0 v ≡ v
unfolding corrected
corrected_none v = mul-div_cancel v {n = 10000} (omega arith)

module _ (d : ℕ) (reading : List ℕ) (i : ℕ) where
  pub kept_missing : missing (get_or reading i mark) ≡ true → kept_or d reading i ≡ mark
  unfolding kept_or
  kept_missing e = ap (λ (t : Bool). pick t mark (corrected d (get_or reading i mark))) e

  pub kept_measured : missing (get_or reading i mark) ≡ false → kept_or d reading i ≡ corrected d (get_or reading i mark)
  unfolding kept_or
  kept_measured e = ap (λ (t : Bool). pick t mark (corrected d (get_or reading i mark))) e

pub kept_none : (reading : List ℕ) (i : ℕ) → kept_or 0 reading i ≡ get_or reading i mark
kept_none reading i = go (missing (get_or reading i mark)) refl
  where
    go : (b : Bool) → missing (get_or reading i mark) ≡ b → kept_or 0 reading i ≡ get_or reading i mark
    go true e = kept_missing 0 reading i e ∙ sym (eqb-true (get_or reading i mark) mark e)
    go false e = kept_measured 0 reading i e ∙ corrected_none (get_or reading i mark)

-- as the code copies it
pub kept_copied : (reading : List ℕ) (i : ℕ) → i < length reading → get_or reading i 0 ≡ kept_or 0 reading i
kept_copied reading i h = get_or_inside reading i 0 mark h ∙ sym (kept_none reading i)

-- the two cases as the code meets them: its reads have 0 outside the row, and it divides by 10,000 and the drift
module _ (e : ℕ) (reading : List ℕ) (i : ℕ) (h : i < length reading) where
  pub kept_marks : get_or reading i 0 ≡ mark → get_or reading i 0 ≡ kept_or (e - 10000) reading i
  kept_marks q = q ∙ sym (kept_missing (e - 10000) reading i (eq-eqb (get_or reading i mark) mark (get_or_inside reading i mark 0 h ∙ q)))

  pub kept_divides : 10000 ≤ e → (get_or reading i 0 ≡ mark → ⊥) → get_or reading i 0 * 10000 / e ≡ kept_or (e - 10000) reading i
  unfolding corrected
  kept_divides l q =
      ap₂ (λ (v d : ℕ). v * 10000 / d) (get_or_inside reading i 0 mark h) (let w : e ≡ 10000 + (e - 10000) = omega arith in w)
      ∙ sym (kept_measured (e - 10000) reading i (ne_eqb (get_or reading i mark) mark (λ r. q (get_or_inside reading i 0 mark h ∙ r))))

-- ---- the same of a row

module _ (c : Instrument) (reading : List ℕ) (i : ℕ) where
  pub at_missing : missing (get_or reading i mark) ≡ true → corrected_at c reading i ≡ mark
  unfolding corrected_at
  at_missing e = kept_missing (stretch_drift c i) reading i e

  pub at_measured : missing (get_or reading i mark) ≡ false → corrected_at c reading i ≡ corrected (stretch_drift c i) (get_or reading i mark)
  unfolding corrected_at
  at_measured e = kept_measured (stretch_drift c i) reading i e

  -- a corrected value is never above its reading, so it keeps the reading's bound
  pub at_bounded : (b : ℕ) → missing (get_or reading i mark) ≡ false → get_or reading i mark ≤ b → corrected_at c reading i ≤ b
  at_bounded b e h =
      let p = at_measured e in
      let q = corrected_le (stretch_drift c i) (get_or reading i mark) in
      omega arith

  -- marked exactly where the reading is
  pub same_missing : get_or reading i mark ≤ mark → missing (corrected_at c reading i) ≡ missing (get_or reading i mark)
  same_missing h = go (missing (get_or reading i mark)) refl
    where
      go : (b : Bool) → missing (get_or reading i mark) ≡ b → missing (corrected_at c reading i) ≡ b
      go true e = eq-eqb (corrected_at c reading i) mark (at_missing e)
      go false e =
          ne_eqb (corrected_at c reading i) mark
          (λ z. eqb-false (get_or reading i mark) mark e
          (let p = at_measured e in
          let q = corrected_le (stretch_drift c i) (get_or reading i mark) in
          omega arith))

  -- where measured readings are at most b, so are measured corrected values, and the same ones are missing
  module _ (b : ℕ) (small : b < mark) (right : missing (get_or reading i mark) ≡ false → get_or reading i mark ≤ b) where
    up_to_mark : get_or reading i mark ≤ mark
    up_to_mark = go (missing (get_or reading i mark)) refl
      where
        go : (t : Bool) → missing (get_or reading i mark) ≡ t → get_or reading i mark ≤ mark
        go true e = let q = eqb-true (get_or reading i mark) mark e in omega arith
        go false e = let q = right e in omega arith

    pub bounded_missing : missing (corrected_at c reading i) ≡ missing (get_or reading i mark)
    bounded_missing = same_missing up_to_mark

    pub bounded_value : missing (corrected_at c reading i) ≡ false → corrected_at c reading i ≤ b
    bounded_value e = let f = sym bounded_missing ∙ e in at_bounded b f (right f)

-- ---- the greatest of some numbers

pub max_to_ext : (n : ℕ) (f g : ℕ → ℕ) → ((k : ℕ) → k < n → f k ≡ g k) → max_to n f ≡ max_to n g
max_to_ext zero f g h = refl
max_to_ext (suc n) f g h = ap₂ max (max_to_ext n f g (λ k l. h k (le_step l))) (h n (lt-suc_self n))

-- what is 0 from j on adds nothing
pub max_to-cut : (n j : ℕ) (f g : ℕ → ℕ) → j ≤ n → ((k : ℕ) → k < j → f k ≡ g k) → ((k : ℕ) → j ≤ k → k < n → f k ≡ 0)
    → max_to n f ≡ max_to j g
max_to-cut zero j f g l h z = max_to_ext zero f g (λ k m. absurd (not-suc-le-zero m)) ∙ ap (λ (m : ℕ). max_to m g) (let w : 0 ≡ j = omega arith in w)
max_to-cut (suc n) j f g l h z =
    ⊎_elim
    (λ e. max_to_ext (suc n) f g (λ k m. h k (omega arith)) ∙ ap (λ (m : ℕ). max_to m g) (sym e))
    (λ s. ap₂ max (max_to-cut n j f g (le_of_suc-le-suc s) h (λ k p q. z k p (le_step q))) (z n (le_of_suc-le-suc s) (lt-suc_self n))
    ∙ max-zero (max_to j g))
    (eq-or-lt_of_le l)

pub max_to_zero : (n : ℕ) (f : ℕ → ℕ) → ((k : ℕ) → k < n → f k ≡ 0) → max_to n f ≡ 0
max_to_zero n f h = max_to-cut n 0 f f (omega arith) (λ k l. absurd (not-suc-le-zero l)) (λ k p q. h k q)

pub max_to_most : (n : ℕ) (f : ℕ → ℕ) (k : ℕ) → k < n → f k ≤ max_to n f
max_to_most zero f k l = absurd (not-suc-le-zero l)
max_to_most (suc n) f k l =
    ⊎_elim
    (λ e. subst (λ (m : ℕ). f m ≤ max (max_to n f) (f n)) (sym e) (le-max_right (max_to n f) (f n)))
    (λ s. le_trans (max_to_most n f k s) (le-max_left (max_to n f) (f n)))
    (eq-or-lt_of_le (le_of_suc-le-suc l))

-- an index at which f is d
pub record MetAt (n : ℕ) (f : ℕ → ℕ) (d : ℕ) : Type 0 where
  pub place : ℕ
  pub below : place < n
  pub value : f place ≡ d

pub max_to_met : (n : ℕ) (f : ℕ → ℕ) → 0 < max_to n f → MetAt n f (max_to n f)
max_to_met zero f h = absurd (not-suc-le-zero h)
max_to_met (suc n) f h =
    elim (dec_le (max_to n f) (f n)) [
      | yes g ↦ record { place = n; below = lt-suc_self n; value = sym (max-eq_right g) }
      | no g ↦ later (max_to_met n f) (max-eq_left (le_of_lt (lt_of_not-le g)))
    ]
  where
    later : (0 < max_to n f → MetAt n f (max_to n f)) → max (max_to n f) (f n) ≡ max_to n f → MetAt (suc n) f (max (max_to n f) (f n))
    later g e =
        let m = g (subst (λ (r : ℕ). 0 < r) e h) in
        record { place = m.place; below = le_step m.below; value = m.value ∙ sym e }

-- ---- no check fails

pub excess_passed : (c : Instrument) (j : ℕ) → passes c j ≡ true → excess c j ≡ 0
excess_passed c j e = simp e

-- picked or not, 0 is 0
pub pick_zero : (b : Bool) (x : ℕ) → x ≡ 0 → pick b x 0 ≡ 0
pick_zero true x e = e
pick_zero false x e = refl

-- where no check fails, the readings stand
pub all_passed : (c : Instrument) (reading : List ℕ) (i : ℕ) → ((j : ℕ) → j < c.count → passes c j ≡ true)
    → corrected_at c reading i ≡ get_or reading i mark
unfolding corrected_at stretch_drift
all_passed c reading i h =
    ap (λ (d : ℕ). kept_or d reading i)
    (max_to_zero c.count (λ j. pick (together c j i) (excess c j) 0)
    (λ k l. pick_zero (together c k i) (excess c k) (excess_passed c k (h k l))))
    ∙ kept_none reading i
