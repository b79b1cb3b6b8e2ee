-- What is known where a step is clear, in plain facts.
-- Assumes nothing.
use Prim.Native.Nat.{ℕ, zero, suc, ◌+◌, ◌-◌, ◌*◌, ◌≤◌, ◌<◌}
use mathlib.Core.Path.{◌≡◌, refl, sym, ap, ap₂, ◌∙◌, subst}
use mathlib.Core.Bool.{Bool, true, false, not}
use mathlib.Core.List.{List}
use mathlib.Core.Logic.{⊎_elim}
use native.Mathlib.Nat.{not-suc-le-zero, le_of_suc-le-suc, eq-or-lt_of_le, mul-add-div, div-eq_of_lt, mul-add-mod_self_left, mod-eq_of_lt}
use native.Mathlib.Omega.{arith}
use lib.Dec.{ltb, leb}
use lib.IntN.{pos}
use lib.ListN.{length, get_or}
use borrow.Author.Tests.{leb-true, leb-false, ltb-false, lt-ltb, eqb-true, not-false}
use Rattle.rows.specs.Rows.{both, either}
use Rattle.rows.proofs.Laws.{both_true}
use Rattle.protocol.specs.Kinds.{is_kind, misplaced}
use Rattle.protocol.specs.Ranges.{intervals_most, devices_most, checks_most, things, fuels_most, quantity_most, factor_most, from_one, drift_right}
use Rattle.columns.specs.Series.{Checks, Fuel, Burnable}
use Rattle.steps.specs.Step.{Clear}
use Rattle.steps.specs.Wrong.{wrong_check, wrong_thing, wrong_fuel}
use Rattle.steps.specs.Steps.{intervals_step, devices_step, lengths_step, mine_step, kinds_step, misplaced_step, checks_step, fuels_step}

-- ---- bounds

module _ (x most : ℕ) (e : from_one most x ≡ true) where
  pub within_least : 1 ≤ x
  within_least = leb-true 1 x (both_true (leb 1 x) (leb x most) e).0

  pub within_most : x ≤ most
  within_most = leb-true x most (both_true (leb 1 x) (leb x most) e).1

-- ---- steps that look at one number

pub intervals_clear : (n : ℕ) → Clear (intervals_step n) → from_one intervals_most n ≡ true
unfolding intervals_step
intervals_clear n x = not-false _ (x.clear 0 (omega arith))

pub devices_clear : (d : ℕ) → Clear (devices_step d) → from_one devices_most d ≡ true
unfolding devices_step
devices_clear d x = not-false _ (x.clear 0 (omega arith))

pub mine_clear : (mine : ℕ) → Clear (mine_step mine) → mine ≤ 1
unfolding mine_step
mine_clear mine x = leb-true _ _ (not-false _ (x.clear 0 (omega arith)))

-- ---- lengths and kinds

pub lengths_clear : (pairs : List (ℕ × ℕ)) → Clear (lengths_step pairs) → (k : ℕ) → k < length pairs
    → (get_or pairs k (0, 0)).0 ≡ (get_or pairs k (0, 0)).1
unfolding lengths_step
lengths_clear pairs x k h = eqb-true _ _ (not-false _ (x.clear k h))

pub kinds_clear : (kinds : List ℕ) → Clear (kinds_step kinds) → (d : ℕ) → d < length kinds → is_kind (get_or kinds d 0) ≡ true
unfolding kinds_step
kinds_clear kinds x d h = not-false (is_kind (get_or kinds d 0)) (x.clear d h)

pub placed_clear : (mine : ℕ) (kinds : List ℕ) → Clear (misplaced_step mine kinds) → (d : ℕ) → d < length kinds
    → misplaced mine (get_or kinds d 0) ≡ false
unfolding misplaced_step
placed_clear mine kinds x d h = x.clear d h

-- ---- tests that all fail

either_first : (a b : Bool) → either a b ≡ false → a ≡ false
either_first false b e = refl
either_first true b e = e

either_second : (a b : Bool) → either a b ≡ false → b ≡ false
either_second false b e = e
either_second true b e = let z : ◌≡◌ {A = ℕ} 0 1 = cc in absurd (let w : ⊥ = omega arith in w)

both_second : (a b : Bool) → a ≡ true → both a b ≡ false → b ≡ false
both_second true b p e = e
both_second false b p e = let z : ◌≡◌ {A = ℕ} 0 1 = cc in absurd (let w : ⊥ = omega arith in w)

-- a check's three tests
three_false : (a b d : Bool) → either a (either (not b) d) ≡ false → (a ≡ false) × (b ≡ true) × (d ≡ false)
three_false a b d e =
    let q = either_second a (either (not b) d) e in
    (either_first a (either (not b) d) e, not-false b (either_first (not b) d q), either_second (not b) d q)

-- ---- the checks of instrument g

module _ (n : ℕ) (c : Checks) (x : Clear (checks_step n c)) (g : ℕ) (h : g < length c.counts) where
  -- the position of check j
  abbrev at : ℕ → ℕ
  at j = get_or c.positions (checks_most * g + j) 0

  thing_clear : (t : ℕ) → t < things → wrong_thing n c g t ≡ false
  unfolding checks_step
  thing_clear t l =
      ap₂ (wrong_thing n c)
      (sym (mul-add-div {m = things} (omega arith) g t ∙ ap (λ (q : ℕ). g + q) (div-eq_of_lt l) ∙ (let z : g + 0 ≡ g = omega arith in z)))
      (sym (mul-add-mod_self_left things g t ∙ mod-eq_of_lt l))
      ∙ x.clear (things * g + t) (omega arith)

  pub count_clear : get_or c.counts g 0 ≤ checks_most
  unfolding wrong_thing
  count_clear = ltb-false _ _ (thing_clear 0 (omega arith))

  check_clear : (j : ℕ) → j < get_or c.counts g 0 → wrong_check n c.positions c.drifts g j ≡ false
  unfolding wrong_thing
  check_clear j l =
      both_second (ltb j (get_or c.counts g 0)) (wrong_check n c.positions c.drifts g j) (lt-ltb _ _ l)
      (thing_clear (suc j) (let z : get_or c.counts g 0 ≤ checks_most = count_clear in omega arith))

  checked : (j : ℕ) → j < get_or c.counts g 0
      → (ltb n (at j) ≡ false) × (drift_right (get_or c.drifts (checks_most * g + j) (pos 0)) ≡ true)
      × (both (ltb 0 j) (leb (at j) (at (j - 1))) ≡ false)
  unfolding wrong_check
  checked j l =
      three_false (ltb n (at j)) (drift_right (get_or c.drifts (checks_most * g + j) (pos 0))) (both (ltb 0 j) (leb (at j) (at (j - 1))))
      (check_clear j l)

  pub position_clear : (j : ℕ) → j < get_or c.counts g 0 → at j ≤ n
  position_clear j l = ltb-false _ _ (checked j l).0

  pub drift_clear : (j : ℕ) → j < get_or c.counts g 0 → drift_right (get_or c.drifts (checks_most * g + j) (pos 0)) ≡ true
  drift_clear j l = (checked j l).1

  -- a check and the next one
  next_clear : (j : ℕ) → suc j < get_or c.counts g 0 → at j < at (suc j)
  next_clear j l =
      leb-false (at (suc j)) (at j)
      (both_second (ltb 0 (suc j)) (leb (at (suc j)) (at j)) (lt-ltb 0 (suc j) (omega arith))
      (subst (λ (i : ℕ). both (ltb 0 (suc j)) (leb (at (suc j)) (at i)) ≡ false) (let z : suc j - 1 ≡ j = omega arith in z) (checked (suc j) l).2))

  pub rise_clear : (j k : ℕ) → j < k → k < get_or c.counts g 0 → at j < at k
  rise_clear j zero l m = absurd (not-suc-le-zero l)
  rise_clear j (suc k) l m =
      ⊎_elim
      (λ e. subst (λ (i : ℕ). at i < at (suc k)) (sym e) (next_clear k m))
      (λ q.
      let a : at j < at k = rise_clear j k q (omega arith) in
      let b : at k < at (suc k) = next_clear k m in
      omega arith)
      (eq-or-lt_of_le (le_of_suc-le-suc l))

-- ---- fuel

module _ (f : Fuel) (x : Clear (fuels_step f)) where
  fuels_few : length f.quantity ≤ fuels_most
  unfolding fuels_step wrong_fuel
  fuels_few = ltb-false _ _ (x.clear 0 (omega arith))

  line_clear : (j : ℕ) → j < length f.quantity
      → (ltb quantity_most (get_or f.quantity j 0) ≡ false) × (ltb factor_most (get_or f.factor j 0) ≡ false)
  unfolding fuels_step wrong_fuel
  line_clear j h =
      let e : either (ltb quantity_most (get_or f.quantity j 0)) (ltb factor_most (get_or f.factor j 0)) ≡ false = x.clear (suc j) (omega arith) in (
        either_first (ltb quantity_most (get_or f.quantity j 0)) (ltb factor_most (get_or f.factor j 0)) e,
        either_second (ltb quantity_most (get_or f.quantity j 0)) (ltb factor_most (get_or f.factor j 0)) e,
      )

  pub fuels_clear : length f.factor ≡ length f.quantity → Burnable f
  fuels_clear e =
      record {
        same_length = e;
        few = fuels_few;
        quantity_within = λ j h. ltb-false _ _ (line_clear j h).0;
        factor_within = λ j h. ltb-false _ _ (line_clear j h).1;
      }
