-- Laws of gaps: how a run starts, goes on and ends; the one gap around a missing interval; what a whole window says.
-- Assumes nothing.
use Prim.Native.Nat.{ℕ, zero, suc, ◌+◌, ◌-◌, ◌≤◌, ◌<◌}
use mathlib.Core.Path.{◌≡◌, refl, sym, ap, ap₂, ◌∙◌, subst}
use mathlib.Core.Bool.{Bool, true, false, not}
use mathlib.Core.Logic.{⊎_elim}
use mathlib.Core.List.{List, [], ◌∷◌}
use native.Mathlib.Nat.{add-zero, add-suc, le_refl, le_step, le_antisymm, not-suc-le-zero, le_of_suc-le-suc, le-add_right, eq-or-lt_of_le, le_dest}
use native.Mathlib.Nat.{lt_of_not-le}
use native.Mathlib.Decide.{dec_le}
use native.Mathlib.Omega.{arith}
use lib.Dec.{ltb, eqb}
use borrow.Author.Tests.{ltb-true, lt-ltb, eq-eqb, ne_eqb}
use lib.ListN.{length, get_or, drop, length-drop, drop_of_length-le, get_or-eq_default}
use lib.Seq.{drop-cons, get_or-drop}
use Rattle.rows.specs.Rows.{pick, both, every}
use Rattle.rows.proofs.Laws.{every_at, every_all, both_true, get_or_inside}
use Rattle.protocol.specs.Ranges.{missing, mark}
use Rattle.drainage_runs.specs.Runs.{missing_at, measured_at, gap_start, gap_end, run, usable, whole, IsGap, WindowsWhole}
use Rattle.rows.proofs.Truth.{clash}

-- ---- the code's test of a reading

pub seen : (row : List ℕ) (i : ℕ) → i < length row → eqb (get_or row i 0) 65535 ≡ missing_at row i
seen row i h = ap missing (get_or_inside row i 0 mark h)

pub missing_is : (row : List ℕ) (i : ℕ) → i < length row → get_or row i 0 ≡ 65535 → missing_at row i ≡ true
missing_is row i h e = sym (seen row i h) ∙ eq-eqb (get_or row i 0) 65535 e

pub measured_is : (row : List ℕ) (i : ℕ) → i < length row → (get_or row i 0 ≡ 65535 → ⊥) → missing_at row i ≡ false
measured_is row i h f = sym (seen row i h) ∙ ne_eqb (get_or row i 0) 65535 f

-- ---- one step

pub start_zero : (row : List ℕ) → gap_start row 0 ≡ 0
unfolding gap_start
start_zero row = refl

pub start_on : (row : List ℕ) (i : ℕ) → missing_at row i ≡ true → gap_start row (suc i) ≡ gap_start row i
unfolding gap_start
start_on row i e = ap (λ (b : Bool). pick b (gap_start row i) (suc i)) e

pub start_new : (row : List ℕ) (i : ℕ) → missing_at row i ≡ false → gap_start row (suc i) ≡ suc i
unfolding gap_start
start_new row i e = ap (λ (b : Bool). pick b (gap_start row i) (suc i)) e

pub end_on : (row : List ℕ) (i : ℕ) → i < length row → missing_at row i ≡ true → gap_end row i ≡ gap_end row (suc i)
unfolding gap_end run
end_on row i h e =
    ap (λ (xs : List ℕ). i + run xs) (drop-cons row i mark h)
    ∙ ap (λ (b : Bool). i + pick b (suc (run (drop (suc i) row))) 0) e
    ∙ (let z : i + suc (run (drop (suc i) row)) ≡ suc i + run (drop (suc i) row) = omega arith in z)

pub end_here : (row : List ℕ) (i : ℕ) → missing_at row i ≡ false → gap_end row i ≡ i
unfolding gap_end run
end_here row i e = elim (dec_le (suc i) (length row)) [ yes h ↦ in_row h | no n ↦ past (omega (arith, lt_of_not-le n)) ]
  where
    in_row : i < length row → i + run (drop i row) ≡ i
    in_row h =
        ap (λ (xs : List ℕ). i + run xs) (drop-cons row i mark h)
        ∙ ap (λ (b : Bool). i + pick b (suc (run (drop (suc i) row))) 0) e
        ∙ add-zero i

    past : length row ≤ i → i + run (drop i row) ≡ i
    past h = ap (λ (xs : List ℕ). i + run xs) (drop_of_length-le row h) ∙ add-zero i

pub end_out : (row : List ℕ) (i : ℕ) → length row ≤ i → gap_end row i ≡ i
unfolding gap_end run
end_out row i h = ap (λ (xs : List ℕ). i + run xs) (drop_of_length-le row h) ∙ add-zero i

-- ---- bounds

run_most : (xs : List ℕ) → run xs ≤ length xs
unfolding run
run_most [] = le_refl 0
run_most (v ∷ vs) = go (run_most vs) (missing v)
  where
    go : run vs ≤ length vs → (b : Bool) → pick b (suc (run vs)) 0 ≤ suc (length vs)
    go h true = omega arith
    go h false = omega arith

pub end_most : (row : List ℕ) (i : ℕ) → i ≤ length row → gap_end row i ≤ length row
unfolding gap_end
end_most row i h = let z : run (drop i row) ≤ length (drop i row) = run_most (drop i row) in omega (arith, length-drop i row)

pub end_least : (row : List ℕ) (i : ℕ) → i ≤ gap_end row i
unfolding gap_end
end_least row i = le-add_right i (run (drop i row))

run_end : (xs : List ℕ) → run xs < length xs → missing (get_or xs (run xs) mark) ≡ false
unfolding run
run_end [] h = absurd (not-suc-le-zero h)
run_end (v ∷ vs) h = go (run_end vs) (missing v) refl h
  where
    go : (run vs < length vs → missing (get_or vs (run vs) mark) ≡ false) → (b : Bool) → missing v ≡ b
        → pick b (suc (run vs)) 0 < suc (length vs) → missing (get_or (v ∷ vs) (pick b (suc (run vs)) 0) mark) ≡ false
    go ih true e l = ih (omega arith)
    go ih false e l = e

-- the entry at a gap's end is measured, where there is one
pub end_measured : (row : List ℕ) (i : ℕ) → i ≤ length row → gap_end row i < length row → missing_at row (gap_end row i) ≡ false
unfolding gap_end
end_measured row i l h =
    ap missing (sym (get_or-drop i row (run (drop i row)) mark)) ∙ run_end (drop i row) (omega (arith, length-drop i row))

-- ---- inside a gap that starts at a

-- an interval below its gap's end is missing
pub missing_before_end : (row : List ℕ) (i : ℕ) → i < gap_end row i → missing_at row i ≡ true
missing_before_end row i h = go (missing_at row i) refl
  where
    go : (b : Bool) → missing_at row i ≡ b → missing_at row i ≡ true
    go true e = e
    go false e = absurd (let z : gap_end row i ≡ i = end_here row i e in let w : ⊥ = omega arith in w)

-- the gap of each of its intervals is the same
pub record SameGap (row : List ℕ) (a k : ℕ) : Type 0 where
  pub is_missing : missing_at row k ≡ true
  pub starts : gap_start row k ≡ gap_start row a
  pub stops : gap_end row k ≡ gap_end row a

pub in_gap : (row : List ℕ) (a m : ℕ) → a ≤ length row → a + m < gap_end row a → SameGap row a (a + m)
in_gap row a zero l h =
    subst (SameGap row a) (sym (add-zero a))
    (record { is_missing = missing_before_end row a (let z : a + 0 < gap_end row a = h in omega arith); starts = refl; stops = refl })
in_gap row a (suc m) l h =
    let before : SameGap row a (a + m) = in_gap row a m l (omega arith) in
    let most : gap_end row a ≤ length row = end_most row a l in
    let on : gap_end row (a + m) ≡ gap_end row (suc (a + m)) = end_on row (a + m) (omega arith) before.is_missing in
    let same : gap_end row (suc (a + m)) ≡ gap_end row a = sym on ∙ before.stops in
    subst (SameGap row a) (sym (add-suc a m))
    (record {
      is_missing = missing_before_end row (suc (a + m)) (subst (λ (x : ℕ). suc (a + m) < x) (sym same) (omega arith));
      starts = start_on row (a + m) before.is_missing ∙ before.starts;
      stops = same;
    })

-- the same over an interval from a up to the gap's end
pub of_gap : (row : List ℕ) (a k : ℕ) → a ≤ length row → a ≤ k → k < gap_end row a → SameGap row a k
of_gap row a k l h m =
    let d = le_dest h in
    subst (SameGap row a) d.1 (in_gap row a d.0 l (subst (λ (x : ℕ). x < gap_end row a) (sym d.1) m))

-- ---- the one gap around a missing interval

pub start_least : (row : List ℕ) (i : ℕ) → gap_start row i ≤ i
unfolding gap_start
start_least row zero = le_refl 0
start_least row (suc i) = go (start_least row i) (missing_at row i)
  where
    go : gap_start row i ≤ i → (b : Bool) → pick b (gap_start row i) (suc i) ≤ suc i
    go ih true = le_step ih
    go ih false = le_refl (suc i)

start_all : (row : List ℕ) (i k : ℕ) → gap_start row i ≤ k → k < i → missing_at row k ≡ true
unfolding gap_start
start_all row zero k l h = absurd (not-suc-le-zero h)
start_all row (suc i) k l h = go (start_all row i k) (missing_at row i) refl l
  where
    go : (gap_start row i ≤ k → k < i → missing_at row k ≡ true) → (b : Bool) → missing_at row i ≡ b → pick b (gap_start row i) (suc i) ≤ k → missing_at row k ≡ true
    go ih true e z =
        ⊎_elim (λ q. subst (λ (x : ℕ). missing_at row x ≡ true) (sym q) e) (λ q. ih z q) (eq-or-lt_of_le (le_of_suc-le-suc h))
    go ih false e z = absurd (let w : ⊥ = omega arith in w)

start_first : (row : List ℕ) (i : ℕ) → 0 < gap_start row i → missing_at row (gap_start row i - 1) ≡ false
unfolding gap_start
start_first row zero h = absurd (not-suc-le-zero h)
start_first row (suc i) h = go (start_first row i) (missing_at row i) refl h
  where
    go : (0 < gap_start row i → missing_at row (gap_start row i - 1) ≡ false) → (b : Bool) → missing_at row i ≡ b
        → 0 < pick b (gap_start row i) (suc i) → missing_at row (pick b (gap_start row i) (suc i) - 1) ≡ false
    go ih true e z = ih z
    go ih false e z = subst (λ (x : ℕ). missing_at row x ≡ false) (let w : i ≡ suc i - 1 = omega arith in w) e

-- interval i lies from gap_start up to gap_end, and these give a gap
pub around : (row : List ℕ) (i : ℕ) → i < length row → missing_at row i ≡ true → (gap_start row i ≤ i) × (i < gap_end row i)
around row i h e =
    (start_least row i, subst (λ (x : ℕ). i < x) (sym (end_on row i h e)) (end_least row (suc i)))

pub gap_is : (row : List ℕ) (i : ℕ) → i < length row → missing_at row i ≡ true → IsGap row (gap_start row i) (gap_end row i)
gap_is row i h e =
    record {
      some = let z = around row i h e in omega arith;
      inside = end_most row i (omega arith);
      all_missing = λ k l m. elim (dec_le i k) [ yes z ↦ (of_gap row i k (omega arith) z m).is_missing | no z ↦ start_all row i k l (lt_of_not-le z) ];
      first = λ z. ap not (start_first row i z);
      last = λ z. ap not (end_measured row i (omega arith) z);
    }

not_both : {b : Bool} → b ≡ true → not b ≡ true → ⊥
not_both p q = let z : ◌≡◌ {A = ℕ} 0 1 = cc in omega arith

-- two gaps that share an interval are one
pub gap_unique : (row : List ℕ) (i a e b f : ℕ) → IsGap row a e → IsGap row b f → a ≤ i → i < e → b ≤ i → i < f → (a ≡ b) × (e ≡ f)
gap_unique row i a e b f x y h l m o = (
  le_antisymm (left a e b f x y h l m o) (left b f a e y x m o h l),
  le_antisymm (right a e b f x y h l m o) (right b f a e y x m o h l),
)
  where
    left : (a e b f : ℕ) → IsGap row a e → IsGap row b f → a ≤ i → i < e → b ≤ i → i < f → a ≤ b
    left a e b f x y h l m o =
        elim (dec_le a b) [
          | yes z ↦ z
          | no z ↦
              let b-first : b < a = lt_of_not-le z in
              absurd (not_both (y.all_missing (a - 1) (omega arith) (omega arith)) (x.first (omega arith)))
        ]

    right : (a e b f : ℕ) → IsGap row a e → IsGap row b f → a ≤ i → i < e → b ≤ i → i < f → e ≤ f
    right a e b f x y h l m o =
        elim (dec_le e f) [
          | yes z ↦ z
          | no z ↦
              let f-first : f < e = lt_of_not-le z in
              absurd (not_both (x.all_missing f (omega arith) f-first) (y.last (omega (arith, x.inside))))
        ]

-- ---- what a whole window says

not_back : (b : Bool) → not b ≡ true → b ≡ false
not_back true e = clash e refl
not_back false e = refl

-- a window's places, one by one
every_usable : (row : List ℕ) (a e w side k : ℕ) → whole row a e w ≡ true → side < 2 → k < w → usable row a e side k ≡ true
unfolding whole
every_usable row a e w side k h s l =
    every_at w (usable row a e side) (every_at 2 (λ d. every w (usable row a e d)) h side s) k l

pub whole_before : (row : List ℕ) (a e w : ℕ) → whole row a e w ≡ true → (k : ℕ) → k < w → (k < a) × (missing_at row (a - (k + 1)) ≡ false)
unfolding usable
whole_before row a e w h k l =
    let two = both_true (ltb k a) (measured_at row (a - (k + 1))) (every_usable row a e w 0 k h (omega arith) l) in
    (ltb-true k a two.0, not_back _ two.1)

-- a reading that is there lies inside the row
pub measured_inside : (row : List ℕ) (i : ℕ) → missing_at row i ≡ false → i < length row
measured_inside row i e =
    elim (dec_le (suc i) (length row))
    [ yes h ↦ h | no n ↦ clash (ap missing (get_or-eq_default row mark (omega (arith, lt_of_not-le n)))) e ]

pub whole_after : (row : List ℕ) (a e w : ℕ) → whole row a e w ≡ true → (k : ℕ) → k < w → (e + k < length row) × (missing_at row (e + k) ≡ false)
unfolding usable
whole_after row a e w h k l =
    let m : missing_at row (e + k) ≡ false = not_back _ (every_usable row a e w 1 k h (omega arith) l) in
    (measured_inside row (e + k) m, m)

-- the test and rule 7.2 say the same
pub whole_is : (row : List ℕ) (a e w : ℕ) → whole row a e w ≡ true → WindowsWhole row a e w
whole_is row a e w h =
    record {
      before = λ k l. let z = whole_before row a e w h k l in (z.0, ap not z.1);
      after = λ k l. let z = whole_after row a e w h k l in (z.0, ap not z.1);
    }

pub is_whole : (row : List ℕ) (a e w : ℕ) → WindowsWhole row a e w → whole row a e w ≡ true
unfolding whole usable
is_whole row a e w x = every_all 2 (λ side. every w (usable row a e side)) (λ side h. every_all w (usable row a e side) (each side))
  where
    each : (side k : ℕ) → k < w → usable row a e side k ≡ true
    each zero k l =
        ap₂ both (lt-ltb k a (x.before k l).0) (x.before k l).1
    each (suc side) k l = (x.after k l).1
