-- The pass over one series' gaps, as a loop's invariant: what stands before i is filled, what stands after it corrected only.
-- Assumes nothing.
use Prim.Native.Nat.{ℕ, zero, suc, ◌+◌, ◌-◌, ◌≤◌, ◌<◌}
use mathlib.Core.Path.{◌≡◌, sym, ap, ap₂, ◌∙◌, subst}
use mathlib.Core.Bool.{Bool, true, false}
use mathlib.Core.List.{List, [], ◌∷◌, ◌++◌, append_assoc}
use native.Mathlib.Nat.{le_dest, lt_of_not-le, add-zero}
use borrow.Author.Tests.{not-true}
use native.Mathlib.Numerals.{add-one}
use native.Mathlib.Decide.{dec_le}
use native.Mathlib.Omega.{arith}
use lib.ListN.{length, get_or, drop, length-append, length-drop, get_or-append}
use lib.Seq.{drop-cons, get_or-append-add, get_or-drop}
use Rattle.rows.specs.Rows.{pick, build, every, Continued}
use Rattle.rows.proofs.Laws.{length-build, get_or-build, every_at}
use Rattle.protocol.specs.Ranges.{intervals_most, mark, flow_most}
use Rattle.drainage_runs.specs.Runs.{missing_at, measured_at, gap_start, gap_end}
use Rattle.drainage_runs.proofs.Laws.{start_zero, start_new, of_gap, end_most, end_measured}
use Rattle.drainage_gaps.specs.Gaps.{replacement_of, replacement_at}
use Rattle.drainage_gaps.specs.Private.{held_for, filled_at, Goes}
use Rattle.drainage_gaps.proofs.Laws.{Agree, same_replacement}
use Rattle.rows.proofs.Truth.{clash}

pub record Filling (reading corrected used : List ℕ) (i : ℕ) : Type 0 where
  pub within : i ≤ length reading
  pub few : length reading ≤ intervals_most
  pub goes : Goes reading corrected flow_most
  pub fresh : i < length reading → missing_at reading i ≡ true → gap_start reading i ≡ i
  pub filled : used ≡ build i (filled_at reading corrected) ++ drop i corrected

pub filled_measured : (reading corrected : List ℕ) (i : ℕ) → missing_at reading i ≡ false → filled_at reading corrected i ≡ get_or corrected i mark
unfolding filled_at
filled_measured reading corrected i e =
    ap (λ (b : Bool). pick b (held_for (replacement_at reading corrected i)) (get_or corrected i mark)) e

pub filled_missing : (reading corrected : List ℕ) (i : ℕ) → missing_at reading i ≡ true
    → filled_at reading corrected i ≡ held_for (replacement_at reading corrected i)
unfolding filled_at
filled_missing reading corrected i e =
    ap (λ (b : Bool). pick b (held_for (replacement_at reading corrected i)) (get_or corrected i mark)) e

-- the replacement of an interval is that of its gap
one_gap : (reading corrected : List ℕ) (a e k : ℕ) → gap_start reading k ≡ a → gap_end reading k ≡ e
    → replacement_at reading corrected k ≡ replacement_of reading corrected a e
unfolding replacement_at
one_gap reading corrected a e k x y = ap₂ (replacement_of reading corrected) x y

module _ (reading corrected used : List ℕ) where
  pub filling_start : length reading ≤ intervals_most → Goes reading corrected flow_most → used ≡ corrected → Filling reading corrected used 0
  filling_start l g e =
      record { within = omega arith; few = l; goes = g; fresh = λ l h. start_zero reading; filled = e }

  module _ (i : ℕ) (v : Filling reading corrected used i) where
    pub length_used : length used ≡ length corrected
    length_used =
        ap length v.filled
        ∙ length-append (build i (filled_at reading corrected)) (drop i corrected)
        ∙ (let a : length (build i (filled_at reading corrected)) ≡ i = length-build i (filled_at reading corrected) in
        let b : length (drop i corrected) ≡ length corrected - i = length-drop i corrected in
        let c : i ≤ length reading = v.within in
        let d : length corrected ≡ length reading = v.goes.same_length in
        let z : length (build i (filled_at reading corrected)) + length (drop i corrected) ≡ length corrected = omega arith in z)

    -- a measured reading's value is the corrected one, before i and after it
    pub agrees : Agree reading used corrected
    agrees = record { same_length = length_used; same = λ k e. elim (dec_le i k) [ yes h ↦ later k h | no h ↦ earlier k (lt_of_not-le h) e ] }
      where
        rows : List ℕ
        rows = build i (filled_at reading corrected) ++ drop i corrected

        earlier : (k : ℕ) → k < i → missing_at reading k ≡ false → get_or used k mark ≡ get_or corrected k mark
        earlier k l e =
            ap (λ (xs : List ℕ). get_or xs k mark) v.filled
            ∙ get_or-append (build i (filled_at reading corrected)) (drop i corrected) mark k
            (subst (λ (m : ℕ). k < m) (sym (length-build i (filled_at reading corrected))) l)
            ∙ get_or-build i (filled_at reading corrected) k mark l
            ∙ filled_measured reading corrected k e

        at : (m : ℕ) → get_or used (i + m) mark ≡ get_or corrected (i + m) mark
        at m =
            ap (λ (xs : List ℕ). get_or xs (i + m) mark) v.filled
            ∙ ap (λ (n : ℕ). get_or (build i (filled_at reading corrected) ++ drop i corrected) (n + m) mark) (sym (length-build i (filled_at reading corrected)))
            ∙ get_or-append-add (build i (filled_at reading corrected)) (drop i corrected) m mark
            ∙ get_or-drop i corrected m mark

        later : (k : ℕ) → i ≤ k → get_or used k mark ≡ get_or corrected k mark
        later k l = let d = le_dest l in subst (λ (m : ℕ). get_or used m mark ≡ get_or corrected m mark) d.1 (at d.0)

    pub goes_on : Goes reading used flow_most
    goes_on =
        record {
          same_length = length_used ∙ v.goes.same_length;
          most = λ k e. subst (λ (x : ℕ). x ≤ flow_most) (sym (agrees.same k e)) (v.goes.most k e);
        }

    pub filling_measured : i < length reading → missing_at reading i ≡ false → Filling reading corrected used (i + 1)
    filling_measured l e =
        record {
          within = omega arith;
          few = v.few;
          goes = v.goes;
          fresh = λ z h. ap (gap_start reading) (add-one i) ∙ start_new reading i e ∙ sym (add-one i);
          filled =
              v.filled
              ∙ ap (λ (xs : List ℕ). build i (filled_at reading corrected) ++ xs)
              (drop-cons corrected i mark (omega (arith, v.goes.same_length))
              ∙ ap (λ (x : ℕ). x ∷ drop (suc i) corrected) (sym (filled_measured reading corrected i e)))
              ∙ sym (append_assoc (build i (filled_at reading corrected)) (filled_at reading corrected i ∷ []) (drop (suc i) corrected))
              ∙ ap (λ (m : ℕ). build m (filled_at reading corrected) ++ drop m corrected) (sym (add-one i));
        }

    -- the gap that starts at i, written over with what its replacement holds
    pub filling_gap : (e : ℕ) (new : List ℕ) → i < length reading → missing_at reading i ≡ true → e ≡ gap_end reading i
        → Continued i e (λ k. held_for (replacement_of reading used i e)) used new → Filling reading corrected new e
    filling_gap e new l m q c =
        record {
          within = most;
          few = v.few;
          goes = v.goes;
          fresh = fresh_end;
          filled = c.continued (filled_at reading corrected) corrected (sym length_used) same v.filled;
        }
      where
        most : e ≤ length reading
        most = subst (λ (x : ℕ). x ≤ length reading) (sym q) (end_most reading i v.within)

        fresh_end : e < length reading → missing_at reading e ≡ true → gap_start reading e ≡ e
        fresh_end z h =
            clash h (subst (λ (x : ℕ). missing_at reading x ≡ false) (sym q) (end_measured reading i v.within (subst (λ (x : ℕ). x < length reading) q z)))

        same : (k : ℕ) → i ≤ k → k < e → filled_at reading corrected k ≡ held_for (replacement_of reading used i e)
        same k a b =
            let g = of_gap reading i k v.within a (subst (λ (x : ℕ). k < x) q b) in
            filled_missing reading corrected k g.is_missing
            ∙ ap held_for
            (one_gap reading corrected i e k (g.starts ∙ v.fresh l m) (g.stops ∙ sym q)
            ∙ sym (same_replacement reading used corrected i e v.goes.same_length v.within agrees))

-- measured entries are passed over as they stand
filling_on : (reading corrected used : List ℕ) (i n : ℕ) → Filling reading corrected used i → i + n ≤ length reading
    → ((k : ℕ) → k < n → missing_at reading (i + k) ≡ false) → Filling reading corrected used (i + n)
filling_on reading corrected used i zero v l m = subst (Filling reading corrected used) (sym (add-zero i)) v
filling_on reading corrected used i (suc n) v l m =
    subst (Filling reading corrected used) (let z : i + n + 1 ≡ i + suc n = omega arith in z)
    (filling_measured reading corrected used (i + n)
    (filling_on reading corrected used i n v (omega arith) (λ k h. m k (omega arith)))
    (omega arith) (m n (omega arith)))

pub filling_next : (reading corrected used : List ℕ) (i r : ℕ) → Filling reading corrected used i → i < r → r ≤ length reading
    → every (r - i) (λ k. measured_at reading (i + k)) ≡ true → Filling reading corrected used r
filling_next reading corrected used i r v h l e =
    subst (Filling reading corrected used) (let z : i + (r - i) ≡ r = omega arith in z)
    (filling_on reading corrected used i (r - i) v (omega arith)
    (λ k z. not-true _ (every_at (r - i) (λ j. measured_at reading (i + j)) e k z)))
