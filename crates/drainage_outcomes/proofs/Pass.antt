-- The last pass as a loop's invariant: the rows and sums after the first i intervals. Start, step and end.
-- Assumes nothing.
use Prim.Native.Nat.{ℕ, suc, ◌+◌, ◌*◌, ◌≤◌, ◌<◌}
use mathlib.Core.Path.{◌≡◌, refl, sym, ap, ◌∙◌, subst}
use mathlib.Core.Bool.{Bool, true}
use mathlib.Core.List.{List, ◌++◌}
use native.Mathlib.Nat.{le_antisymm}
use native.Mathlib.Omega.{arith}
use mir.Syntax.{w64}
use mir.Val.{Fits}
use lib.IntN.{ℤ, pos}
use lib.ListN.{length, get_or, drop, set, length-set}
use lib.Seq.{drop-cons, get_or_at, set-get_or, ext_get_or}
use Rattle.rows.specs.Rows.{build, sum_to, count_of}
use Rattle.rows.proofs.Laws.{build_done, length-build, get_or-build, get_or_inside}
use Rattle.rows.proofs.Sums.{count_most}
use Rattle.rows.proofs.More.{row_more, sum_more, count_more}
use Rattle.protocol.specs.Ranges.{mark, ppm_most}
use Rattle.volume.specs.Volume.{methane_litres, Inside, litres_most}
use Rattle.drainage_outcomes.specs.declared.Entry.{Entry}
use Rattle.drainage_outcomes.specs.Rows.{rows_of}
use Rattle.drainage_outcomes.specs.Outcomes.{all_measured, entry_of, entry_at, sums_of, Held, Ready, ReadyAt, Finished}
use Rattle.accounts.specs.Account.{outcome_kinds}
use Rattle.drainage_outcomes.proofs.Laws.{outcome_for, measured_outcome, counted_inside, counted_entry, outcome_of_ten, litres_of_entry, methane_to}

pub record Going (h : Held) (n : ℕ) (old o f c counts : List ℕ) (methane i : ℕ) : Type 0 where
  pub ready : ReadyAt h n
  pub old_length : length old ≡ n
  pub within : i ≤ n
  pub outcome_built : o ≡ build i (λ k. (entry_at h k).outcome) ++ drop i old
  pub flow_built : f ≡ build i (λ k. (entry_at h k).flow) ++ drop i h.held_flow
  pub content_built : c ≡ build i (λ k. (entry_at h k).content) ++ drop i h.held_content
  pub ten : length counts ≡ 10
  pub each : (j : ℕ) → j < 10 → get_or counts j 0 ≡ count_of i (λ k. (entry_at h k).outcome) j
  pub sum : methane ≡ sum_to i (λ k. (entry_at h k).litres)

-- ---- what is read at interval i

-- an entry that is not yet written is as it was
unwritten : (i : ℕ) (g : ℕ → ℕ) (old row : List ℕ) → row ≡ build i g ++ drop i old → i < length old → get_or row i 0 ≡ get_or old i mark
unwritten i g old row e h =
    ap (λ (xs : List ℕ). get_or xs i 0) (e ∙ ap (λ (t : List ℕ). build i g ++ t) (drop-cons old i 0 h))
    ∙ get_or_at (build i g) (get_or old i 0) (drop (suc i) old) 0 i (length-build i g)
    ∙ get_or_inside old i 0 mark h

module _ {h : Held} {n : ℕ} {old o f c counts : List ℕ} {methane i : ℕ} (x : Going h n old o f c counts methane i) (l : i < n) where
  at_flow : get_or h.series.flow i 0 ≡ get_or h.series.flow i mark
  at_flow = get_or_inside h.series.flow i 0 mark (let z : length h.series.flow ≡ n = x.ready.long.flow in omega arith)

  at_content : get_or h.series.content i 0 ≡ get_or h.series.content i mark
  at_content = get_or_inside h.series.content i 0 mark (let z : length h.series.content ≡ n = x.ready.long.content in omega arith)

  at_flow_held : get_or f i 0 ≡ get_or h.held_flow i mark
  at_flow_held =
      unwritten i (λ k. (entry_at h k).flow) h.held_flow f x.flow_built
      (let z : length h.held_flow ≡ n = x.ready.flow_rows in omega arith)

  at_content_held : get_or c i 0 ≡ get_or h.held_content i mark
  at_content_held =
      unwritten i (λ k. (entry_at h k).content) h.held_content c x.content_built
      (let z : length h.held_content ≡ n = x.ready.content_rows in omega arith)

  -- what is read there, the temperature as the code has it, is ready
  pub reads_ready : (t : ℤ) → t ≡ get_or h.series.temp i (pos 0) → Ready (get_or h.series.flow i 0) (get_or h.series.content i 0) t
      (get_or h.series.press i 0) (get_or f i 0) (get_or c i 0)
  reads_ready t e = rw (e, at_flow, at_content, at_flow_held, at_content_held) (x.ready.ready i l)

  -- and its entry is the interval's
  pub reads_entry : (t : ℤ) → t ≡ get_or h.series.temp i (pos 0) → (r : Entry)
      → r ≡ entry_of (get_or h.series.flow i 0) (get_or h.series.content i 0) t (get_or h.series.press i 0) (get_or h.series.status i 0) (get_or f i 0)
      (get_or c i 0) → r ≡ entry_at h i
  unfolding entry_at
  reads_entry t e r q = rw (e, at_flow, at_content, at_flow_held, at_content_held) at q

  -- where the code answered that everything is measured, what is held is in range, and it is the entry; u is the temperature as it is passed on
  module _ (t : ℤ) (e : t ≡ get_or h.series.temp i (pos 0)) (b : Bool)
      (q : b ≡ all_measured (get_or h.series.flow i 0) (get_or h.series.content i 0) t (get_or h.series.press i 0) (get_or h.series.status i 0))
      (m : b ≡ true) where
    none : 0 ≡ outcome_for (get_or h.series.flow i 0) (get_or h.series.content i 0) t (get_or h.series.press i 0) (get_or h.series.status i 0)
        (get_or f i 0) (get_or c i 0)
    none =
        measured_outcome (get_or h.series.flow i 0) (get_or h.series.content i 0) t (get_or h.series.press i 0) (get_or h.series.status i 0)
        (get_or f i 0) (get_or c i 0)
        (sym q ∙ m)

    pub measured_inside : (u : ℤ) → u ≡ t → Inside (get_or f i 0) u (get_or h.series.press i 0) × (get_or c i 0 ≤ ppm_most)
    measured_inside u w =
        let y = counted_inside (get_or h.series.flow i 0) (get_or h.series.content i 0) t (get_or h.series.press i 0) (get_or h.series.status i 0)
        (get_or f i 0) (get_or c i 0)
        (reads_ready t e) (subst (λ (k : ℕ). k < 3) none (let y : 0 < 3 = omega arith in y)) in
        (subst (λ (z : ℤ). Inside (get_or f i 0) z (get_or h.series.press i 0)) (sym w) y.0, omega (arith, y.1))

    pub measured_entry : (u : ℤ) → u ≡ t → (litres : ℕ) → litres ≡ methane_litres (get_or f i 0) (get_or c i 0) u (get_or h.series.press i 0)
        → record { outcome = 0; flow = get_or f i 0; content = get_or c i 0; litres = litres } ≡ entry_at h i
    measured_entry u w litres z =
        reads_entry t e (record { outcome = 0; flow = get_or f i 0; content = get_or c i 0; litres = litres })
        (counted_entry (get_or h.series.flow i 0) (get_or h.series.content i 0) t (get_or h.series.press i 0) (get_or h.series.status i 0) (get_or f i 0)
        (get_or c i 0)
        0 none (omega arith) litres (z ∙ ap (λ (y : ℤ). methane_litres (get_or f i 0) (get_or c i 0) y (get_or h.series.press i 0)) w))

-- ---- start, step and end

pub going_none : (h : Held) (n : ℕ) (old counts : List ℕ) → ReadyAt h n → length old ≡ n → length counts ≡ 10
    → ((j : ℕ) → j < 10 → get_or counts j 0 ≡ 0) → Going h n old old h.held_flow h.held_content counts 0 0
going_none h n old counts x e t z =
    record {
      ready = x;
      old_length = e;
      within = omega arith;
      outcome_built = refl;
      flow_built = refl;
      content_built = refl;
      ten = t;
      each = z;
      sum = refl;
    }

module _ {h : Held} {n : ℕ} {old o f c counts : List ℕ} {methane i : ℕ} (x : Going h n old o f c counts methane i) where
  -- the interval's outcome is one of ten
  pub going_few : i < n → (e : Entry) → e ≡ entry_at h i → e.outcome < 10
  going_few l e q = subst (λ (k : ℕ). k < 10) (sym (ap (λ (y : Entry). y.outcome) q)) (outcome_of_ten h n x.ready i l)

  pub going_more : i < n → (e : Entry) → e ≡ entry_at h i
      → Going h n old (set o i e.outcome) (set f i e.flow) (set c i e.content) (set counts e.outcome (get_or counts e.outcome 0 + 1))
      (methane + e.litres) (i + 1)
  going_more l e q =
      record {
        ready = x.ready;
        old_length = x.old_length;
        within = omega arith;
        outcome_built =
            row_more i (λ k. (entry_at h k).outcome) old o e.outcome x.outcome_built (let z : length old ≡ n = x.old_length in omega arith)
            (ap (λ (y : Entry). y.outcome) q);
        flow_built =
            row_more i (λ k. (entry_at h k).flow) h.held_flow f e.flow x.flow_built
            (let z : length h.held_flow ≡ n = x.ready.flow_rows in omega arith) (ap (λ (y : Entry). y.flow) q);
        content_built =
            row_more i (λ k. (entry_at h k).content) h.held_content c e.content x.content_built
            (let z : length h.held_content ≡ n = x.ready.content_rows in omega arith) (ap (λ (y : Entry). y.content) q);
        ten = length-set counts e.outcome (get_or counts e.outcome 0 + 1) ∙ x.ten;
        each =
            λ j z. count_more i (λ k. (entry_at h k).outcome) counts e.outcome j (ap (λ (y : Entry). y.outcome) q)
            (subst (λ (m : ℕ). e.outcome < m) (sym x.ten) (going_few l e q)) (x.each j z);
        sum = sum_more i (λ k. (entry_at h k).litres) methane e.litres x.sum (ap (λ (y : Entry). y.litres) q);
      }

  -- an entry whose values the rows hold already: they stay as they are
  pub going_kept : i < n → (e : Entry) → e ≡ entry_at h i → e.flow ≡ get_or f i 0 → e.content ≡ get_or c i 0
      → Going h n old (set o i e.outcome) f c (set counts e.outcome (get_or counts e.outcome 0 + 1)) (methane + e.litres) (i + 1)
  going_kept l e q a b =
      subst (λ (r : List ℕ). Going h n old (set o i e.outcome) r c (set counts e.outcome (get_or counts e.outcome 0 + 1)) (methane + e.litres) (i + 1))
      (ap (set f i) a ∙ set-get_or f i 0)
      (subst (λ (r : List ℕ). Going h n old (set o i e.outcome) (set f i e.flow) r (set counts e.outcome (get_or counts e.outcome 0 + 1))
      (methane + e.litres) (i + 1))
      (ap (set c i) b ∙ set-get_or c i 0)
      (going_more l e q))

  -- the sums so far leave room for one more interval
  pub methane_room : i < n → (e : Entry) → e ≡ entry_at h i → Fits w64 (methane + e.litres)
  methane_room l e q =
      let a : sum_to i (λ k. (entry_at h k).litres) ≤ i * litres_most = methane_to h n x.ready i x.within in
      let b : methane ≡ sum_to i (λ k. (entry_at h k).litres) = x.sum in
      let m : n ≤ 35136 = x.ready.few in
      let u : e.litres ≡ (entry_at h i).litres = ap (λ (y : Entry). y.litres) q in
      let v : (entry_at h i).litres ≤ litres_most = litres_of_entry h n x.ready i l in
      record { fits = omega arith }

  -- whichever count it is
  pub slot_fits : (k v : ℕ) → k < 10 → v < 2 → Fits w64 (get_or counts k 0 + v)
  slot_fits k v l z =
      let a : count_of i (λ m. (entry_at h m).outcome) k ≤ i = count_most i (λ m. (entry_at h m).outcome) k in
      let b : get_or counts k 0 ≡ count_of i (λ m. (entry_at h m).outcome) k = x.each k l in
      let w : i ≤ n = x.within in
      let m : n ≤ 35136 = x.ready.few in
      record { fits = omega arith }

  pub going_all : n ≤ i → Finished h (rows_of o f c) (record { outcomes = counts; methane = methane })
  unfolding sums_of
  going_all l =
      let size : length h.series.flow ≡ n = x.ready.long.flow in
      let at : i ≡ length h.series.flow = le_antisymm (let w : i ≤ n = x.within in omega arith) (omega arith) in
      record {
        outcome_built = done old (λ k. (entry_at h k).outcome) o at x.outcome_built (x.old_length ∙ sym size);
        flow_built = done h.held_flow (λ k. (entry_at h k).flow) f at x.flow_built (x.ready.flow_rows ∙ sym size);
        content_built = done h.held_content (λ k. (entry_at h k).content) c at x.content_built (x.ready.content_rows ∙ sym size);
        sums = λ t. record { outcomes = tens at t; methane = (x.sum ∙ ap (λ (m : ℕ). sum_to m (λ k. (entry_at h k).litres)) at) t };
      }
    where
      done : (base : List ℕ) (g : ℕ → ℕ) (row : List ℕ) → i ≡ length h.series.flow → row ≡ build i g ++ drop i base → length base ≡ length
          h.series.flow → row ≡ build (length h.series.flow) g
      done base g row at e s = e ∙ ap (λ (m : ℕ). build m g ++ drop m base) at ∙ build_done (length h.series.flow) g base s

      tens : i ≡ length h.series.flow → counts ≡ build outcome_kinds (count_of (length h.series.flow) (λ k. (entry_at h k).outcome))
      tens at =
          ext_get_or 0 counts (build 10 (count_of (length h.series.flow) (λ k. (entry_at h k).outcome)))
          (x.ten ∙ sym (length-build 10 (count_of (length h.series.flow) (λ k. (entry_at h k).outcome))))
          (λ j z. let w : j < 10 = subst (λ (m : ℕ). j < m) x.ten z in
          x.each j w
          ∙ ap (λ (m : ℕ). count_of m (λ k. (entry_at h k).outcome) j) at
          ∙ sym (get_or-build 10 (count_of (length h.series.flow) (λ k. (entry_at h k).outcome)) j 0 w))
