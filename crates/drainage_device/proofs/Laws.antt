-- What the passes over a device's rows come to, in the words of specs/Device.antt.
-- Assumes nothing.
use Prim.Native.Nat.{ℕ, ◌+◌, ◌-◌, ◌*◌, ◌≤◌, ◌<◌}
use mathlib.Core.Path.{◌≡◌, refl, sym, ap, ap₂, ◌∙◌, subst}
use mathlib.Core.Bool.{Bool, true, false}
use mathlib.Core.List.{List}
use native.Mathlib.Nat.{le_trans, mul-le-mul_right}
use native.Mathlib.Omega.{arith}
use lib.Dec.{eqb, leb}
use lib.IntN.{pos}
use lib.ListN.{length, get_or}
use borrow.Author.Tests.{le-ltb, lt-ltb, leb-true}
use Rattle.rows.specs.Rows.{pick, both, either, build, sum_to, count_of, hit}
use Rattle.rows.proofs.Laws.{length-build, get_or-build, build_ext, get_or_inside}
use Rattle.rows.proofs.Sums.{sum_to_ext, counts_add}
use Rattle.protocol.specs.Ranges.{mark, missing, flow_most, content_most, temp_missing, press_missing}
use Rattle.drainage_drift.specs.Drift.{Instrument, corrected_at}
use Rattle.drainage_drift.proofs.Laws.{at_bounded}
use Rattle.drainage_runs.specs.Runs.{missing_at, too_long, not_whole}
use Rattle.drainage_runs.specs.Private.{excluding}
use Rattle.drainage_runs.proofs.Laws.{measured_inside}
use Rattle.drainage_gaps.specs.Gaps.{Replaced, replacement_at}
use Rattle.drainage_gaps.specs.Private.{held_for, filled_at, Goes}
use Rattle.drainage_gaps.proofs.Laws.{Bounded, replacement_bounded}
use Rattle.drainage_gaps.proofs.Filling.{filled_measured, filled_missing}
use Rattle.volume.specs.Volume.{methane_litres, litres_most, Inside}
use Rattle.balance.specs.Balance.{destroyed_of, uncombusted_of, device_most}
use Rattle.drainage_outcomes.specs.Outcomes.{outcome_of, used_for, litres_for, held_outcome, entry_of, entry_at, sums_of, Held, Holds, ReadyAt}
use Rattle.accounts.specs.Account.{outcome_kinds, counted}
use Rattle.drainage_outcomes.specs.Outcomes.{Finished, held_by}
use Rattle.drainage_outcomes.specs.Rows.{Rows}
use Rattle.drainage_outcomes.specs.declared.Sums.{Sums}
use Rattle.drainage_outcomes.proofs.Laws.{outcome_of_ten, methane_most, counted_used}
use Rattle.balance.proofs.Laws.{partition}
use Rattle.drainage_device.specs.Device.{Records, intervals_of, instrument_of, corrected_flow, corrected_content, replaced_as, outcome_at, value_of, value_at}
use Rattle.drainage_device.specs.Device.{flow_used_at, content_used_at, litres_at, methane_of, account_of, Low, Right, Filled}
use Rattle.accounts.specs.declared.Account.{Account}
use Rattle.rows.proofs.Truth.{clash}

-- ---- one series

-- readings that are right are low where they are measured: stated once over the range
pub low_right : (reading : List ℕ) (b : ℕ) → ((i : ℕ) → i < length reading → either (leb (get_or reading i 0) b) (missing (get_or reading i 0)) ≡ true) → Low
    reading b
low_right reading b h =
    record {
      low = λ i e.
          let l : i < length reading = measured_inside reading i e in
          let same : get_or reading i 0 ≡ get_or reading i mark = get_or_inside reading i 0 mark l in
          go (get_or reading i 0) (get_or reading i mark) same e (h i l);
    }
  where
    readings_in_range : (v : ℕ) (p q : Bool) → leb v b ≡ p → missing v ≡ q → q ≡ false → either p q ≡ true → v ≤ b
    readings_in_range v true q a c n z = leb-true v b a
    readings_in_range v false q a c n z = let y : ◌≡◌ {A = ℕ} 0 1 = cc in absurd (let w : ⊥ = omega arith in w)

    go : (v w : ℕ) → v ≡ w → missing w ≡ false → either (leb v b) (missing v) ≡ true → w ≤ b
    go v w s e z = subst (λ (x : ℕ). x ≤ b) s (readings_in_range v (leb v b) (missing v) refl refl (ap missing s ∙ e) z)

-- a series with its drift taken out goes with its readings
pub corrected_goes : (c : Instrument) (reading : List ℕ) (b : ℕ) → Low reading b → Goes reading (build (length reading) (corrected_at c reading)) b
corrected_goes c reading b x =
    record {
      same_length = length-build (length reading) (corrected_at c reading);
      most = λ k e.
          subst (λ (v : ℕ). v ≤ b)
          (sym (get_or-build (length reading) (corrected_at c reading) k mark (measured_inside reading k e)))
          (at_bounded c reading k b e (x.low k e));
    }

-- what a filled row holds for an interval
pub filled_holds : (reading corrected : List ℕ) (b i : ℕ) → Goes reading corrected b → b ≤ excluding → i < length reading
    → Holds (get_or reading i mark) (filled_at reading corrected i) b
unfolding held_for
filled_holds reading corrected b i g l h = go (missing_at reading i) refl
  where
    held : (r : Replaced) → Bounded b r → missing_at reading i ≡ true → Holds (get_or reading i mark) (held_for r) b
    held (Replaced.by v) m e =
        let most : v ≤ b = m.value v refl in
        record { value = λ z. most; few = omega arith; measured = λ z. most; some = λ z. omega arith }
    held (Replaced.excluded o) m e =
        let some : too_long ≤ o = (m.outcome o refl).0 in
        let few : o ≤ not_whole = (m.outcome o refl).1 in
        record { value = λ z. absurd (let n : ⊥ = omega arith in n); few = omega arith; measured = λ z. clash e z; some = λ z. omega arith }

    go : (t : Bool) → missing_at reading i ≡ t → Holds (get_or reading i mark) (filled_at reading corrected i) b
    go true e =
        subst (λ (x : ℕ). Holds (get_or reading i mark) x b) (sym (filled_missing reading corrected i e))
        (held (replacement_at reading corrected i) (replacement_bounded reading corrected i b h g) e)
    go false e =
        let most : get_or corrected i mark ≤ b = g.most i e in
        subst (λ (x : ℕ). Holds (get_or reading i mark) x b) (sym (filled_measured reading corrected i e))
        (record { value = λ z. most; few = omega arith; measured = λ z. most; some = λ z. omega arith })

-- ---- the outcome of an interval

-- what a missing reading comes to does not matter where none is missing
outcome_same : (s : ℕ) (l nf nc : Bool) (p q x y : ℕ) → (nf ≡ true → p ≡ q) → (nc ≡ true → x ≡ y) → outcome_of s l nf nc p x ≡ outcome_of s l nf nc q y
unfolding outcome_of
outcome_same s l true true p q x y f g = refl
outcome_same s l true false p q x y f g = ap (λ (k : ℕ). outcome_of s l true false k x) (f refl)
outcome_same s l false true p q x y f g = ap (λ (k : ℕ). outcome_of s l false true p k) (g refl)
outcome_same s l false false p q x y f g = refl

-- what is held for a missing reading tells its replacement's outcome
held_as : (k b : ℕ) (r : Replaced) → Bounded b r → b ≤ excluding → held_outcome k (held_for r) ≡ replaced_as k r
unfolding held_for
held_as k b (Replaced.by v) m l = ap (λ (t : Bool). pick t (v - excluding) k) (le-ltb excluding v (le_trans (m.value v refl) l))
held_as k b (Replaced.excluded o) m l =
    ap (λ (t : Bool). pick t (excluding + o - excluding) k) (lt-ltb excluding (excluding + o) (omega (arith, (m.outcome o refl).0)))
    ∙ (let z : excluding + o - excluding ≡ o = omega arith in z)

-- an interval that counts has a value: what is held is what the specification calls its value
excluded_flow : (s : ℕ) (l nc : Bool) (p x : ℕ) → counted p ≡ false → counted (outcome_of s l true nc p x) ≡ false
unfolding outcome_of
excluded_flow s l nc p x e = go (eqb s 0) (eqb s 3) l nc (eqb s 1)
  where
    go : (a b l nc d : Bool) → counted (pick a 3 (pick b 4 (pick l 5 (pick nc 6 (pick d 7 p))))) ≡ false
    go true b l nc d = refl
    go false true l nc d = refl
    go false false true nc d = refl
    go false false false true d = refl
    go false false false false true = refl
    go false false false false false = e

excluded_content : (s : ℕ) (l nf : Bool) (p x : ℕ) → counted x ≡ false → counted (outcome_of s l nf true p x) ≡ false
unfolding outcome_of
excluded_content s l nf p x e = go (eqb s 0) (eqb s 3) l nf (eqb s 1)
  where
    go : (a b l nf d : Bool) → counted (pick a 3 (pick b 4 (pick l 5 (pick (both nf true) 6 (pick (both (either nf true) d) 7 (pick nf p x)))))) ≡ false
    go true b l nf d = refl
    go false true l nf d = refl
    go false false true nf d = refl
    go false false false true d = refl
    go false false false false true = refl
    go false false false false false = e

-- a value used, from what is held: the outcome excludes whatever has no value
same_used : (reading corrected : List ℕ) (i o k b : ℕ) → Bounded b (replacement_at reading corrected i)
    → (missing_at reading i ≡ true → counted (replaced_as k (replacement_at reading corrected i)) ≡ false → counted o ≡ false)
    → counted k ≡ true → used_for o (filled_at reading corrected i) ≡ used_for o (value_at reading corrected i)
unfolding filled_at value_at held_for
same_used reading corrected i o k b m f c = go (missing_at reading i) refl
  where
    none : (r : Replaced) → Bounded b r → (counted (replaced_as k r) ≡ false → counted o ≡ false) → used_for o (held_for r) ≡ used_for o (value_of r)
    none (Replaced.by v) m z = refl
    none (Replaced.excluded x) m z =
        let out : counted o ≡ false = z (le-ltb x 3 (omega (arith, (m.outcome x refl).0))) in
        ap (λ (t : Bool). pick t (excluding + x) 0) out ∙ sym (ap (λ (t : Bool). pick t 0 0) out)

    go : (t : Bool) → missing_at reading i ≡ t
        → used_for o (pick t (held_for (replacement_at reading corrected i)) (get_or corrected i mark))
        ≡ used_for o (pick t (value_of (replacement_at reading corrected i)) (get_or corrected i mark))
    go true e = none (replacement_at reading corrected i) m (f e)
    go false e = refl

-- an outcome without a replacement is not counted
without_flow : (r : Records) (i : ℕ) → missing_at r.series.flow i ≡ true
    → counted (replaced_as 1 (replacement_at r.series.flow (corrected_flow r) i)) ≡ false → counted (outcome_at r i) ≡ false
unfolding outcome_at
without_flow r i e z =
    subst
    (λ (t : Bool). counted
    (outcome_of (get_or r.series.status i 0) (either (temp_missing (get_or r.series.temp i (pos 0))) (press_missing (get_or r.series.press i 0))) t
    (missing_at r.series.content i)
    (replaced_as 1 (replacement_at r.series.flow (corrected_flow r) i)) (replaced_as 2 (replacement_at r.series.content (corrected_content r) i))) ≡ false)
    (sym e)
    (excluded_flow (get_or r.series.status i 0) (either (temp_missing (get_or r.series.temp i (pos 0))) (press_missing (get_or r.series.press i 0)))
    (missing_at r.series.content i)
    (replaced_as 1 (replacement_at r.series.flow (corrected_flow r) i)) (replaced_as 2 (replacement_at r.series.content (corrected_content r) i)) z)

without_content : (r : Records) (i : ℕ) → missing_at r.series.content i ≡ true
    → counted (replaced_as 2 (replacement_at r.series.content (corrected_content r) i)) ≡ false → counted (outcome_at r i) ≡ false
unfolding outcome_at
without_content r i e z =
    subst
    (λ (t : Bool). counted
    (outcome_of (get_or r.series.status i 0) (either (temp_missing (get_or r.series.temp i (pos 0))) (press_missing (get_or r.series.press i 0)))
    (missing_at r.series.flow i) t
    (replaced_as 1 (replacement_at r.series.flow (corrected_flow r) i)) (replaced_as 2 (replacement_at r.series.content (corrected_content r) i))) ≡ false)
    (sym e)
    (excluded_content (get_or r.series.status i 0) (either (temp_missing (get_or r.series.temp i (pos 0))) (press_missing (get_or r.series.press i 0)))
    (missing_at r.series.flow i)
    (replaced_as 1 (replacement_at r.series.flow (corrected_flow r) i)) (replaced_as 2 (replacement_at r.series.content (corrected_content r) i)) z)

-- an entry's values are those that its outcome leaves of what is held
entry_flow : (h : Held) (i : ℕ) → (entry_at h i).flow ≡ used_for (entry_at h i).outcome (get_or h.held_flow i mark)
unfolding entry_at entry_of
entry_flow h i = refl

entry_content : (h : Held) (i : ℕ) → (entry_at h i).content ≡ used_for (entry_at h i).outcome (get_or h.held_content i mark)
unfolding entry_at entry_of
entry_content h i = refl

entry_litres_used : (h : Held) (i : ℕ)
    → (entry_at h i).litres ≡ litres_for (entry_at h i).outcome (entry_at h i).flow (entry_at h i).content (get_or h.series.temp i (pos 0))
    (get_or h.series.press i 0)
unfolding entry_at entry_of litres_for
entry_litres_used h i = go (counted (entry_at h i).outcome)
  where
    go : (t : Bool) → pick t (methane_litres (get_or h.held_flow i mark) (get_or h.held_content i mark) (get_or h.series.temp i (pos 0))
        (get_or h.series.press i 0)) 0
        ≡ pick t (methane_litres (pick t (get_or h.held_flow i mark) 0) (pick t (get_or h.held_content i mark) 0) (get_or h.series.temp i (pos 0))
        (get_or h.series.press i 0)) 0
    go true = refl
    go false = refl

-- ---- the whole row

-- the rows as they are when the gaps are filled
pub held_of : Records → Held
held_of r =
    record {
      series = r.series;
      held_flow = build (intervals_of r) (filled_at r.series.flow (corrected_flow r));
      held_content = build (intervals_of r) (filled_at r.series.content (corrected_content r));
    }

module _ (r : Records) (x : Right r) where
  pub flow_low : Low r.series.flow flow_most
  flow_low = low_right r.series.flow flow_most x.readings_in_range.flow

  pub content_low : Low r.series.content content_most
  content_low = low_right r.series.content content_most (λ i l. x.readings_in_range.content i (subst (λ (m : ℕ). i < m) x.long.content l))

  flow_goes : Goes r.series.flow (corrected_flow r) flow_most
  unfolding corrected_flow
  flow_goes = corrected_goes (instrument_of r 0) r.series.flow flow_most flow_low

  content_goes : Goes r.series.content (corrected_content r) content_most
  unfolding corrected_content
  content_goes =
      subst (λ (m : ℕ). Goes r.series.content (build m (corrected_at (instrument_of r 1) r.series.content)) content_most) x.long.content
      (corrected_goes (instrument_of r 1) r.series.content content_most content_low)

  -- what comes of an interval whose reading is missing
  flow_bounded : (i : ℕ) → i < intervals_of r → Bounded flow_most (replacement_at r.series.flow (corrected_flow r) i)
  flow_bounded i l = replacement_bounded r.series.flow (corrected_flow r) i flow_most l flow_goes

  content_bounded : (i : ℕ) → i < intervals_of r → Bounded content_most (replacement_at r.series.content (corrected_content r) i)
  content_bounded i l =
      replacement_bounded r.series.content (corrected_content r) i content_most (subst (λ (m : ℕ). i < m) (sym x.long.content) l) content_goes

  -- what is held for an interval
  held_flow : (i : ℕ) → i < intervals_of r → get_or (held_of r).held_flow i mark ≡ filled_at r.series.flow (corrected_flow r) i
  unfolding held_of
  held_flow i l = get_or-build (intervals_of r) (filled_at r.series.flow (corrected_flow r)) i mark l

  held_content : (i : ℕ) → i < intervals_of r → get_or (held_of r).held_content i mark ≡ filled_at r.series.content (corrected_content r) i
  unfolding held_of
  held_content i l = get_or-build (intervals_of r) (filled_at r.series.content (corrected_content r)) i mark l

  pub ready : ReadyAt (held_of r) (intervals_of r)
  unfolding held_of
  ready =
      record {
        few = x.few;
        long = x.long;
        flow_rows = length-build (intervals_of r) (filled_at r.series.flow (corrected_flow r));
        content_rows = length-build (intervals_of r) (filled_at r.series.content (corrected_content r));
        ready = λ i l.
            record {
              held_flow =
                  subst (λ (v : ℕ). Holds (get_or r.series.flow i mark) v flow_most) (sym (held_flow i l))
                  (filled_holds r.series.flow (corrected_flow r) flow_most i flow_goes (omega arith) l);
              held_content =
                  subst (λ (v : ℕ). Holds (get_or r.series.content i mark) v content_most) (sym (held_content i l))
                  (filled_holds r.series.content (corrected_content r) content_most i content_goes (omega arith)
                  (subst (λ (m : ℕ). i < m) (sym x.long.content) l));
              temp_in_range = x.readings_in_range.temp i l;
              press_in_range = x.readings_in_range.press i l;
            };
      }

  pub outcome_is : (i : ℕ) → i < intervals_of r → (entry_at (held_of r) i).outcome ≡ outcome_at r i
  unfolding entry_at entry_of outcome_at held_of
  outcome_is i l =
      outcome_same (get_or r.series.status i 0) (either (temp_missing (get_or r.series.temp i (pos 0))) (press_missing (get_or r.series.press i 0)))
      (missing_at r.series.flow i) (missing_at r.series.content i)
      (held_outcome 1 (get_or (held_of r).held_flow i mark)) (replaced_as 1 (replacement_at r.series.flow (corrected_flow r) i))
      (held_outcome 2 (get_or (held_of r).held_content i mark)) (replaced_as 2 (replacement_at r.series.content (corrected_content r) i))
      (λ e. ap (held_outcome 1) (held_flow i l ∙ filled_missing r.series.flow (corrected_flow r) i e)
      ∙ held_as 1 flow_most (replacement_at r.series.flow (corrected_flow r) i) (flow_bounded i l) (omega arith))
      (λ e. ap (held_outcome 2) (held_content i l ∙ filled_missing r.series.content (corrected_content r) i e)
      ∙ held_as 2 content_most (replacement_at r.series.content (corrected_content r) i)
      (content_bounded i l) (omega arith))

  flow_is : (i : ℕ) → i < intervals_of r → (entry_at (held_of r) i).flow ≡ flow_used_at r i
  unfolding flow_used_at
  flow_is i l =
      entry_flow (held_of r) i
      ∙ ap₂ used_for (outcome_is i l) (held_flow i l)
      ∙ same_used r.series.flow (corrected_flow r) i (outcome_at r i) 1 flow_most (flow_bounded i l) (without_flow r i) refl

  content_is : (i : ℕ) → i < intervals_of r → (entry_at (held_of r) i).content ≡ content_used_at r i
  unfolding content_used_at
  content_is i l =
      entry_content (held_of r) i
      ∙ ap₂ used_for (outcome_is i l) (held_content i l)
      ∙ same_used r.series.content (corrected_content r) i (outcome_at r i) 2 content_most (content_bounded i l) (without_content r i) refl

  litres_is : (i : ℕ) → i < intervals_of r → (entry_at (held_of r) i).litres ≡ litres_at r i
  unfolding litres_at held_of
  litres_is i l =
      entry_litres_used (held_of r) i
      ∙ ap (λ (o : ℕ). litres_for o (entry_at (held_of r) i).flow (entry_at (held_of r) i).content (get_or (held_of r).series.temp i (pos 0))
      (get_or (held_of r).series.press i 0)) (outcome_is i l)
      ∙ ap₂ (λ (f c : ℕ). litres_for (outcome_at r i) f c (get_or (held_of r).series.temp i (pos 0)) (get_or (held_of r).series.press i 0)) (flow_is i l)
      (content_is i l)

  sums_counts : (sums_of (intervals_of r) (entry_at (held_of r))).outcomes ≡ (account_of r).outcomes
  unfolding sums_of account_of
  sums_counts =
      build_ext outcome_kinds (count_of (intervals_of r) (λ i. (entry_at (held_of r) i).outcome)) (count_of (intervals_of r) (outcome_at r))
      (λ j z. sum_to_ext (intervals_of r) (λ k. hit (entry_at (held_of r) k).outcome j) (λ k. hit (outcome_at r k) j)
      (λ k l. ap (λ (o : ℕ). hit o j) (outcome_is k l)))

  sums_methane : (sums_of (intervals_of r) (entry_at (held_of r))).methane ≡ methane_of r
  unfolding sums_of methane_of
  sums_methane = sum_to_ext (intervals_of r) (λ i. (entry_at (held_of r) i).litres) (litres_at r) litres_is

  -- rule 9.14: a year's litres of a device, 35,136 intervals of 11,168,127
  pub year_most : methane_of r ≤ 392403310272
  year_most =
      subst (λ (m : ℕ). m ≤ 392403310272) sums_methane
      (le_trans (methane_most (held_of r) (intervals_of r) ready)
      (let z : intervals_of r * litres_most ≤ 35136 * litres_most = mul-le-mul_right litres_most x.few in omega arith))

  -- which is less than any device can have
  pub device_most_lem : methane_of r ≤ device_most
  device_most_lem = omega (arith, year_most)

  -- the last pass, and the account made of its sums
  pub filled : (left : Rows) (s : Sums) (destroyed uncombusted : ℕ) → Finished (held_of r) left s
      → destroyed ≡ destroyed_of r.kind s.methane → uncombusted ≡ uncombusted_of r.kind s.methane
      → Filled r left (record { outcomes = s.outcomes; methane = s.methane; destroyed = destroyed; uncombusted = uncombusted })
  unfolding held_of account_of
  filled left s d u z p q =
      record {
        outcome_built = z.outcome_built ∙ build_ext (intervals_of r) (λ i. (entry_at (held_of r) i).outcome) (outcome_at r) outcome_is;
        flow_built = z.flow_built ∙ build_ext (intervals_of r) (λ i. (entry_at (held_of r) i).flow) (flow_used_at r) flow_is;
        content_built = z.content_built ∙ build_ext (intervals_of r) (λ i. (entry_at (held_of r) i).content) (content_used_at r) content_is;
        account = λ k.
            record {
              outcomes = (ap (λ (t : Sums). t.outcomes) z.sums ∙ sums_counts) k;
              methane = litres k;
              destroyed = (p ∙ ap (destroyed_of r.kind) litres) k;
              uncombusted = (q ∙ ap (uncombusted_of r.kind) litres) k;
            };
      }
    where
      litres : s.methane ≡ methane_of r
      litres = ap (λ (t : Sums). t.methane) z.sums ∙ sums_methane

  pub sums_most : (left : Rows) (s : Sums) → Finished (held_of r) left s → s.methane ≤ device_most
  unfolding held_of
  sums_most left s z =
      subst (λ (m : ℕ). m ≤ device_most) (sym (ap (λ (t : Sums). t.methane) z.sums ∙ sums_methane)) device_most_lem

  -- ---- for the crate above

  pub outcome_few : (i : ℕ) → i < intervals_of r → outcome_at r i < outcome_kinds
  outcome_few i l = subst (λ (o : ℕ). o < 10) (outcome_is i l) (outcome_of_ten (held_of r) (intervals_of r) ready i l)

  -- rule 8.6: the ten counts add to N
  pub counts_add_up : sum_to outcome_kinds (count_of (intervals_of r) (outcome_at r)) ≡ intervals_of r
  counts_add_up = counts_add (intervals_of r) outcome_kinds (outcome_at r) outcome_few

  -- each litre is destroyed or uncombusted, once
  pub litres_once : (account_of r).destroyed + (account_of r).uncombusted ≡ (account_of r).methane
  unfolding account_of
  litres_once = partition r.kind (methane_of r)

  -- an interval that counts was inside its ranges
  pub counted_inside : (i : ℕ) → i < intervals_of r → counted (outcome_at r i) ≡ true
      → Inside (flow_used_at r i) (get_or r.series.temp i (pos 0)) (get_or r.series.press i 0) × (content_used_at r i ≤ content_most)
  unfolding held_of
  counted_inside i l e =
      let y = counted_used (held_of r) (intervals_of r) ready i l (ap counted (outcome_is i l) ∙ e) in (
        subst (λ (f : ℕ). Inside f (get_or r.series.temp i (pos 0)) (get_or r.series.press i 0)) (flow_is i l) y.0,
        subst (λ (c : ℕ). c ≤ content_most) (content_is i l) y.1,
      )

-- a bound may be raised
pub low_weaken : (reading : List ℕ) (b c : ℕ) → b ≤ c → Low reading b → Low reading c
low_weaken reading b c l x = record { low = λ i e. le_trans (x.low i e) l }

-- the two series' rows as `fill_series` leaves them: flow's with its own instrument, CH4's with its own
pub record Filling (r : Records) (b : Rows) : Type 0 where
  pub flow_filled : b.flow ≡ build (length r.series.flow)
      (filled_at r.series.flow (build (length r.series.flow) (corrected_at (instrument_of r 0) r.series.flow)))
  pub content_filled : b.content ≡ build (length r.series.content)
      (filled_at r.series.content (build (length r.series.content) (corrected_at (instrument_of r 1) r.series.content)))

module _ (r : Records) (x : Right r) (b : Rows) (y : Filling r b) where
  held_is : held_of r ≡ held_by r.series b
  unfolding held_of corrected_flow corrected_content
  held_is k =
      record {
        series = r.series;
        held_flow = sym y.flow_filled k;
        held_content =
            sym (y.content_filled
            ∙ ap (λ (m : ℕ). build m (filled_at r.series.content (build m (corrected_at (instrument_of r 1) r.series.content)))) x.long.content) k;
      }

  pub ready_held : ReadyAt (held_by r.series b) (intervals_of r)
  ready_held = subst (λ (h : Held). ReadyAt h (intervals_of r)) held_is (ready r x)

  module _ (left : Rows) (s : Sums) (z : Finished (held_by r.series b) left s) where
    settled : Finished (held_of r) left s
    settled = subst (λ (h : Held). Finished h left s) (sym held_is) z

    pub sums_held : s.methane ≤ device_most
    sums_held = sums_most r x left s settled

    pub filled_held : (destroyed uncombusted : ℕ) → destroyed ≡ destroyed_of r.kind s.methane → uncombusted ≡ uncombusted_of r.kind s.methane
        → Filled r left (record { outcomes = s.outcomes; methane = s.methane; destroyed = destroyed; uncombusted = uncombusted })
    filled_held a u p q = filled r x left s a u settled p q

-- the contract permits one result only
pub filled_unique : (r : Records) (s t : Rows) (a b : Account) → Filled r s a → Filled r t b → (s ≡ t) × (a ≡ b)
filled_unique r s t a b x y = (
  λ i. record {
    outcome = (x.outcome_built ∙ sym y.outcome_built) i;
    flow = (x.flow_built ∙ sym y.flow_built) i;
    content = (x.content_built ∙ sym y.content_built) i;
  },
  x.account ∙ sym y.account,
)
