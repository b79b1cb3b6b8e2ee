-- Laws of outcomes: which there are, what a counted interval's values are, and what a device's sums are.
-- Assumes nothing.
use Prim.Native.Nat.{ℕ, ◌+◌, ◌-◌, ◌*◌, ◌≤◌, ◌<◌}
use mathlib.Core.Path.{◌≡◌, refl, sym, ap, ◌∙◌, subst}
use mathlib.Core.Bool.{Bool, true, false, not}
use native.Mathlib.Omega.{arith}
use lib.Dec.{eqb, ltb}
use lib.IntN.{ℤ, pos}
use lib.ListN.{get_or}
use borrow.Author.Tests.{ltb-true, ltb-false, lt-ltb, le-ltb}
use Rattle.rows.specs.Rows.{pick, both, either, sum_to, count_of}
use Rattle.rows.proofs.Laws.{get_or-build}
use Rattle.rows.proofs.Sums.{sum_to_bound, sum_to_ext, counts_add}
use Rattle.protocol.specs.Ranges.{mark, temp_missing, press_missing, flow_most, content_most}
use Rattle.protocol.proofs.RangeLaws.{either_false_both, kelvin_bounds, press_bound}
use Rattle.volume.specs.Volume.{methane_litres, Inside, litres_most}
use Rattle.volume.proofs.Laws.{methane_litres_most, no_flow}
use Rattle.drainage_runs.specs.Runs.{too_long, not_whole}
use Rattle.drainage_runs.specs.Private.{excluding}
use Rattle.drainage_outcomes.specs.declared.Sums.{Sums}
use Rattle.drainage_outcomes.specs.Rows.{Rows}
use Rattle.drainage_outcomes.specs.Outcomes.{outcome_of, all_measured, litres_for, held_outcome, entry_of, entry_at, sums_of, Held}
use Rattle.accounts.specs.Account.{outcome_kinds, counted}
use Rattle.drainage_outcomes.specs.Outcomes.{Holds, Ready, ReadyAt, Finished}
use Rattle.rows.proofs.Truth.{clash}

-- ---- one interval

-- the order of the outcomes, with each test as it came out
abbrev ordered : Bool → Bool → Bool → Bool → Bool → Bool → ℕ → ℕ → ℕ
ordered stopped unrecorded lacking lacks_flow lacks_content running by_flow by_content =
    pick stopped 3
    (pick unrecorded 4
    (pick lacking 5
    (pick (both lacks_flow lacks_content) 6
    (pick (both (either lacks_flow lacks_content) running) 7
    (pick lacks_flow by_flow
    (pick lacks_content by_content
    0))))))

-- what a counted outcome says of the tests
record Counts (lacking lacks_flow lacks_content : Bool) (by_flow by_content : ℕ) : Type 0 where
  has : lacking ≡ false
  flow_found : lacks_flow ≡ true → by_flow < 3
  content_found : lacks_content ≡ true → by_content < 3

too_many : {X : Type 0} (k : ℕ) → 3 ≤ k → k < 3 → X
too_many k h l = absurd (let w : ⊥ = omega arith in w)

counts : (s u l f c r : Bool) (a b : ℕ) → ordered s u l f c r a b < 3 → Counts l f c a b
counts true u l f c r a b h = too_many 3 (omega arith) h
counts false true l f c r a b h = too_many 4 (omega arith) h
counts false false true f c r a b h = too_many 5 (omega arith) h
counts false false false true true r a b h = too_many 6 (omega arith) h
counts false false false true false true a b h = too_many 7 (omega arith) h
counts false false false true false false a b h = record { has = refl; flow_found = λ e. h; content_found = λ e. clash e refl }
counts false false false false true true a b h = too_many 7 (omega arith) h
counts false false false false true false a b h = record { has = refl; flow_found = λ e. clash e refl; content_found = λ e. h }
counts false false false false false r a b h = record { has = refl; flow_found = λ e. clash e refl; content_found = λ e. clash e refl }

-- nothing is missing: outcome 0, whatever else there is
all_there : (s u l f c r : Bool) (a b : ℕ) → not (either s (either u (either l (either f c)))) ≡ true → 0 ≡ ordered s u l f c r a b
all_there true u l f c r a b e = clash e refl
all_there false true l f c r a b e = clash e refl
all_there false false true f c r a b e = clash e refl
all_there false false false true c r a b e = clash e refl
all_there false false false false true r a b e = clash e refl
all_there false false false false false r a b e = refl

few : (s u l f c r : Bool) (a b : ℕ) → a < 10 → b < 10 → ordered s u l f c r a b < 10
few true u l f c r a b h k = omega arith
few false true l f c r a b h k = omega arith
few false false true f c r a b h k = omega arith
few false false false true true r a b h k = omega arith
few false false false true false true a b h k = omega arith
few false false false true false false a b h k = h
few false false false false true true a b h k = omega arith
few false false false false true false a b h k = k
few false false false false false r a b h k = omega arith

-- ---- what is held for a reading

held_few : (reading held b r : ℕ) → Holds reading held b → r < 10 → held_outcome r held < 10
held_few reading held b r x h = go (ltb excluding held)
  where
    go : (t : Bool) → pick t (held - excluding) r < 10
    go true = let z : held ≤ excluding + not_whole = x.few in omega arith
    go false = h

-- where the reading was measured, or its replacement found, the value is in range
held_right : (reading held b r : ℕ) → Holds reading held b → (eqb reading mark ≡ true → held_outcome r held < 3) → held ≤ b
held_right reading held b r x h = go (eqb reading mark) refl
  where
    found : (t : Bool) → ltb excluding held ≡ t → pick t (held - excluding) r < 3 → held ≤ b
    found true e l =
        let z : excluding < held = ltb-true excluding held e in
        let y : excluding + too_long ≤ held = x.some z in
        absurd (let w : ⊥ = omega arith in w)
    found false e l = x.value (ltb-false excluding held e)

    go : (t : Bool) → eqb reading mark ≡ t → held ≤ b
    go true e = found (ltb excluding held) refl (h e)
    go false e = x.measured e

-- ---- an interval's entry

-- the outcome of an interval, from its readings and what it holds
abbrev pub outcome_for : ℕ → ℕ → ℤ → ℕ → ℕ → ℕ → ℕ → ℕ
outcome_for flow content temp press status flow_held content_held =
    outcome_of status (either (temp_missing temp) (press_missing press)) (eqb flow mark) (eqb content mark)
    (held_outcome 1 flow_held) (held_outcome 2 content_held)

-- where everything is measured that is 0, whatever is held
pub measured_outcome : (flow content : ℕ) (temp : ℤ) (press status flow_held content_held : ℕ) → all_measured flow content temp press status ≡ true
    → 0 ≡ outcome_for flow content temp press status flow_held content_held
unfolding outcome_of all_measured
measured_outcome flow content temp press status flow_held content_held e =
    all_there (eqb status 0) (eqb status 3) (either (temp_missing temp) (press_missing press)) (eqb flow mark) (eqb content mark) (eqb status 1)
    (held_outcome 1 flow_held) (held_outcome 2 content_held) e

module _ (flow content : ℕ) (temp : ℤ) (press status flow_held content_held : ℕ) (x : Ready flow content temp press flow_held content_held) where
  -- the values of a counted interval are in range, so that its litres fit
  pub counted_inside : outcome_for flow content temp press status flow_held content_held < 3
      → Inside flow_held temp press × (content_held ≤ content_most)
  unfolding outcome_of
  counted_inside h =
      let y = counts (eqb status 0) (eqb status 3) (either (temp_missing temp) (press_missing press)) (eqb flow mark) (eqb content mark) (eqb status 1)
      (held_outcome 1 flow_held) (held_outcome 2 content_held) h in
      let m = either_false_both (temp_missing temp) (press_missing press) y.has in
      let k = kelvin_bounds temp x.temp_in_range m.0 in (
        record {
          flow_within = held_right flow flow_held flow_most 1 x.held_flow y.flow_found;
          kelvin_least = k.0;
          kelvin_most = k.1;
          press_most = press_bound press x.press_in_range m.1;
        },
        held_right content content_held content_most 2 x.held_content y.content_found,
      )

  -- ten outcomes
  pub outcome_few : outcome_for flow content temp press status flow_held content_held < 10
  unfolding outcome_of
  outcome_few =
      few (eqb status 0) (eqb status 3) (either (temp_missing temp) (press_missing press)) (eqb flow mark) (eqb content mark) (eqb status 1)
      (held_outcome 1 flow_held) (held_outcome 2 content_held)
      (held_few flow flow_held flow_most 1 x.held_flow (omega arith))
      (held_few content content_held content_most 2 x.held_content (omega arith))

  pub entry_few : (entry_of flow content temp press status flow_held content_held).outcome < 10
  unfolding entry_of
  entry_few = outcome_few

  pub entry_litres : (entry_of flow content temp press status flow_held content_held).litres ≤ litres_most
  unfolding entry_of litres_for
  entry_litres = go (ltb (outcome_for flow content temp press status flow_held content_held) 3) refl
    where
      go : (t : Bool) → ltb (outcome_for flow content temp press status flow_held content_held) 3 ≡ t → pick t (methane_litres flow_held content_held temp press) 0 ≤
          litres_most
      go true e =
          let y = counted_inside (ltb-true (outcome_for flow content temp press status flow_held content_held) 3 e) in
          methane_litres_most flow_held content_held temp press y.0 y.1
      go false e = omega arith

-- an entry as the code makes it, by whether the interval is counted
module _ (flow content : ℕ) (temp : ℤ) (press status flow_held content_held o : ℕ) (e : o ≡ outcome_for flow content temp press status flow_held content_held) where
  shown : (t : Bool) → ltb o 3 ≡ t → (litres : ℕ) → litres ≡ pick t (methane_litres flow_held content_held temp press) 0
      → record { outcome = o; flow = pick t flow_held 0; content = pick t content_held 0; litres = litres } ≡ entry_of flow content temp press status flow_held
      content_held
  unfolding entry_of litres_for
  shown t q litres l =
      let z : ltb (outcome_for flow content temp press status flow_held content_held) 3 ≡ t = subst (λ (k : ℕ). ltb k 3 ≡ t) e q in
      λ i. record {
        outcome = e i;
        flow = pick (sym z i) flow_held 0;
        content = pick (sym z i) content_held 0;
        litres = (l ∙ ap (λ (b : Bool). pick b (methane_litres flow_held content_held temp press) 0) (sym z)) i;
      }

  pub counted_entry : o < 3 → (litres : ℕ) → litres ≡ methane_litres flow_held content_held temp press
      → record { outcome = o; flow = flow_held; content = content_held; litres = litres } ≡ entry_of flow content temp press status flow_held content_held
  counted_entry h litres l = shown true (lt-ltb o 3 h) litres l

  pub excluded_entry : 3 ≤ o → record { outcome = o; flow = 0; content = 0; litres = 0 } ≡ entry_of flow content temp press status flow_held content_held
  excluded_entry h = shown false (le-ltb o 3 h) 0 refl

-- ---- a device's row, for callers

-- every interval has one of ten outcomes
pub outcome_of_ten : (h : Held) (n : ℕ) → ReadyAt h n → (i : ℕ) → i < n → (entry_at h i).outcome < 10
unfolding entry_at
outcome_of_ten h n x i l =
    entry_few (get_or h.series.flow i mark) (get_or h.series.content i mark) (get_or h.series.temp i (pos 0)) (get_or h.series.press i 0)
    (get_or h.series.status i 0)
    (get_or h.held_flow i mark) (get_or h.held_content i mark) (x.ready i l)

pub litres_of_entry : (h : Held) (n : ℕ) → ReadyAt h n → (i : ℕ) → i < n → (entry_at h i).litres ≤ litres_most
unfolding entry_at
litres_of_entry h n x i l =
    entry_litres (get_or h.series.flow i mark) (get_or h.series.content i mark) (get_or h.series.temp i (pos 0)) (get_or h.series.press i 0)
    (get_or h.series.status i 0)
    (get_or h.held_flow i mark) (get_or h.held_content i mark) (x.ready i l)

-- the methane of the first i intervals
pub methane_to : (h : Held) (n : ℕ) → ReadyAt h n → (i : ℕ) → i ≤ n → sum_to i (λ k. (entry_at h k).litres) ≤ i * litres_most
methane_to h n x i l = sum_to_bound i litres_most (λ k. (entry_at h k).litres) (λ k z. litres_of_entry h n x k (omega arith))

-- a device's methane
pub methane_most : (h : Held) (n : ℕ) → ReadyAt h n → (sums_of n (entry_at h)).methane ≤ n * litres_most
unfolding sums_of
methane_most h n x = methane_to h n x n (omega arith)

-- rule 8.6: the ten counts add to N
pub counts_total : (h : Held) (n : ℕ) → ReadyAt h n → sum_to outcome_kinds (count_of n (λ k. (entry_at h k).outcome)) ≡ n
counts_total h n x = counts_add n 10 (λ k. (entry_at h k).outcome) (outcome_of_ten h n x)

-- the ten counts, read off the sums
pub count_at : (h : Held) (n j : ℕ) → j < outcome_kinds → get_or (sums_of n (entry_at h)).outcomes j 0 ≡ count_of n (λ k. (entry_at h k).outcome) j
unfolding sums_of
count_at h n j l = get_or-build outcome_kinds (count_of n (λ k. (entry_at h k).outcome)) j 0 l

-- and so does the list itself
pub counts_sum : (h : Held) (n : ℕ) → ReadyAt h n → sum_to outcome_kinds (λ j. get_or (sums_of n (entry_at h)).outcomes j 0) ≡ n
counts_sum h n x =
    sum_to_ext outcome_kinds (λ j. get_or (sums_of n (entry_at h)).outcomes j 0) (count_of n (λ k. (entry_at h k).outcome)) (λ j l. count_at h n j l)
    ∙ counts_total h n x

-- a counted interval's used values are in range
pub counted_used : (h : Held) (n : ℕ) → ReadyAt h n → (i : ℕ) → i < n → counted (entry_at h i).outcome ≡ true
    → Inside (entry_at h i).flow (get_or h.series.temp i (pos 0)) (get_or h.series.press i 0) × ((entry_at h i).content ≤ content_most)
unfolding entry_at entry_of
counted_used h n x i l e =
    let y = counted_inside (get_or h.series.flow i mark) (get_or h.series.content i mark) (get_or h.series.temp i (pos 0)) (get_or h.series.press i 0)
    (get_or h.series.status i 0) (get_or h.held_flow i mark) (get_or h.held_content i mark) (x.ready i l) (ltb-true (entry_at h i).outcome 3 e) in
    simp e y

-- an excluded interval's used values are 0
pub excluded_used : (h : Held) (i : ℕ) → counted (entry_at h i).outcome ≡ false
    → ((entry_at h i).flow ≡ 0) × ((entry_at h i).content ≡ 0) × ((entry_at h i).litres ≡ 0)
unfolding entry_at entry_of litres_for
excluded_used h i e = (simp e, simp e, simp e)

-- an interval's litres are those of its used values, counted or not
pub litres_of_used : (h : Held) (i : ℕ) → (entry_at h i).litres ≡ methane_litres (entry_at h i).flow (entry_at h i).content (get_or h.series.temp i (pos 0))
    (get_or h.series.press i 0)
unfolding entry_at entry_of litres_for
litres_of_used h i = go (counted (entry_at h i).outcome)
  where
    go : (t : Bool) → pick t (methane_litres (get_or h.held_flow i mark) (get_or h.held_content i mark) (get_or h.series.temp i (pos 0))
        (get_or h.series.press i 0)) 0
        ≡ methane_litres (pick t (get_or h.held_flow i mark) 0) (pick t (get_or h.held_content i mark) 0) (get_or h.series.temp i (pos 0))
        (get_or h.series.press i 0)
    go true = refl
    go false = sym (no_flow 0 (get_or h.series.temp i (pos 0)) (get_or h.series.press i 0))

-- the contract permits one result only
pub finished_unique : (h : Held) (a b : Rows) (s t : Sums) → Finished h a s → Finished h b t → (a ≡ b) × (s ≡ t)
finished_unique h a b s t x y = (
  λ i. record {
    outcome = (x.outcome_built ∙ sym y.outcome_built) i;
    flow = (x.flow_built ∙ sym y.flow_built) i;
    content = (x.content_built ∙ sym y.content_built) i;
  },
  x.sums ∙ sym y.sums,
)
