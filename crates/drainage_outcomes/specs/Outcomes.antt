-- An interval's outcome (rule 8.1), and what it then counts for.
-- Assumes nothing.
use Rattle.std.specs.Prelude.{ℕ, ◌+◌, ◌-◌, ◌≤◌, ◌<◌, ◌≡◌, refl, Bool, true, false, not, List, eqb, ltb, ℤ, pos, length, get_or}
use Rattle.rows.specs.Rows.{pick, both, either, build, sum_to, count_of}
use Rattle.protocol.specs.Ranges.{intervals_most, mark, temp_missing, press_missing, temp_right, press_right, flow_most, content_most}
use Rattle.columns.specs.Series.{Series, Long}
use Rattle.volume.specs.Volume.{methane_litres}
use Rattle.accounts.specs.Account.{outcome_kinds, counted}
use Rattle.drainage_runs.specs.Runs.{too_long, not_whole}
use Rattle.drainage_runs.specs.Private.{excluding}
use Rattle.drainage_outcomes.specs.Rows.{Rows}
use Rattle.drainage_outcomes.specs.declared.Entry.{Entry}
use Rattle.drainage_outcomes.specs.declared.Sums.{Sums}

-- Rule 8.1: the first line that applies, from top to bottom. `lacking` is that temperature or pressure is missing. `by_flow` is what a
-- missing flow comes to: 1 where it is replaced, or too_long or not_whole; `by_content` what a missing CH4 content does, 2 or these.
unfoldable pub outcome_of : ℕ → Bool → Bool → Bool → ℕ → ℕ → ℕ
outcome_of status lacking lacks_flow lacks_content by_flow by_content =
    pick (eqb status 0) 3
    (pick (eqb status 3) 4
    (pick lacking 5
    (pick (both lacks_flow lacks_content) 6
    (pick (both (either lacks_flow lacks_content) (eqb status 1)) 7
    (pick lacks_flow by_flow
    (pick lacks_content by_content
    0))))))

-- the device ran, and nothing is missing: outcome 0
unfoldable pub all_measured : ℕ → ℕ → ℤ → ℕ → ℕ → Bool
all_measured flow content temp press status =
    not (either (eqb status 0)
    (either (eqb status 3)
    (either (either (temp_missing temp) (press_missing press))
    (either (eqb flow mark) (eqb content mark)))))

-- rule 8.4: the value of a counted interval, 0 of an excluded one
abbrev pub used_for : ℕ → ℕ → ℕ
used_for outcome value = pick (counted outcome) value 0

-- the methane litres of an interval (rules 9.1 and 9.2), none where it is excluded
unfoldable pub litres_for : ℕ → ℕ → ℕ → ℤ → ℕ → ℕ
litres_for outcome flow content temp press = pick (counted outcome) (methane_litres flow content temp press) 0

-- one device's rows when gaps are filled: the five series as recorded, and what each interval holds for flow and content
pub record Held : Type 0 where
  pub series : Series
  pub held_flow : List ℕ
  pub held_content : List ℕ

-- made of the series and of rows that hold that
abbrev pub held_by : Series → Rows → Held
held_by series rows = record { series = series; held_flow = rows.flow; held_content = rows.content }

-- what a missing reading comes to, by what its gap's entries hold: its replacement's outcome, or the one that excludes it
abbrev pub held_outcome : ℕ → ℕ → ℕ
held_outcome replaced held = pick (ltb excluding held) (held - excluding) replaced

-- an interval, from its readings and what it holds
unfoldable pub entry_of : ℕ → ℕ → ℤ → ℕ → ℕ → ℕ → ℕ → Entry
entry_of flow content temp press status flow_held content_held =
    let o : ℕ =
    outcome_of status (either (temp_missing temp) (press_missing press)) (eqb flow mark) (eqb content mark)
    (held_outcome 1 flow_held) (held_outcome 2 content_held) in
    record { outcome = o; flow = used_for o flow_held; content = used_for o content_held; litres = litres_for o flow_held content_held temp press }

unfoldable pub entry_at : Held → ℕ → Entry
entry_at h i =
    entry_of (get_or h.series.flow i mark) (get_or h.series.content i mark) (get_or h.series.temp i (pos 0)) (get_or h.series.press i 0)
    (get_or h.series.status i 0)
    (get_or h.held_flow i mark) (get_or h.held_content i mark)

-- rule 8.6: how many intervals have each outcome, beside the sum of their litres
unfoldable pub sums_of : ℕ → (ℕ → Entry) → Sums
sums_of n entry =
    record { outcomes = build outcome_kinds (count_of n (λ i. (entry i).outcome)); methane = sum_to n (λ i. (entry i).litres) }

-- what is held for a reading: a value up to b, or one of the two outcomes that exclude a missing reading
pub record Holds (reading held b : ℕ) : Type 0 where
  pub value : held ≤ excluding → held ≤ b
  pub few : held ≤ excluding + not_whole
  pub measured : eqb reading mark ≡ false → held ≤ b
  pub some : excluding < held → excluding + too_long ≤ held

-- what an interval's entry is worked out from
pub record Ready (flow content : ℕ) (temp : ℤ) (press flow_held content_held : ℕ) : Type 0 where
  pub held_flow : Holds flow flow_held flow_most
  pub held_content : Holds content content_held content_most
  pub temp_in_range : temp_right temp ≡ true
  pub press_in_range : press_right press ≡ true

pub record ReadyAt (h : Held) (n : ℕ) : Type 0 where
  pub few : n ≤ intervals_most
  pub long : Long h.series n
  pub flow_rows : length h.held_flow ≡ n
  pub content_rows : length h.held_content ≡ n
  pub ready : (i : ℕ) → i < n → Ready (get_or h.series.flow i mark) (get_or h.series.content i mark) (get_or h.series.temp i (pos 0))
      (get_or h.series.press i 0) (get_or h.held_flow i mark) (get_or h.held_content i mark)

-- the three rows and the sums after the last pass
pub record Finished (h : Held) (left : Rows) (given : Sums) : Type 0 where
  pub outcome_built : left.outcome ≡ build (length h.series.flow) (λ i. (entry_at h i).outcome)
  pub flow_built : left.flow ≡ build (length h.series.flow) (λ i. (entry_at h i).flow)
  pub content_built : left.content ≡ build (length h.series.flow) (λ i. (entry_at h i).content)
  pub sums : given ≡ sums_of (length h.series.flow) (entry_at h)

-- the order decides: stopped before everything, no record of status before a missing temperature, and so on
stopped : outcome_of 0 true true true 8 9 ≡ 3
unfolding outcome_of
stopped = refl

unrecorded : outcome_of 3 true true true 8 9 ≡ 4
unfolding outcome_of
unrecorded = refl

conditions : outcome_of 1 true true true 8 9 ≡ 5
unfolding outcome_of
conditions = refl

neither : outcome_of 1 false true true 8 9 ≡ 6
unfolding outcome_of
neither = refl

unattested : outcome_of 1 false true false 1 2 ≡ 7
unfolding outcome_of
unattested = refl

attested : outcome_of 2 false true false 1 2 ≡ 1
unfolding outcome_of
attested = refl

long : outcome_of 2 false false true 1 8 ≡ 8
unfolding outcome_of
long = refl

measured : outcome_of 1 false false false 1 2 ≡ 0
unfolding outcome_of
measured = refl

-- a running device with everything measured; no record of status; no pressure
all_there : all_measured 1000 5000 (pos 2000) 101325 1 ≡ true
unfolding all_measured
all_there = refl

no_status : all_measured 1000 5000 (pos 2000) 101325 3 ≡ false
unfolding all_measured
no_status = refl

no_pressure : all_measured 1000 5000 (pos 2000) 0 1 ≡ false
unfolding all_measured
no_pressure = refl
