-- One device's row: from its records to its outcomes, its values used and its account. Nothing else can influence them: every
-- definition here takes that device's records only.
-- Assumes nothing.
use Rattle.std.specs.Prelude.{ℕ, ◌+◌, ◌*◌, ◌≤◌, ◌<◌, ◌≡◌, false, List, pos, length, get_or}
use Rattle.rows.specs.Rows.{pick, either, build, sum_to, count_of, cut}
use Rattle.protocol.specs.Ranges.{intervals_most, checks_most, mark, temp_missing, press_missing}
use Rattle.columns.specs.Series.{Series, Checks, Long, ChecksLong, InRange}
use Rattle.drainage_drift.specs.Drift.{Instrument, corrected_at, Ordered}
use Rattle.drainage_runs.specs.Runs.{missing_at}
use Rattle.drainage_gaps.specs.Gaps.{Replaced, replacement_at}
use Rattle.drainage_outcomes.specs.Rows.{Rows}
use Rattle.drainage_outcomes.specs.Outcomes.{outcome_of, used_for, litres_for}
use Rattle.accounts.specs.Account.{outcome_kinds}
use Rattle.balance.specs.Balance.{destroyed_of, uncombusted_of}
use Rattle.accounts.specs.declared.Account.{Account}

-- one device's records: its rows of the five series, its two check counts, flow instrument first, its 64 places for
-- positions and for drifts, and its kind
pub record Records : Type 0 where
  pub kind : ℕ
  pub series : Series
  pub checks : Checks

abbrev pub intervals_of : Records → ℕ
intervals_of r = length r.series.flow

-- rule 3.7: the flow instrument is 0, the CH4 instrument 1; each has places of its own
unfoldable pub instrument_of : Records → ℕ → Instrument
instrument_of r g =
    record {
      count = get_or r.checks.counts g 0;
      positions = cut r.checks.positions (checks_most * g) (checks_most * g + checks_most);
      drifts = cut r.checks.drifts (checks_most * g) (checks_most * g + checks_most);
    }

-- rule 6.8: each series with its drift taken out, before anything is replaced
unfoldable pub corrected_flow : Records → List ℕ
corrected_flow r = build (intervals_of r) (corrected_at (instrument_of r 0) r.series.flow)

unfoldable pub corrected_content : Records → List ℕ
corrected_content r = build (intervals_of r) (corrected_at (instrument_of r 1) r.series.content)

-- Rule 8.1: the outcome of an interval whose reading is missing, where it comes to that: its replacement's, or the one that
-- excludes it
abbrev pub replaced_as : ℕ → Replaced → ℕ
replaced_as outcome (Replaced.by v) = outcome
replaced_as outcome (Replaced.excluded o) = o

-- rule 8.1
unfoldable pub outcome_at : Records → ℕ → ℕ
outcome_at r i =
    outcome_of (get_or r.series.status i 0)
    (either (temp_missing (get_or r.series.temp i (pos 0))) (press_missing (get_or r.series.press i 0)))
    (missing_at r.series.flow i)
    (missing_at r.series.content i)
    (replaced_as 1 (replacement_at r.series.flow (corrected_flow r) i))
    (replaced_as 2 (replacement_at r.series.content (corrected_content r) i))

abbrev pub value_of : Replaced → ℕ
value_of (Replaced.by v) = v
value_of (Replaced.excluded o) = 0

-- rule 8.4: a series' value for an interval, measured, with its drift taken out, or replaced
unfoldable pub value_at : List ℕ → List ℕ → ℕ → ℕ
value_at reading corrected i =
    pick (missing_at reading i) (value_of (replacement_at reading corrected i)) (get_or corrected i mark)

-- what the rows hold for an interval (rule 8.4)
unfoldable pub flow_used_at : Records → ℕ → ℕ
flow_used_at r i = used_for (outcome_at r i) (value_at r.series.flow (corrected_flow r) i)

unfoldable pub content_used_at : Records → ℕ → ℕ
content_used_at r i = used_for (outcome_at r i) (value_at r.series.content (corrected_content r) i)

-- the methane litres of an interval (rules 9.1 and 9.2)
unfoldable pub litres_at : Records → ℕ → ℕ
litres_at r i =
    litres_for (outcome_at r i) (flow_used_at r i) (content_used_at r i) (get_or r.series.temp i (pos 0)) (get_or r.series.press i 0)

-- rule 9.3
unfoldable pub methane_of : Records → ℕ
methane_of r = sum_to (intervals_of r) (litres_at r)

-- rule 8.6: how many of its intervals have each outcome; rules 9.3 to 9.5: its litres
unfoldable pub account_of : Records → Account
account_of r =
    record {
      outcomes = build outcome_kinds (count_of (intervals_of r) (outcome_at r));
      methane = methane_of r;
      destroyed = destroyed_of r.kind (methane_of r);
      uncombusted = uncombusted_of r.kind (methane_of r);
    }

-- every reading that is not missing is at most b
pub record Low (reading : List ℕ) (b : ℕ) : Type 0 where
  pub low : (i : ℕ) → missing_at reading i ≡ false → get_or reading i mark ≤ b

-- what the refusals leave: rows of one length, checks in order, every reading in range or missing
pub record Right (r : Records) : Type 0 where
  pub few : intervals_of r ≤ intervals_most
  pub long : Long r.series (intervals_of r)
  pub kept : ChecksLong r.checks 1
  pub ordered : (g : ℕ) → g < 2 → Ordered (instrument_of r g) (intervals_of r)
  pub readings_in_range : InRange r.series (intervals_of r)

-- the three rows and the account that the definitions build
pub record Filled (r : Records) (left : Rows) (a : Account) : Type 0 where
  pub outcome_built : left.outcome ≡ build (intervals_of r) (outcome_at r)
  pub flow_built : left.flow ≡ build (intervals_of r) (flow_used_at r)
  pub content_built : left.content ≡ build (intervals_of r) (content_used_at r)
  pub account : a ≡ account_of r
