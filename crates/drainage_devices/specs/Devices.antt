-- Each device's own part of what is lent, and the rows joined again.
-- Assumes nothing.
use Rattle.std.specs.Prelude.{ℕ, ◌*◌, ◌≤◌, ◌<◌, ◌≡◌, List, length, get_or}
use Rattle.protocol.specs.Ranges.{intervals_most, devices_most}
use Rattle.rows.specs.Rows.{build, join}
use Rattle.columns.specs.Series.{Series, Checks, Long, ChecksLong, series_part, checks_part}
use Rattle.accounts.specs.Account.{accounts_of}
use Rattle.drainage_outcomes.specs.Rows.{Rows}
use Rattle.drainage_device.specs.Device.{Records, Right, outcome_at, flow_used_at, content_used_at, account_of}
use Rattle.accounts.specs.declared.Account.{Account}

-- the records of all devices, device 0 first (rules 3.3 and 3.12)
pub record Lent : Type 0 where
  pub intervals : ℕ
  pub kinds : List ℕ
  pub checks : Checks
  pub series : Series

-- device d's records, and nothing of its neighbours'
unfoldable pub records_of : Lent → ℕ → Records
records_of l d =
    record {
      kind = get_or l.kinds d 0;
      series = series_part l.series l.intervals d;
      checks = checks_part l.checks d;
    }

-- what a call gives besides its answer: the three result rows (rule 3.11) and the devices' accounts
pub record Results : Type 0 where
  pub outcome : List ℕ
  pub flow : List ℕ
  pub content : List ℕ
  pub accounts : List ℕ

-- made of rows and accounts
abbrev pub results_with : Rows → List ℕ → Results
results_with rows accounts = record { outcome = rows.outcome; flow = rows.flow; content = rows.content; accounts = accounts }

-- one device's part of each
unfoldable pub outcome_part : Lent → ℕ → List ℕ
outcome_part l d = build l.intervals (outcome_at (records_of l d))

unfoldable pub flow_part : Lent → ℕ → List ℕ
flow_part l d = build l.intervals (flow_used_at (records_of l d))

unfoldable pub content_part : Lent → ℕ → List ℕ
content_part l d = build l.intervals (content_used_at (records_of l d))

abbrev pub account_in : Lent → ℕ → Account
account_in l d = account_of (records_of l d)

-- rule 8.5: every entry of the rows is written, device 0 first; of the accounts those of the devices that there are, and what
-- stands behind them stays
unfoldable pub results_of : Lent → ℕ → Results → Results
results_of l devices before =
    record {
      outcome = join devices (outcome_part l);
      flow = join devices (flow_part l);
      content = join devices (content_part l);
      accounts = accounts_of devices (account_in l) before.accounts;
    }

-- what the refusals leave of what is lent
pub record Sound (l : Lent) (devices : ℕ) : Type 0 where
  pub some : 1 ≤ l.intervals
  pub few : l.intervals ≤ intervals_most
  pub few_devices : devices ≤ devices_most
  pub kinds_long : length l.kinds ≡ devices
  pub roomy : ChecksLong l.checks devices
  pub long : Long l.series (devices * l.intervals)
  pub right : (d : ℕ) → d < devices → Right (records_of l d)
