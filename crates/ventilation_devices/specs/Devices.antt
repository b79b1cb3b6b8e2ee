-- Each oxidiser's own part of what is lent, the row joined again, and the sums over devices.
-- Assumes nothing.
use Rattle.std.specs.Prelude.{ℕ, ◌+◌, ◌*◌, ◌≤◌, ◌≡◌, List}
use Rattle.rows.specs.Rows.{build, join, put}
use Rattle.protocol.specs.Ranges.{intervals_most, devices_most}
use Rattle.columns.specs.Streams.{Air, AirLong, AirRight, air_part}
use Rattle.columns.specs.Lent as Columns
use Rattle.accounts.specs.declared.Account.{Account}
use Rattle.accounts.specs.declared.Totals.{Totals}
use Rattle.accounts.specs.Account.{accounts_of}
use Rattle.accounts.specs.Totals.{totals_over}
use Rattle.ventilation_device.specs.Device.{outcome_at, account_of}
use Rattle.ventilation_devices.specs.declared.Lent as Declared

-- the records of all devices, device 0 first
pub record Lent : Type 0 where
  pub intervals : ℕ
  pub air : Air

-- what the code lends, as the lists that it holds
abbrev pub lent_in : Declared.Lent → Lent
lent_in l = record { intervals = l.intervals; air = Columns.air_in l.air }

-- device d's records, and nothing of its neighbours'
abbrev pub air_in : Lent → ℕ → Air
air_in l d = air_part l.air l.intervals d

-- what a call gives besides its answer: the result row and the devices' accounts
pub record Results : Type 0 where
  pub outcome : List ℕ
  pub accounts : List ℕ

-- one device's part of each
unfoldable pub outcome_part : Lent → ℕ → List ℕ
outcome_part l d = build l.intervals (outcome_at (air_in l d))

abbrev pub account_in : Lent → ℕ → Account
account_in l d = account_of (air_in l d)

-- every entry of the row is written, device 0 first; of the accounts those of the devices that there are
unfoldable pub results_of : Lent → ℕ → Results → Results
results_of l devices before = record { outcome = join devices (outcome_part l); accounts = accounts_of devices (account_in l) before.accounts }

-- what the refusals leave of what is lent
pub record Sound (l : Lent) (devices : ℕ) : Type 0 where
  pub few : l.intervals ≤ intervals_most
  pub few_devices : devices ≤ devices_most
  pub long : AirLong l.air (devices * l.intervals)
  pub right : AirRight l.air (devices * l.intervals)

-- the row and the accounts of all devices, and their totals
pub record AllWritten (l : Lent) (devices : ℕ) (before after : Results) (t : Totals) : Type 0 where
  pub results : after ≡ results_of l devices before
  pub totals : t ≡ totals_over devices (account_in l)

-- ---- what only the contract of the private function `fill_device` needs

-- device d's part of the row written, the rest of it as it was, and its account
pub record Written (l : Lent) (d : ℕ) (outcome outcome' : List ℕ) (a : Account) : Type 0 where
  pub outcome_built : outcome' ≡ put outcome (d * l.intervals) (d * l.intervals + l.intervals) (outcome_part l d)
  pub account : a ≡ account_in l d
