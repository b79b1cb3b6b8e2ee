-- One oxidiser's row: from its records to its outcomes and its account. Nothing else can influence them: every definition here takes
-- that device's records only.
-- Assumes nothing.
use Rattle.std.specs.Prelude.{ℕ, ◌-◌, ◌≤◌, ◌≡◌, List, length, get_or}
use Rattle.rows.specs.Rows.{build, sum_to, count_of}
use Rattle.protocol.specs.Ranges.{intervals_most}
use Rattle.columns.specs.Streams.{Air, gas_at, AirLong, AirRight}
use Rattle.accounts.specs.declared.Account.{Account}
use Rattle.accounts.specs.Account.{outcome_kinds}
use Rattle.ventilation_device.specs.declared.Entry.{Entry}
use Rattle.ventilation_device.specs.Outcomes.{entry_of}

abbrev pub intervals_of : Air → ℕ
intervals_of a = length a.status

-- interval k
unfoldable pub entry_at : Air → ℕ → Entry
entry_at a k = entry_of (gas_at a.inlet k) (gas_at a.exhaust k) (get_or a.status k 0)

abbrev pub outcome_at : Air → ℕ → ℕ
outcome_at a k = (entry_at a k).outcome

-- rule 19.8: the methane that enters, and that leaves, over the counted intervals
unfoldable pub inlet_of : Air → ℕ
inlet_of a = sum_to (intervals_of a) (λ k. (entry_at a k).inlet)

unfoldable pub exhaust_of : Air → ℕ
exhaust_of a = sum_to (intervals_of a) (λ k. (entry_at a k).exhaust)

-- how many of its intervals have each outcome; rule 19.8: its litres, those destroyed being the difference
unfoldable pub account_of : Air → Account
account_of a =
    record {
      outcomes = build outcome_kinds (count_of (intervals_of a) (outcome_at a));
      methane = inlet_of a;
      destroyed = inlet_of a - exhaust_of a;
      uncombusted = exhaust_of a;
    }

-- what the refusals leave: rows of one length, every reading in range or missing
pub record Right (a : Air) : Type 0 where
  pub few : intervals_of a ≤ intervals_most
  pub long : AirLong a (intervals_of a)
  pub right : AirRight a (intervals_of a)

-- the row and the account that the definitions build
pub record Filled (a : Air) (outcome_row : List ℕ) (given : Account) : Type 0 where
  pub outcome_built : outcome_row ≡ build (intervals_of a) (outcome_at a)
  pub account : given ≡ account_of a
