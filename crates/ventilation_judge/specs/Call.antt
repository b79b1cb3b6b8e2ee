-- What is lent to the quantification of ventilation air, whole: the contracts above speak of one call.
-- Assumes nothing.
use Rattle.std.specs.Prelude.{ℕ}
use Rattle.columns.specs.Series.{Fuel}
use Rattle.columns.specs.Streams.{Air}
use Rattle.columns.specs.Lent.{air_in, fuel_in}
use Rattle.ventilation_judge.specs.declared.Call as LentCall

-- rules 19.1 and 19.4: N and D, the nine series and the fuel lines; and how long the lent result row is, for no refusal looks at
-- its entries
pub record Call : Type 0 where
  pub intervals : ℕ
  pub devices : ℕ
  pub air : Air
  pub fuel : Fuel
  pub outcome_length : ℕ

-- that of what the code is lent
abbrev pub call_in : LentCall.Call → ℕ → Call
call_in c outcome_row =
    record {
      intervals = c.intervals;
      devices = c.devices;
      air = air_in c.air;
      fuel = fuel_in c.fuel;
      outcome_length = outcome_row;
    }
