-- What is lent to quantification, whole: the contracts above speak of one call.
-- Assumes nothing.
use Rattle.std.specs.Prelude.{ℕ, List}
use Rattle.columns.specs.Series.{Series, Checks, Fuel}
use Rattle.columns.specs.Lent.{series_in, checks_in, fuel_in}
use Rattle.drainage_judge.specs.declared.Call as LentCall
use Rattle.drainage_judge.specs.declared.RowLengths.{RowLengths}

-- rules 3.1 to 3.12: N, D and the mine; each device's kind; the checks, the five series and the fuel lines; and how long the
-- three lent result rows are, for no refusal looks at their entries
pub record Call : Type 0 where
  pub intervals : ℕ
  pub devices : ℕ
  pub mine : ℕ
  pub kinds : List ℕ
  pub checks : Checks
  pub series : Series
  pub fuel : Fuel
  pub outcome_length : ℕ
  pub flow_row_length : ℕ
  pub content_row_length : ℕ

-- that of what the code is lent
abbrev pub call_in : LentCall.Call → RowLengths → Call
call_in c rows =
    record {
      intervals = c.intervals;
      devices = c.devices;
      mine = c.mine;
      kinds = c.kinds.now;
      checks = checks_in c.checks;
      series = series_in c.series;
      fuel = fuel_in c.fuel;
      outcome_length = rows.outcome;
      flow_row_length = rows.flow;
      content_row_length = rows.content;
    }
