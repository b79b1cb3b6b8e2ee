-- The call that a record makes, and what comes of it.
-- Assumes nothing.
use Rattle.std.specs.Prelude.{ℕ, ◌*◌, ◌≤◌, ◌≡◌, List, ◌++◌, min, length, take, drop, replicate, Result}
use Rattle.refusals.specs.declared.Refusal.{Refusal}
use Rattle.protocol.specs.Ranges.{intervals_most, devices_most}
use Rattle.columns.specs.Series.{FuelRoom, ChecksRoom, Room, series_take, checks_take, fuel_take}
use Rattle.drainage_judge.specs.Call.{Call}
use Rattle.drainage_judge.specs.Order.{judged}
use Rattle.accounts.specs.Account.{account_size}
use Rattle.drainage_devices.specs.Devices.{Results}
use Rattle.drainage.specs.Promise.{answer_by, results_by}
use Rattle.figures.specs.declared.Figures.{Figures}
use Rattle.drainage_outcomes.specs.Rows.{Rows as ResultRows}
use Rattle.drainage_record_form.specs.Rows.{Rows}
use Rattle.drainage_record.specs.declared.Header.{Header}

-- A result row's part that is lent to quantification: as long as N and D ask, or the whole row where it is shorter.
abbrev pub part_of : ℕ → List ℕ → ℕ
part_of m row = min (length row) m

-- the accounts are the job's own, zeros beforehand
abbrev pub parts_of : ℕ → ResultRows → Results
parts_of m r =
    record {
      outcome = take (part_of m r.outcome) r.outcome;
      flow = take (part_of m r.flow) r.flow;
      content = take (part_of m r.content) r.content;
      accounts = replicate (devices_most * account_size) 0;
    }

-- what is left in the result rows, of parts that quantification has left so
abbrev pub put_back : ℕ → ResultRows → Results → ResultRows
put_back m r parts =
    record {
      outcome = parts.outcome ++ drop (part_of m r.outcome) r.outcome;
      flow = parts.flow ++ drop (part_of m r.flow) r.flow;
      content = parts.content ++ drop (part_of m r.content) r.content;
    }

-- A record's call: its head's numbers and the first entries of each row, as many as N, D and the fuel lines ask.
unfoldable pub call_of : Header → Rows → ResultRows → Call
call_of h r results =
    let d : ℕ = h.devices in
    let m : ℕ = d * h.intervals in
    record {
      intervals = h.intervals;
      devices = d;
      mine = h.mine;
      kinds = take d r.kinds;
      checks = checks_take d r.checks;
      series = series_take m r.series;
      fuel = fuel_take h.fuels r.fuel;
      outcome_length = part_of m results.outcome;
      flow_row_length = part_of m results.flow;
      content_row_length = part_of m results.content;
    }

-- The answer to that call, what it leaves in what it was lent, and the whole rows.
unfoldable pub answer_to : Header → Rows → ResultRows → Result Figures Refusal
answer_to h r results = answer_by (judged (call_of h r results)) (call_of h r results)

unfoldable pub parts_after : Header → Rows → ResultRows → Results
parts_after h r results = results_by (judged (call_of h r results)) (call_of h r results) (parts_of (h.devices * h.intervals) results)

abbrev pub results_after : Header → Rows → ResultRows → ResultRows
results_after h r results = put_back (h.devices * h.intervals) results (parts_after h r results)

-- The rows hold as many entries as the head asks for.
pub record Roomy (h : Header) (r : Rows) : Type 0 where
  pub few : h.intervals ≤ intervals_most
  pub few_devices : h.devices ≤ devices_most
  pub fuel : FuelRoom r.fuel h.fuels
  pub kinds_room : h.devices ≤ length r.kinds
  pub checks : ChecksRoom r.checks h.devices
  pub series : Room r.series (h.devices * h.intervals)

pub record Quantified (h : Header) (r : Rows) (before after : ResultRows) (a : Result Figures Refusal) : Type 0 where
  pub answer : a ≡ answer_to h r before
  pub results : after ≡ results_after h r before
