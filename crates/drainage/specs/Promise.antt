-- What the quantification of drainage gas promises of every call: the customer's three demands.
-- Assumes nothing.
use Rattle.std.specs.Prelude.{◌+◌, ◌*◌, ◌≡◌, pos, length, get_or, Result, Ok, Err}
use Rattle.refusals.specs.declared.Refusal.{Refusal}
use Rattle.refusals.specs.Table.{told_by}
use Rattle.steps.specs.Step.{Tells}
use Rattle.accounts.specs.Account.{counted}
use Rattle.accounts.specs.Accounted.{outcome_given, Accounted}
use Rattle.drainage_exact.specs.Exact.{Used, exact_reduction, promised}
use Rattle.fractions.specs.Fair.{Fair}
use Rattle.drainage_judge.specs.Call.{Call}
use Rattle.drainage_judge.specs.Order.{judged, steps_of}
use Rattle.figures.specs.declared.Figures.{Figures}
use Rattle.drainage_judge.specs.declared.RowLengths.{RowLengths}
use Rattle.drainage_outcomes.specs.Rows.{Rows}
use Rattle.drainage_devices.specs.Devices.{Results, results_of}
use Rattle.drainage.specs.Sheet.{figures_of, lent_in}

-- Demand 1 (rules 5.2, 5.3 and 16.4): accepted exactly if no step is offended, else refused by the first offended step's first offender
unfoldable pub answer_by : Result Unit Refusal → Call → Result Figures Refusal
answer_by (Ok x) c = Ok (figures_of c)
answer_by (Err r) c = Err r

-- Demand 2 (rules 8.4 and 16.5): the rows and accounts of an accepted call; a refused one leaves every entry (rule 5.5)
unfoldable pub results_by : Result Unit Refusal → Call → Results → Results
results_by (Ok x) c before = results_of (lent_in c) c.devices before
results_by (Err r) c before = before

-- the values used, replacements taken as given (rule 10.1): what stands in the result rows, beside temperature, pressure,
-- kinds and fuel as lent
unfoldable pub used_in : Call → Results → Used
used_in c r =
    record {
      intervals = c.intervals;
      devices = c.devices;
      counted = λ d k. counted (outcome_given r.outcome (d * c.intervals + k));
      flow = λ d k. get_or r.flow (d * c.intervals + k) 0;
      content = λ d k. get_or r.content (d * c.intervals + k) 0;
      temp = λ d k. get_or c.series.temp (d * c.intervals + k) (pos 0);
      press = λ d k. get_or c.series.press (d * c.intervals + k) 0;
      kind = λ d. get_or c.kinds d 0;
      fuels = length c.fuel.quantity;
      quantity = λ k. get_or c.fuel.quantity k 0;
      factor = λ k. get_or c.fuel.factor k 0;
    }

-- how long the lent result rows are
abbrev pub lengths_in : Rows → RowLengths
lengths_in r = record { outcome = length r.outcome; flow = length r.flow; content = length r.content }

-- what quantification promises of every call
pub record Settled (c : Call) (before after : Results) (a : Result Figures Refusal) : Type 0 where
  -- the answer with every figure, and every entry of the rows and accounts, of refused calls too
  pub answer : a ≡ answer_by (judged c) c
  pub results : after ≡ results_by (judged c) c before
  -- told with the number, the device and the place of the first offended step's first offender
  pub told : Tells (steps_of c) (told_by a)
  -- an accepted call's rows, accounts and figures agree with each other
  pub accounted : (f : Figures) → a ≡ Ok f → Accounted c.intervals c.devices after.outcome after.accounts f
  -- Demand 3 (rule 16.6): the tonnes never exceed the exact reduction over the values used (rule 10.3), and fall short of it by
  -- less than 1 tonne, 13 g for each device-interval and 13 g for each device that the sheet counts (rule 10.4)
  pub fair : (f : Figures) → a ≡ Ok f → Fair (exact_reduction (used_in c after)) f.tonnes (promised f.counted f.devices)
