-- What the quantification of ventilation air promises of every call: the customer's three demands.
-- Assumes nothing.
use Rattle.std.specs.Prelude.{◌+◌, ◌*◌, ◌≡◌, length, get_or, Result, Ok, Err}
use Rattle.refusals.specs.declared.Refusal.{Refusal}
use Rattle.refusals.specs.Table.{told_by}
use Rattle.columns.specs.Streams.{gas_at}
use Rattle.steps.specs.Step.{Tells}
use Rattle.fractions.specs.Fair.{Fair}
use Rattle.figures.specs.declared.Figures.{Figures}
use Rattle.accounts.specs.Account.{counted}
use Rattle.accounts.specs.Accounted.{outcome_given, Accounted}
use Rattle.ventilation_exact.specs.Exact.{Used, exact_reduction, promised}
use Rattle.ventilation_judge.specs.Call.{Call}
use Rattle.ventilation_judge.specs.Order.{judged, steps_of}
use Rattle.ventilation_devices.specs.Devices.{Results, results_of}
use Rattle.ventilation.specs.Sheet.{figures_of, lent_in}

-- Demand 1 (rule 19.6): accepted exactly if no step is offended, else refused by the first offended step's first offender
unfoldable pub answer_by : Result Unit Refusal → Call → Result Figures Refusal
answer_by (Ok clean) c = Ok (figures_of c)
answer_by (Err r) c = Err r

-- Demand 2 (rules 19.7 and 19.8): the row and the accounts of an accepted call; a refused one leaves every entry
unfoldable pub results_by : Result Unit Refusal → Call → Results → Results
results_by (Ok clean) c before = results_of (lent_in c) c.devices before
results_by (Err r) c before = before

-- the readings used (rule 19.11): those lent, of the intervals that the given row counts
unfoldable pub used_in : Call → Results → Used
used_in c r =
    record {
      intervals = c.intervals;
      devices = c.devices;
      counted = λ d k. counted (outcome_given r.outcome (d * c.intervals + k));
      inlet = λ d k. gas_at c.air.inlet (d * c.intervals + k);
      exhaust = λ d k. gas_at c.air.exhaust (d * c.intervals + k);
      fuels = length c.fuel.quantity;
      quantity = λ k. get_or c.fuel.quantity k 0;
      factor = λ k. get_or c.fuel.factor k 0;
    }

-- what is promised of every call
pub record Settled (c : Call) (before after : Results) (a : Result Figures Refusal) : Type 0 where
  -- the answer with every figure, and every entry of the row and the accounts, of refused calls too
  pub answer : a ≡ answer_by (judged c) c
  pub results : after ≡ results_by (judged c) c before
  -- told with the number, the device and the place of the first offended step's first offender
  pub told : Tells (steps_of c) (told_by a)
  -- an accepted call's row, accounts and figures agree with each other; inlet is destroyed and exhaust, of each device and of the
  -- sheet (rule 19.8)
  pub accounted : (f : Figures) → a ≡ Ok f → Accounted c.intervals c.devices after.outcome after.accounts f
  -- nothing is replaced (rule 19.7)
  pub none_replaced : (f : Figures) → a ≡ Ok f → f.replaced ≡ 0
  -- Demand 3 (rule 19.11): the tonnes never exceed the exact reduction over the readings used, and fall short of it by less than 1
  -- tonne and 25 g for each device-interval that the sheet counts
  pub fair : (f : Figures) → a ≡ Ok f → Fair (exact_reduction (used_in c after)) f.tonnes (promised f.counted)
