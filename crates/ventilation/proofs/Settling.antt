-- From the verdict, the row and the totals to what the call promises.
-- Assumes nothing.
use Prim.Native.Nat.{ℕ, ◌+◌, ◌*◌, ◌≤◌, ◌<◌}
use mathlib.Core.Path.{◌≡◌, refl, sym, ap, ap₂, ◌∙◌, subst, subst₂}
use mathlib.Core.Bool.{true, false}
use native.Mathlib.Omega.{arith}
use lib.ListN.{get_or}
use Rattle.rows.specs.Rows.{pick, sum_to}
use Rattle.rows.proofs.Laws.{room}
use Rattle.rows.proofs.Sums.{sum_to_ext, sum_to_zero}
use Rattle.std.proofs.Common.{Result, Ok, Err}
use Rattle.refusals.specs.declared.Refusal.{Refusal}
use Rattle.refusals.specs.Table.{told_by}
use Rattle.columns.specs.Streams.{Gas, gas_at, gas_right, gas_missing}
use Rattle.columns.proofs.StreamLaws.{stream_part_at}
use Rattle.balance.specs.Balance.{Moderate}
use Rattle.steps.specs.Step.{Tells}
use Rattle.steps.proofs.Verdicts.{verdict_tells}
use Rattle.fractions.specs.Fair.{Fair}
use Rattle.figures.specs.declared.Figures.{Figures}
use Rattle.accounts.specs.declared.Totals.{Totals}
use Rattle.accounts.specs.Account.{counted}
use Rattle.accounts.specs.Totals.{counted_in, replaced_in, totals_over}
use Rattle.accounts.specs.Sheet.{fuel_sum, figures_from}
use Rattle.accounts.specs.Accounted.{outcome_given, Accounted}
use Rattle.accounts.proofs.Adding.{moderate}
use Rattle.accounts.proofs.Answers.{same_figures, never}
use Rattle.accounts.proofs.Given.{outcome_at_lem, counted_in_lem, accounted}
use Rattle.ventilation_exact.specs.Exact.{Possible, AllPossible, exact_reduction, promised, reported_inlet, reported_exhaust, tonnes_with}
use Rattle.ventilation_exact.proofs.Demand3.{counted_of, counted_all, demand_3_of}
use Rattle.ventilation_judge.specs.Call.{Call}
use Rattle.ventilation_judge.specs.Order.{judged, steps_of}
use Rattle.ventilation_judge.proofs.Unrefused.{Unrefused, unrefused}
use Rattle.ventilation_device.specs.Outcomes.{inlet_litres, exhaust_litres, entry_of}
use Rattle.ventilation_device.specs.Device.{entry_at, outcome_at, inlet_of, exhaust_of, account_of}
use Rattle.ventilation_device.proofs.Outcomes.{gas_inside, counted_so_far}
use Rattle.ventilation_devices.specs.Devices.{air_in, account_in, Results, results_of, outcome_part, Sound, AllWritten}
use Rattle.ventilation_devices.proofs.Laws.{row_long, right, left_in, modest, counts, account_replaced}
use Rattle.ventilation.specs.Sheet.{lent_in, fuel_in, figures_of}
use Rattle.ventilation.specs.Promise.{answer_by, results_by, used_in, Settled}

-- what a clean verdict gives the devices' rows
pub sound : (c : Call) → Unrefused c → Sound (lent_in c) c.devices
sound c x =
    record { few = x.shape.intervals_within; few_devices = x.shape.devices_within; long = x.shape.long; right = x.right }

module _ (c : Call) (before : Results) (x : Unrefused c) where
  abbrev after : Results
  after = results_of (lent_in c) c.devices before

  module _ (d k : ℕ) (h : d < c.devices) (l : k < c.intervals) where
    outcome_here : get_or after.outcome (d * c.intervals + k) 0 ≡ outcome_at (air_in (lent_in c) d) k
    unfolding results_of outcome_part
    outcome_here =
        outcome_at_lem c.intervals c.devices (λ e. outcome_at (air_in (lent_in c) e)) (account_in (lent_in c)) (counts (lent_in c) c.devices (sound c x)) d k h l

    inlet_here : gas_at (air_in (lent_in c) d).inlet k ≡ gas_at c.air.inlet (d * c.intervals + k)
    inlet_here = stream_part_at c.air.inlet c.intervals d k l

    exhaust_here : gas_at (air_in (lent_in c) d).exhaust k ≡ gas_at c.air.exhaust (d * c.intervals + k)
    exhaust_here = stream_part_at c.air.exhaust c.intervals d k l

    -- what a counted interval is, of the readings as lent
    counted_here : counted (outcome_given after.outcome (d * c.intervals + k)) ≡ true
        → (gas_missing (gas_at c.air.inlet (d * c.intervals + k)) ≡ false) × (gas_missing (gas_at c.air.exhaust (d * c.intervals + k)) ≡ false)
    unfolding entry_at
    counted_here e =
        let z = counted_so_far (gas_at (air_in (lent_in c) d).inlet k) (gas_at (air_in (lent_in c) d).exhaust k) (get_or (air_in (lent_in c) d).status k 0)
        (ap counted (sym outcome_here) ∙ e) in
        (ap gas_missing (sym inlet_here) ∙ z.0, ap gas_missing (sym exhaust_here) ∙ z.1)

  possible_gas : (g : Gas) → gas_right g ≡ true → gas_missing g ≡ false → Possible g
  possible_gas g r m = let i = gas_inside g r m in record { warm = omega (arith, i.0.kelvin_least); ppm_within = i.1 }

  cell : (d k : ℕ) → d < c.devices → k < c.intervals → d * c.intervals + k < c.devices * c.intervals
  cell d k h l = let w : d * c.intervals + c.intervals ≤ c.devices * c.intervals = room c.intervals d c.devices h in omega arith

  possible : AllPossible (used_in c after)
  unfolding used_in
  possible =
      record {
        inlet = λ d k h l e. possible_gas (gas_at c.air.inlet (d * c.intervals + k)) (x.right.inlet (d * c.intervals + k) (cell d k h l)) (counted_here d k h l e).0;
        exhaust = λ d k h l e.
            possible_gas (gas_at c.air.exhaust (d * c.intervals + k)) (x.right.exhaust (d * c.intervals + k) (cell d k h l)) (counted_here d k h l e).1;
      }

  -- ---- the litres

  inlet_at : (d : ℕ) → d < c.devices → reported_inlet (used_in c after) d ≡ inlet_of (air_in (lent_in c) d)
  unfolding reported_inlet used_in inlet_of entry_at entry_of
  inlet_at d h =
      sum_to_ext c.intervals
      (λ k. pick (counted (outcome_given after.outcome (d * c.intervals + k))) (inlet_litres (gas_at c.air.inlet (d * c.intervals + k))) 0)
      (λ k. (entry_at (air_in (lent_in c) d) k).inlet)
      (λ k l i. pick (counted (outcome_here d k h l i)) (inlet_litres (sym (inlet_here d k h l) i)) 0)
      ∙ ap (λ (n : ℕ). sum_to n (λ k. (entry_at (air_in (lent_in c) d) k).inlet)) (sym (row_long (lent_in c) c.devices (sound c x) d h))

  exhaust_at : (d : ℕ) → d < c.devices → reported_exhaust (used_in c after) d ≡ exhaust_of (air_in (lent_in c) d)
  unfolding reported_exhaust used_in exhaust_of entry_at entry_of
  exhaust_at d h =
      sum_to_ext c.intervals
      (λ k. pick (counted (outcome_given after.outcome (d * c.intervals + k))) (exhaust_litres (gas_at c.air.exhaust (d * c.intervals + k))) 0)
      (λ k. (entry_at (air_in (lent_in c) d) k).exhaust)
      (λ k l i. pick (counted (outcome_here d k h l i)) (exhaust_litres (sym (exhaust_here d k h l) i)) 0)
      ∙ ap (λ (n : ℕ). sum_to n (λ k. (entry_at (air_in (lent_in c) d) k).exhaust)) (sym (row_long (lent_in c) c.devices (sound c x) d h))

  -- ---- the tonnes

  counted_all_lem : counted_all (used_in c after) ≡ (figures_of c).counted
  unfolding counted_all counted_of used_in figures_of figures_from totals_over results_of outcome_part
  counted_all_lem =
      sym (sum_to_ext c.devices (λ d. counted_in (account_in (lent_in c) d))
      (λ d. sum_to c.intervals (λ k. pick (counted (outcome_given after.outcome (d * c.intervals + k))) 1 0))
      (counted_in_lem c.intervals c.devices (λ d. outcome_at (air_in (lent_in c) d)) (account_in (lent_in c)) (counts (lent_in c) c.devices (sound c x))))

  fair_call : Fair (exact_reduction (used_in c after)) (figures_of c).tonnes (promised (figures_of c).counted)
  unfolding used_in fuel_sum figures_of figures_from totals_over account_of tonnes_with
  fair_call =
      demand_3_of (used_in c after) possible (λ d. inlet_of (air_in (lent_in c) d)) (λ d. exhaust_of (air_in (lent_in c) d)) (figures_of c).counted inlet_at exhaust_at
      (λ d h. left_in (air_in (lent_in c) d) (right (lent_in c) c.devices (sound c x) d h)) counted_all_lem

  -- ---- the row, the accounts and the sheet

  accounted_call : Accounted c.intervals c.devices after.outcome after.accounts (figures_of c)
  unfolding figures_of results_of outcome_part
  accounted_call =
      accounted c.intervals c.devices (λ d. outcome_at (air_in (lent_in c) d)) (account_in (lent_in c)) (counts (lent_in c) c.devices (sound c x))
      (fuel_in c) before.accounts

  none_replaced_call : (figures_of c).replaced ≡ 0
  unfolding figures_of figures_from totals_over
  none_replaced_call =
      sum_to_ext c.devices (λ d. replaced_in (account_in (lent_in c) d)) (λ d. 0) (λ d h. account_replaced (air_in (lent_in c) d)) ∙ sum_to_zero c.devices

-- ---- the call

-- the sheet changes nothing of what is told
told_by_lem : (c : Call) (a : Result Figures Refusal) → a ≡ answer_by (judged c) c → Tells (steps_of c) (told_by a)
unfolding answer_by judged
told_by_lem c a e = subst (Tells (steps_of c)) (sym (same (judged c)) ∙ sym (ap told_by e)) (verdict_tells (steps_of c) (judged c) refl)
  where
    same : (v : Result Unit Refusal) → told_by (answer_by v c) ≡ told_by v
    same (Ok clean) = refl
    same (Err r) = refl

-- refused: the answer is the refusal and nothing has changed
pub settled_refused : (c : Call) (before : Results) (r : Refusal) → judged c ≡ Err r → Settled c before before (Err r)
unfolding answer_by results_by
settled_refused c before r e =
    record {
      answer = sym (ap (λ (v : Result Unit Refusal). answer_by v c) e);
      results = sym (ap (λ (v : Result Unit Refusal). results_by v c before) e);
      told = told_by_lem c (Err r) (sym (ap (λ (v : Result Unit Refusal). answer_by v c) e));
      accounted = λ f q. never r f q;
      none_replaced = λ f q. never r f q;
      fair = λ f q. never r f q;
    }

-- accepted: the figures, the row and the accounts that the definitions give, and what holds of them
pub settled_accepted : (c : Call) (before after : Results) → judged c ≡ Ok tt → after ≡ results_of (lent_in c) c.devices before
    → Settled c before after (Ok (figures_of c))
unfolding answer_by results_by
settled_accepted c before now e w =
    record {
      answer = sym (ap (λ (v : Result Unit Refusal). answer_by v c) e);
      results = w ∙ sym (ap (λ (v : Result Unit Refusal). results_by v c before) e);
      told = told_by_lem c (Ok (figures_of c)) (sym (ap (λ (v : Result Unit Refusal). answer_by v c) e));
      accounted = λ f q.
          subst₂ (λ (s : Results) (g : Figures). Accounted c.intervals c.devices s.outcome s.accounts g) (sym w)
          (same_figures (figures_of c) f q) (accounted_call c before (unrefused c e));
      none_replaced = λ f q. subst (λ (g : Figures). g.replaced ≡ 0) (same_figures (figures_of c) f q) (none_replaced_call c before (unrefused c e));
      fair = λ f q.
          subst₂ (λ (s : Results) (g : Figures). Fair (exact_reduction (used_in c s)) g.tonnes (promised g.counted)) (sym w)
          (same_figures (figures_of c) f q) (fair_call c before (unrefused c e));
    }

-- of every call: whoever shows that answer and results are those of the definitions has the whole promise, demand 3 with it
pub settled_call : (c : Call) (before : Results) → Settled c before (results_by (judged c) c before) (answer_by (judged c) c)
unfolding answer_by results_by
settled_call c before = by (judged c) refl
  where
    by : (v : Result Unit Refusal) → judged c ≡ v → Settled c before (results_by v c before) (answer_by v c)
    by (Ok tt) e = settled_accepted c before (results_of (lent_in c) c.devices before) e refl
    by (Err r) e = settled_refused c before r e

pub settled_made : (c : Call) (before after : Results) (t : Totals) (f : Figures) → judged c ≡ Ok tt
    → AllWritten (lent_in c) c.devices before after t → f ≡ figures_of c → Settled c before after (Ok f)
settled_made c before after t f e w q =
    subst (λ (g : Figures). Settled c before after (Ok g)) (sym q) (settled_accepted c before after e w.results)

-- any two results that the promise permits are equal, in answer, row and accounts
pub settled_unique : (c : Call) (before one two : Results) (a b : Result Figures Refusal) → Settled c before one a → Settled c before two b → (a ≡ b) × (one ≡ two)
settled_unique c before one two a b x y = (x.answer ∙ sym y.answer, x.results ∙ sym y.results)

-- the sums fit
pub moderate_call : (c : Call) → Unrefused c → (t : Totals) (fuel : ℕ) → t ≡ totals_over c.devices (account_in (lent_in c)) → fuel ≤ 256000000000000000
    → Moderate t.baseline_mg (t.co2_mg + t.uncombusted_mg + fuel)
moderate_call c x t fuel e l =
    subst (λ (s : Totals). Moderate s.baseline_mg (s.co2_mg + s.uncombusted_mg + fuel)) (sym e)
    (moderate c.devices (account_in (lent_in c)) x.shape.devices_within (modest (lent_in c) c.devices (sound c x)) fuel l)

-- the sheet of the totals and the fuel is the call's
pub sheet_is : (c : Call) (t : Totals) (fuel : ℕ) (f : Figures) → f ≡ figures_from c.intervals c.devices t fuel
    → t ≡ totals_over c.devices (account_in (lent_in c)) → fuel ≡ fuel_in c → f ≡ figures_of c
unfolding figures_of
sheet_is c t fuel f e p q = e ∙ ap₂ (figures_from c.intervals c.devices) p q
