-- From the verdict, the rows and the totals to what the call promises.
-- Assumes nothing.
use Rattle.std.proofs.Common.{Result, Ok, Err}
use Prim.Native.Nat.{ℕ, ◌+◌, ◌*◌, ◌≤◌, ◌<◌}
use mathlib.Core.Path.{◌≡◌, refl, sym, ap, ap₂, ◌∙◌, subst, subst₂}
use mathlib.Core.Bool.{true}
use native.Mathlib.Omega.{arith}
use lib.IntN.{ℤ, pos}
use lib.ListN.{get_or}
use Rattle.rows.specs.Rows.{pick, sum_to}
use Rattle.rows.proofs.Laws.{get_or-join, get_or-build, length-build, get_or-cut}
use Rattle.rows.proofs.Sums.{sum_to_ext}
use Rattle.protocol.specs.Ranges.{kelvin_of, content_most}
use Rattle.volume.specs.Volume.{methane_litres}
use Rattle.balance.specs.Balance.{baseline_all, carbon_dioxide_all, uncombusted_all, reduction_all, Moderate}
use Rattle.accounts.specs.declared.Totals.{Totals}
use Rattle.accounts.specs.Account.{counted}
use Rattle.accounts.specs.Totals.{counted_in, totals_over}
use Rattle.accounts.specs.Sheet.{fuel_sum, figures_from}
use Rattle.accounts.specs.Accounted.{outcome_given, Accounted}
use Rattle.accounts.proofs.Adding.{moderate}
use Rattle.accounts.proofs.Answers.{same_figures, never}
use Rattle.accounts.proofs.Given.{counted_in_lem, accounted}
use Rattle.drainage_exact.specs.Exact.{Possible, exact_reduction, promised, reported_q, reported_tonnes}
use Rattle.fractions.specs.Fair.{Fair}
use Rattle.drainage_exact.proofs.Demand3.{counted_of, counted_all, reported_of, demand_3_of}
use Rattle.drainage_outcomes.specs.Outcomes.{litres_for}
use Rattle.drainage_device.specs.Device.{intervals_of, outcome_at, flow_used_at, content_used_at, litres_at, methane_of, account_of}
use Rattle.drainage_device.proofs.Laws.{counted_inside}
use Rattle.drainage_devices.specs.Devices.{records_of, account_in, Results, results_of, outcome_part, flow_part, content_part}
use Rattle.drainage_devices.specs.Totals.{kind_in, litres_in, totals_of, AllWritten}
use Rattle.drainage_devices.proofs.Laws.{row_long, modest, counts}
use Rattle.drainage_judge.specs.Call.{Call}
use Rattle.refusals.specs.declared.Refusal.{Refusal}
use Rattle.refusals.specs.Table.{told_by}
use Rattle.steps.specs.Step.{Tells}
use Rattle.drainage_judge.specs.Order.{judged, steps_of}
use Rattle.drainage_judge.proofs.Laws.{judged_clean, judged_refused}
use Rattle.drainage_judge.proofs.Unrefused.{Unrefused, unrefused}
use Rattle.figures.specs.declared.Figures.{Figures}
use Rattle.drainage.specs.Sheet.{lent_in, fuel_in, figures_of}
use Rattle.drainage.specs.Promise.{answer_by, results_by, used_in, Settled}
use Rattle.drainage.proofs.Sound.{sound}

same_litres : {o o' f f' g g' p p' : ℕ} {t t' : ℤ} → o ≡ o' → f ≡ f' → g ≡ g' → t ≡ t' → p ≡ p'
    → pick (counted o) (methane_litres f g t p) 0 ≡ pick (counted o') (methane_litres f' g' t' p') 0
same_litres a b c d e i = pick (counted (a i)) (methane_litres (b i) (c i) (d i) (e i)) 0

-- ---- an entry of the joined rows

module _ (c : Call) (before : Results) (x : Unrefused c) where
  abbrev after : Results
  after = results_of (lent_in c) c.devices before

  module _ (d k : ℕ) (h : d < c.devices) (l : k < c.intervals) where
    outcome_at_lem : get_or after.outcome (d * c.intervals + k) 0 ≡ outcome_at (records_of (lent_in c) d) k
    unfolding results_of outcome_part
    outcome_at_lem =
        get_or-join c.intervals c.devices (outcome_part (lent_in c)) 0 (λ j z. length-build c.intervals (outcome_at (records_of (lent_in c) j))) d k h l
        ∙ get_or-build c.intervals (outcome_at (records_of (lent_in c) d)) k 0 l

    flow_at_lem : get_or after.flow (d * c.intervals + k) 0 ≡ flow_used_at (records_of (lent_in c) d) k
    unfolding results_of flow_part
    flow_at_lem =
        get_or-join c.intervals c.devices (flow_part (lent_in c)) 0 (λ j z. length-build c.intervals (flow_used_at (records_of (lent_in c) j))) d k h l
        ∙ get_or-build c.intervals (flow_used_at (records_of (lent_in c) d)) k 0 l

    content_at : get_or after.content (d * c.intervals + k) 0 ≡ content_used_at (records_of (lent_in c) d) k
    unfolding results_of content_part
    content_at =
        get_or-join c.intervals c.devices (content_part (lent_in c)) 0 (λ j z. length-build c.intervals (content_used_at (records_of (lent_in c) j))) d k h l
        ∙ get_or-build c.intervals (content_used_at (records_of (lent_in c) d)) k 0 l

    temp_at : get_or c.series.temp (d * c.intervals + k) (pos 0) ≡ get_or (records_of (lent_in c) d).series.temp k (pos 0)
    unfolding records_of
    temp_at = sym (get_or-cut c.series.temp (d * c.intervals) (d * c.intervals + c.intervals) k (pos 0) (omega arith))

    press_at : get_or c.series.press (d * c.intervals + k) 0 ≡ get_or (records_of (lent_in c) d).series.press k 0
    unfolding records_of
    press_at = sym (get_or-cut c.series.press (d * c.intervals) (d * c.intervals + c.intervals) k 0 (omega arith))

  -- ---- demand 3

  row_whole : (d : ℕ) → d < c.devices → intervals_of (records_of (lent_in c) d) ≡ c.intervals
  row_whole d h = row_long (lent_in c) c.devices (sound c x) d h

  inside_at : (d k : ℕ) → d < c.devices → k < c.intervals → counted (get_or after.outcome (d * c.intervals + k) 0) ≡ true
      → (0 < kelvin_of (get_or c.series.temp (d * c.intervals + k) (pos 0))) × (get_or after.content (d * c.intervals + k) 0 ≤ content_most)
  inside_at d k h l e =
      let y = counted_inside (records_of (lent_in c) d) ((sound c x).right d h) k (subst (λ (m : ℕ). k < m) (sym (row_whole d h)) l)
      (ap counted (sym (outcome_at_lem d k h l)) ∙ e) in (
        subst (λ (t : ℤ). 0 < kelvin_of t) (sym (temp_at d k h l)) (let z = y.0.kelvin_least in omega arith),
        subst (λ (v : ℕ). v ≤ content_most) (sym (content_at d k h l)) y.1,
      )

  pub possible : Possible (used_in c after)
  unfolding used_in
  possible = record { warm = λ d k h l e. (inside_at d k h l e).0; content_within = λ d k h l e. (inside_at d k h l e).1 }

  litres_at_lem : (d : ℕ) → d < c.devices → reported_q (used_in c after) d ≡ litres_in (lent_in c) d
  unfolding reported_q used_in litres_in methane_of litres_at litres_for
  litres_at_lem d h =
      sum_to_ext c.intervals
      (λ k. pick (counted (get_or after.outcome (d * c.intervals + k) 0))
      (methane_litres (get_or after.flow (d * c.intervals + k) 0) (get_or after.content (d * c.intervals + k) 0)
      (get_or c.series.temp (d * c.intervals + k) (pos 0)) (get_or c.series.press (d * c.intervals + k) 0)) 0)
      (litres_at (records_of (lent_in c) d))
      (λ k l. same_litres (outcome_at_lem d k h l) (flow_at_lem d k h l) (content_at d k h l) (temp_at d k h l) (press_at d k h l))
      ∙ ap (λ (n : ℕ). sum_to n (litres_at (records_of (lent_in c) d))) (sym (row_whole d h))

  -- ---- the tonnes

  counted_all_lem : counted_all (used_in c after) ≡ (figures_of c).counted
  unfolding counted_all counted_of used_in figures_of figures_from totals_over results_of outcome_part
  counted_all_lem =
      sym (sum_to_ext c.devices (λ d. counted_in (account_in (lent_in c) d))
      (λ d. sum_to c.intervals (λ k. pick (counted (outcome_given after.outcome (d * c.intervals + k))) 1 0))
      (counted_in_lem c.intervals c.devices (λ d. outcome_at (records_of (lent_in c) d)) (account_in (lent_in c)) (counts (lent_in c) c.devices (sound c x))))

  pub tonnes_are : reported_tonnes (used_in c after) ≡ (figures_of c).tonnes
  unfolding used_in fuel_sum figures_of figures_from totals_over account_of litres_in records_of reduction_all baseline_all carbon_dioxide_all uncombusted_all
  tonnes_are = reported_of (used_in c after) (kind_in (lent_in c)) (litres_in (lent_in c)) (λ d h. refl) litres_at_lem

  fair_call : Fair (exact_reduction (used_in c after)) (figures_of c).tonnes (promised (figures_of c).counted (figures_of c).devices)
  unfolding used_in fuel_sum figures_of figures_from totals_over account_of litres_in records_of reduction_all baseline_all carbon_dioxide_all uncombusted_all
  fair_call =
      demand_3_of (used_in c after) possible (kind_in (lent_in c)) (litres_in (lent_in c)) (figures_of c).counted (λ d h. refl) litres_at_lem counted_all_lem

  -- ---- the rows, the accounts and the sheet

  accounted_call : Accounted c.intervals c.devices after.outcome after.accounts (figures_of c)
  unfolding figures_of results_of outcome_part
  accounted_call =
      accounted c.intervals c.devices (λ d. outcome_at (records_of (lent_in c) d)) (account_in (lent_in c)) (counts (lent_in c) c.devices (sound c x))
      (fuel_in c) before.accounts

-- ---- the call

-- what is told of the answer, through the definition that gives it
told_by_lem : (c : Call) (a : Result Figures Refusal) → a ≡ answer_by (judged c) c → Tells (steps_of c) (told_by a)
unfolding answer_by
told_by_lem c a e =
    record {
      clear = λ x. ap told_by (e ∙ ap (λ (v : Result Unit Refusal). answer_by v c) (judged_clean c x));
      offended = λ r x. ap told_by (e ∙ ap (λ (v : Result Unit Refusal). answer_by v c) (judged_refused c r x));
    }

-- refused: the answer is the refusal and nothing has changed
pub settled_refused : (c : Call) (before : Results) (r : Refusal) → judged c ≡ Err r → Settled c before before (Err r)
unfolding answer_by results_by
settled_refused c before r e =
    record {
      answer = sym (ap (λ (v : Result Unit Refusal). answer_by v c) e);
      results = sym (ap (λ (v : Result Unit Refusal). results_by v c before) e);
      told = told_by_lem c (Err r) (sym (ap (λ (v : Result Unit Refusal). answer_by v c) e));
      accounted = λ f q. never r f q;
      fair = λ f q. never r f q;
    }

-- accepted: the figures, rows and accounts that the definitions give, and what holds of them
pub settled_accepted : (c : Call) (before after : Results) → judged c ≡ Ok tt → after ≡ results_of (lent_in c) c.devices before
    → Settled c before after (Ok (figures_of c))
unfolding answer_by results_by
settled_accepted c before now e w =
    record {
      answer = sym (ap (λ (v : Result Unit Refusal). answer_by v c) e);
      results = w ∙ sym (ap (λ (v : Result Unit Refusal). results_by v c before) e);
      told = told_by_lem c (Ok (figures_of c)) (sym (ap (λ (v : Result Unit Refusal). answer_by v c) e));
      accounted = λ f q.
          subst₂ (λ (s : Results) (g : Figures). Accounted c.intervals c.devices s.outcome s.accounts g) (sym w)
          (same_figures (figures_of c) f q) (accounted_call c before (unrefused c e));
      fair = λ f q.
          subst₂ (λ (s : Results) (g : Figures). Fair (exact_reduction (used_in c s)) g.tonnes (promised g.counted g.devices)) (sym w)
          (same_figures (figures_of c) f q) (fair_call c before (unrefused c e));
    }

-- Of every call: whoever shows that answer and results are those of the definitions has the whole promise, demand 3 with it.
pub settled_call : (c : Call) (before : Results) → Settled c before (results_by (judged c) c before) (answer_by (judged c) c)
unfolding answer_by results_by
settled_call c before = by (judged c) refl
  where
    by : (v : Result Unit Refusal) → judged c ≡ v → Settled c before (results_by v c before) (answer_by v c)
    by (Ok x) e = settled_accepted c before (results_of (lent_in c) c.devices before) e refl
    by (Err r) e = settled_refused c before r e

pub settled_made : (c : Call) (before after : Results) (t : Totals) (f : Figures) → judged c ≡ Ok tt
    → AllWritten (lent_in c) c.devices before after t → f ≡ figures_of c → Settled c before after (Ok f)
settled_made c before after t f e w q =
    subst (λ (g : Figures). Settled c before after (Ok g)) (sym q) (settled_accepted c before after e w.results)

-- rule 16.3: any two results that the promise permits are equal, in answer, rows and accounts
pub settled_unique : (c : Call) (before one two : Results) (a b : Result Figures Refusal) → Settled c before one a → Settled c before two b → (a ≡ b) × (one ≡ two)
settled_unique c before one two a b x y = (x.answer ∙ sym y.answer, x.results ∙ sym y.results)

-- the sums fit
pub moderate_call : (c : Call) → Unrefused c → (t : Totals) (fuel : ℕ) → t ≡ totals_of (lent_in c) c.devices → fuel ≤ 256000000000000000
    → Moderate t.baseline_mg (t.co2_mg + t.uncombusted_mg + fuel)
moderate_call c x t fuel e l =
    subst (λ (s : Totals). Moderate s.baseline_mg (s.co2_mg + s.uncombusted_mg + fuel)) (sym e)
    (moderate c.devices (account_in (lent_in c)) x.shape.devices_within (modest (lent_in c) c.devices (sound c x)) fuel l)

-- the sheet of the totals and the fuel is the call's
pub sheet_is : (c : Call) (t : Totals) (fuel : ℕ) (f : Figures) → f ≡ figures_from c.intervals c.devices t fuel
    → t ≡ totals_of (lent_in c) c.devices → fuel ≡ fuel_in c → f ≡ figures_of c
unfolding figures_of
sheet_is c t fuel f e p q = e ∙ ap₂ (figures_from c.intervals c.devices) p q
