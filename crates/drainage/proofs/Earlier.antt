-- Every accepted call by what it gives: its tonnes are never lower than the rule before, whole litres of gas first, would
-- have reported of the values that it used.
-- Assumes nothing.
use mathlib.Core.Path.{◌≡◌, refl, sym, subst, subst₂}
use lib.IntN.{ℤ}
use lib.Signed.{◌≤ℤ◌}
use Rattle.std.proofs.Common.{Result, Ok, Err}
use Rattle.refusals.specs.declared.Refusal.{Refusal}
use Rattle.drainage_exact.proofs.Earlier.{earlier_tonnes, tonnes_never_lower}
use Rattle.drainage_devices.specs.Devices.{Results, results_of}
use Rattle.drainage_judge.specs.Call.{Call}
use Rattle.drainage_judge.specs.Order.{judged}
use Rattle.drainage_judge.proofs.Unrefused.{unrefused}
use Rattle.figures.specs.declared.Figures.{Figures}
use Rattle.drainage.specs.Sheet.{lent_in, figures_of}
use Rattle.drainage.specs.Promise.{answer_by, results_by, used_in, Settled}
use Rattle.accounts.proofs.Answers.{same_figures, never}
use Rattle.drainage.proofs.Settling.{possible, tonnes_are}

pub call_never_lower : (c : Call) (before after : Results) (f : Figures) → Settled c before after (Ok f)
    → earlier_tonnes (used_in c after) ≤ℤ f.tonnes
unfolding answer_by results_by
call_never_lower c before after f s = by (judged c) refl s.answer s.results
  where
    by : (v : Result Unit Refusal) → judged c ≡ v → Ok f ≡ answer_by v c → after ≡ results_by v c before → earlier_tonnes (used_in c after) ≤ℤ f.tonnes
    by (Ok x) e q w =
        let made = results_of (lent_in c) c.devices before in
        subst₂ (λ (r : Results) (g : Figures). earlier_tonnes (used_in c r) ≤ℤ g.tonnes) (sym w) (sym (same_figures f (figures_of c) q))
        (subst (λ (t : ℤ). earlier_tonnes (used_in c made) ≤ℤ t) (tonnes_are c before (unrefused c e))
        (tonnes_never_lower (used_in c made) (possible c before (unrefused c e))))
    by (Err r) e q w = never r f (sym q)
