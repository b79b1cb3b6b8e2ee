-- Refused before anything is written; else the row, the accounts and the sheet of the definitions.
use mathlib.Core.Path.{◌≡◌, sym, ◌∙◌, subst}
use lib.ListN.{length}
use Rattle.std.proofs.Common.{Ok, Err, rules}
use Rattle.ventilation_judge.specs.Call.{call_in}
use Rattle.ventilation_judge.specs.Order.{judged}
use Rattle.ventilation_judge.proofs.Unrefused.{unrefused}
use Rattle.ventilation.specs.Promise.{Settled}
use Rattle.ventilation.proofs.Settling.{sound, settled_refused, settled_made, moderate_call, sheet_is}
use Rattle.ventilation.proofs.quantify.Goals as goal
use Rattle.ventilation.proofs.quantify.Goals.{In_ok-judge}

clean : (c : In_ok-judge) → judged (call_in c.args.call.now (length c.args.outcome.now)) ≡ Ok tt
clean c = sym c.judge.ensures.verdict ∙ c.in_ok-judge.was

pub returns-in_err-judge : goal.returns-in_err-judge
returns-in_err-judge c =
    let k = call_in c.args.call.now (length c.args.outcome.now) in
    let r = c.in_err-judge.field-0.0 in
    let e : c.from_residual.result ≡ Err r = search rules in
    subst (Settled k _ _) (sym e) (settled_refused k _ r (sym c.judge.ensures.verdict ∙ c.in_err-judge.was))

pub fill_rows-t-requires : goal.fill_rows-t-requires
fill_rows-t-requires c =
    let k = call_in c.args.call.now (length c.args.outcome.now) in
    let x = unrefused k (clean (goal.at.fill_rows-t-requires c).In_ok-judge) in
    (sound k x, x.outcome_long, search rules)

pub fuel-f-requires : goal.fuel-f-requires
fuel-f-requires c = (unrefused _ (clean (goal.at.fuel-f-requires c).In_ok-judge)).burnable

pub sheet-requires : goal.sheet-requires
sheet-requires c =
    moderate_call _ (unrefused _ (clean (goal.at.sheet-requires c).In_ok-judge)) _ _ c.fill_rows-t.ensures.totals c.fuel-f.ensures.1

pub returns : goal.returns
returns c =
    let w = c.fill_rows-t.ensures in
    settled_made _ _ _ _ _ (clean (goal.at.returns c).In_ok-judge) w (sheet_is _ _ _ _ c.sheet.ensures w.totals c.fuel-f.ensures.0)
