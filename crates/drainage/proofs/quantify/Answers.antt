-- `drainage::quantify` meets its contract: refused with nothing changed, or accepted with what the definitions give.
use Rattle.std.proofs.Common.{rules, sym, ◌∙◌, subst}
use Rattle.drainage_judge.proofs.Unrefused.{unrefused}
use Rattle.drainage.specs.Promise.{Settled}
use Rattle.drainage.proofs.Sound.{sound}
use Rattle.drainage.proofs.Settling.{settled_made, settled_refused, moderate_call, sheet_is}
use Rattle.drainage.proofs.quantify.Goals as goal

pub returns-in_err-judge : goal.returns-in_err-judge
returns-in_err-judge c =
    subst (Settled _ _ _) (sym (search rules)) (settled_refused _ _ c.in_err-judge.field-0.0 (sym c.judge.ensures.verdict ∙ c.in_err-judge.was))

pub fill_rows-totals-requires : goal.fill_rows-totals-requires
fill_rows-totals-requires c =
    let x = unrefused _ (sym c.judge.ensures.verdict ∙ c.in_ok-judge.was) in
    (sound _ x, record { outcome = x.outcome_long; flow = x.flow_row_long; content = x.content_row_long }, search rules)

pub fuel-fuel-requires : goal.fuel-fuel-requires
fuel-fuel-requires c = (unrefused _ (sym c.judge.ensures.verdict ∙ c.in_ok-judge.was)).burnable

pub sheet-requires : goal.sheet-requires
sheet-requires c =
    moderate_call _ (unrefused _ (sym c.judge.ensures.verdict ∙ c.in_ok-judge.was)) _ _ c.fill_rows-totals.ensures.totals
    c.fuel-fuel.ensures.1

pub returns : goal.returns
returns c =
    let w = c.fill_rows-totals.ensures in
    settled_made _ _ _ c.fill_rows-totals.result c.sheet.result (sym c.judge.ensures.verdict ∙ c.in_ok-judge.was) w
    (sheet_is _ c.fill_rows-totals.result c.fuel-fuel.result c.sheet.result c.sheet.ensures w.totals c.fuel-fuel.ensures.0)
