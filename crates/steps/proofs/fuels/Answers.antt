-- The first wrong fuel line, their count first.
use Rattle.std.proofs.Common.{ℕ, ◌+◌, sym, ap, ◌∙◌, true, false, arith, lt-ltb, le-ltb, Err}
use Rattle.refusals.specs.declared.Refusal.TheVariants.{Fuel}
use Rattle.rows.proofs.Scan.{passed_none, passed_more, passed_found, passed_all}
use Rattle.protocol.specs.Ranges.{fuels_most}
use Rattle.steps.proofs.Tests.{fuel_count, fuel_line, place_more}
use Rattle.steps.specs.Steps.{fuels_step}
use Rattle.steps.proofs.Verdicts.{stops, goes, end_clean}
use Rattle.steps.proofs.fuels.Goals as goal

pub returns-then-fuel-gt-FUELS : goal.returns-then-fuel-gt-FUELS
unfolding fuels_step
returns-then-fuel-gt-FUELS c =
    sym (stops _ _ 0 (passed_found _ _ 0 (passed_none _ _) (fuel_count _ true (lt-ltb _ _ c.if-fuel-gt-FUELS.true))) (omega arith))

pub loop-line-init : goal.loop-line-init
loop-line-init c =
    passed_more _ _ 0 (passed_none _ _) (omega arith) (fuel_count _ false (le-ltb _ _ c.if-fuel-gt-FUELS.false))

pub returns-then-wrong_line : goal.returns-then-wrong_line
unfolding fuels_step
returns-then-wrong_line c =
    sym (stops _ _ _ (passed_found _ _ _ c.loop-line.invariant (fuel_line _ _ true (sym c.if-wrong_line.true ∙ c.wrong_line.ensures)))
    (omega (arith, c.loop-line-test.true)) ∙ ap (λ (p : ℕ). Err (Fuel p)) (place_more fuels_most (c.loop-line.line + 1) _ (omega arith)))

pub loop-line-preserved : goal.loop-line-preserved
loop-line-preserved c =
    passed_more _ _ _ c.loop-line.invariant (omega (arith, c.loop-line-test.true))
    (fuel_line _ _ false (sym c.if-wrong_line.false ∙ c.wrong_line.ensures))

pub returns : goal.returns
unfolding fuels_step
returns c =
    let h = c.loop-line-test.false in
    sym (goes _ _ _ (passed_all _ _ _ c.loop-line.invariant (omega arith)) (omega arith) ∙ end_clean)
