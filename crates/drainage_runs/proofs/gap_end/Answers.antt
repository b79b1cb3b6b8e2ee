-- The first measured entry after a gap, or the row's end.
use mathlib.Core.Path.{◌≡◌, sym, ap, ◌∙◌}
use native.Mathlib.Omega.{arith}
use native.Mathlib.Numerals.{add-one}
use native.Mathlib.Nat.{le_refl}
use lib.ListN.{length}
use Rattle.drainage_runs.specs.Runs.{gap_end}
use Rattle.drainage_runs.proofs.Laws.{end_on, end_here, end_out, missing_is, measured_is}
use Rattle.drainage_runs.proofs.gap_end.Goals as goal

pub returns-then-reading-i : goal.returns-then-reading-i
returns-then-reading-i c =
    let row = c.args.reading.now in
    (sym (c.loop-i.invariant ∙ end_here row _ (measured_is row _ c.loop-i-test.true c.if-reading-i.true)), omega arith, omega arith)

pub loop-i-preserved : goal.loop-i-preserved
loop-i-preserved c =
    let row = c.args.reading.now in let h = c.loop-i-test.true in
    c.loop-i.invariant ∙ end_on row _ h (missing_is row _ h c.if-reading-i.false) ∙ ap (gap_end row) (sym (add-one _))

pub returns : goal.returns
returns c =
    let row = c.args.reading.now in
    let e : c.loop-i.i ≡ length row = omega arith in
    (sym (c.loop-i.invariant ∙ end_out row _ c.loop-i-test.false ∙ e), c.requires, le_refl _)
