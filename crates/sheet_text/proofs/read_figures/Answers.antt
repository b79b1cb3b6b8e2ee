-- `sheet_text::read_figures` meets its contract: one fact a line, each from the one before. Assumes nothing.
use mathlib.Core.List.{[], ◌∷◌}
use mathlib.Core.Path.{◌≡◌}
use native.Mathlib.Omega.{arith}
use lib.IntN.{pos}
use mir.Syntax.{w64}
use mir.Val.{to_z, of_z}
use Rattle.sheet_text.specs.Sheet.{schema, values_of}
use Rattle.sheet_text.specs.Head.{volumes_of}
use Rattle.sheet_text.proofs.Steps.{line_step, line_refused, given_on, read_past, read_all, signed_back}
use Rattle.sheet_text.proofs.read_figures.Goals as goal

pub returns-in_err-baseline_mg : goal.returns-in_err-baseline_mg
unfolding schema
returns-in_err-baseline_mg c =
    let f8 = c.in_ok-v.ensures in
    given_on _ c.from_residual-in_err-baseline_mg.result c.from_residual-in_err-baseline_mg.ensures.1 (line_refused 8 (omega arith) f8 c.in_err-baseline_mg.ensures)

pub returns-in_err-co2_mg : goal.returns-in_err-co2_mg
unfolding schema
returns-in_err-co2_mg c =
    let f8 = c.in_ok-v.ensures in
    let f9 = line_step 8 (omega arith) f8 c.in_ok-baseline_mg.ensures in
    given_on _ c.from_residual-in_err-co2_mg.result c.from_residual-in_err-co2_mg.ensures.1 (line_refused 9 (omega arith) f9 c.in_err-co2_mg.ensures)

pub returns-in_err-uncombusted_mg : goal.returns-in_err-uncombusted_mg
unfolding schema
returns-in_err-uncombusted_mg c =
    let f8 = c.in_ok-v.ensures in
    let f9 = line_step 8 (omega arith) f8 c.in_ok-baseline_mg.ensures in
    let f10 = line_step 9 (omega arith) f9 c.in_ok-co2_mg.ensures in
    given_on _ c.from_residual-in_err-uncombusted_mg.result c.from_residual-in_err-uncombusted_mg.ensures.1 (line_refused 10 (omega arith) f10 c.in_err-uncombusted_mg.ensures)

pub returns-in_err-fuel_mg : goal.returns-in_err-fuel_mg
unfolding schema
returns-in_err-fuel_mg c =
    let f8 = c.in_ok-v.ensures in
    let f9 = line_step 8 (omega arith) f8 c.in_ok-baseline_mg.ensures in
    let f10 = line_step 9 (omega arith) f9 c.in_ok-co2_mg.ensures in
    let f11 = line_step 10 (omega arith) f10 c.in_ok-uncombusted_mg.ensures in
    given_on _ c.from_residual-in_err-fuel_mg.result c.from_residual-in_err-fuel_mg.ensures.1 (line_refused 11 (omega arith) f11 c.in_err-fuel_mg.ensures)

pub returns-in_err-reduction_mg : goal.returns-in_err-reduction_mg
unfolding schema
returns-in_err-reduction_mg c =
    let f8 = c.in_ok-v.ensures in
    let f9 = line_step 8 (omega arith) f8 c.in_ok-baseline_mg.ensures in
    let f10 = line_step 9 (omega arith) f9 c.in_ok-co2_mg.ensures in
    let f11 = line_step 10 (omega arith) f10 c.in_ok-uncombusted_mg.ensures in
    let f12 = line_step 11 (omega arith) f11 c.in_ok-fuel_mg.ensures in
    given_on _ c.from_residual-in_err-reduction_mg.result c.from_residual-in_err-reduction_mg.ensures.1 (line_refused 12 (omega arith) f12 c.in_err-reduction_mg.ensures)

pub returns-in_err-tonnes : goal.returns-in_err-tonnes
unfolding schema
returns-in_err-tonnes c =
    let f8 = c.in_ok-v.ensures in
    let f9 = line_step 8 (omega arith) f8 c.in_ok-baseline_mg.ensures in
    let f10 = line_step 9 (omega arith) f9 c.in_ok-co2_mg.ensures in
    let f11 = line_step 10 (omega arith) f10 c.in_ok-uncombusted_mg.ensures in
    let f12 = line_step 11 (omega arith) f11 c.in_ok-fuel_mg.ensures in
    let f13 = line_step 12 (omega arith) f12 c.in_ok-reduction_mg.ensures in
    given_on _ c.from_residual-in_err-tonnes.result c.from_residual-in_err-tonnes.ensures.1 (line_refused 13 (omega arith) f13 c.in_err-tonnes.ensures)

pub returns-in_err-credits : goal.returns-in_err-credits
unfolding schema
returns-in_err-credits c =
    let f8 = c.in_ok-v.ensures in
    let f9 = line_step 8 (omega arith) f8 c.in_ok-baseline_mg.ensures in
    let f10 = line_step 9 (omega arith) f9 c.in_ok-co2_mg.ensures in
    let f11 = line_step 10 (omega arith) f10 c.in_ok-uncombusted_mg.ensures in
    let f12 = line_step 11 (omega arith) f11 c.in_ok-fuel_mg.ensures in
    let f13 = line_step 12 (omega arith) f12 c.in_ok-reduction_mg.ensures in
    let f14 = line_step 13 (omega arith) f13 c.in_ok-tonnes.ensures in
    given_on _ c.from_residual-in_err-credits.result c.from_residual-in_err-credits.ensures.1 (line_refused 14 (omega arith) f14 c.in_err-credits.ensures)

pub returns-then-p15-t : goal.returns-then-p15-t
unfolding schema
returns-then-p15-t c =
    let f8 = c.in_ok-v.ensures in
    let f9 = line_step 8 (omega arith) f8 c.in_ok-baseline_mg.ensures in
    let f10 = line_step 9 (omega arith) f9 c.in_ok-co2_mg.ensures in
    let f11 = line_step 10 (omega arith) f10 c.in_ok-uncombusted_mg.ensures in
    let f12 = line_step 11 (omega arith) f11 c.in_ok-fuel_mg.ensures in
    let f13 = line_step 12 (omega arith) f12 c.in_ok-reduction_mg.ensures in
    let f14 = line_step 13 (omega arith) f13 c.in_ok-tonnes.ensures in
    let f15 = line_step 14 (omega arith) f14 c.in_ok-credits.ensures in
    read_past f15 c.if-p15-t.true

pub returns : goal.returns
unfolding schema values_of volumes_of
returns c =
    let f8 = c.in_ok-v.ensures in
    let f9 = line_step 8 (omega arith) f8 c.in_ok-baseline_mg.ensures in
    let f10 = line_step 9 (omega arith) f9 c.in_ok-co2_mg.ensures in
    let f11 = line_step 10 (omega arith) f10 c.in_ok-uncombusted_mg.ensures in
    let f12 = line_step 11 (omega arith) f11 c.in_ok-fuel_mg.ensures in
    let f13 = line_step 12 (omega arith) f12 c.in_ok-reduction_mg.ensures in
    let f14 = line_step 13 (omega arith) f13 c.in_ok-tonnes.ensures in
    let f15 = line_step 14 (omega arith) f14 c.in_ok-credits.ensures in
    let z13 = c.in_ok-reduction_mg.reduction_mg in
    let z14 = c.in_ok-tonnes.«tonnes» in
    let back13 : to_z w64 (of_z w64 z13) ≡ z13 = signed_back z13 c.in_ok-reduction_mg.ensures.taken in
    let back14 : to_z w64 (of_z w64 z14) ≡ z14 = signed_back z14 c.in_ok-tonnes.ensures.taken in
    let v = c.in_ok-v.v in
    read_all f15 c.if-p15-t.false
    (record {
      «intervals» = v.«intervals»;
      «devices» = v.«devices»;
      «counted» = v.«counted»;
      «replaced» = v.«replaced»;
      «excluded» = v.«excluded»;
      methane_l = v.methane_l;
      destroyed_l = v.destroyed_l;
      uncombusted_l = v.uncombusted_l;
      baseline_mg = c.in_ok-baseline_mg.baseline_mg;
      co2_mg = c.in_ok-co2_mg.co2_mg;
      uncombusted_mg = c.in_ok-uncombusted_mg.uncombusted_mg;
      fuel_mg = c.in_ok-fuel_mg.fuel_mg;
      reduction_mg = to_z w64 (of_z w64 z13);
      «tonnes» = to_z w64 (of_z w64 z14);
      «credits» = c.in_ok-credits.«credits»;
    })
    (λ i. pos v.«intervals» ∷ pos v.«devices» ∷ pos v.«counted» ∷ pos v.«replaced» ∷ pos v.«excluded» ∷ pos v.methane_l ∷ pos v.destroyed_l ∷
    pos v.uncombusted_l ∷ pos c.in_ok-baseline_mg.baseline_mg ∷ pos c.in_ok-co2_mg.co2_mg ∷ pos c.in_ok-uncombusted_mg.uncombusted_mg ∷
    pos c.in_ok-fuel_mg.fuel_mg ∷ back13 i ∷ back14 i ∷ pos c.in_ok-credits.«credits» ∷ [])
