-- A series' row is corrected for drift, and then its gaps are filled.
use Rattle.std.proofs.Common.{ℕ, List, length, sym, ap, ◌∙◌, subst}
use Rattle.rows.specs.Rows.{build}
use Rattle.protocol.specs.Ranges.{flow_most}
use Rattle.drainage_gaps.specs.Private.{filled_at, Goes}
use Rattle.drainage_device.proofs.Laws.{corrected_goes}
use Rattle.drainage_device.proofs.fill_series.Goals as goal

pub fill_gaps-requires : goal.fill_gaps-requires
fill_gaps-requires c = (
  c.requires.2,
  subst (λ (xs : List ℕ). Goes c.args.reading.now xs flow_most) (sym c.correct.ensures)
      (corrected_goes _ c.args.reading.now flow_most c.requires.3),
)

pub returns : goal.returns
returns c = c.fill_gaps.ensures ∙ ap (λ (xs : List ℕ). build (length c.args.reading.now)
    (filled_at c.args.reading.now xs)) c.correct.ensures
