-- Both series, then the last pass: a device's rows and its account.
use Rattle.std.proofs.Common.{◌∙◌, sym, arith}
use Rattle.protocol.specs.Ranges.{flow_most, content_most}
use Rattle.drainage_outcomes.specs.Rows.{Rows, rows_of}
use Rattle.drainage_device.specs.Device.{Records}
use Rattle.drainage_device.specs.Lent.{records_in}
use Rattle.drainage_device.proofs.Laws.{flow_low, content_low, low_weaken, Filling, ready_held, sums_held, filled_held}
use Rattle.drainage_device.proofs.fill_row.Goals as goal

pub fill_series-requires : goal.fill_series-requires
fill_series-requires c =
    let r : Records = records_in c.args.records.now in (
      rw c.instrument.ensures (c.requires.0.ordered 0 (omega arith)),
      c.requires.1.flow,
      c.requires.0.few,
      flow_low r c.requires.0,
    )

pub fill_series-requires-2 : goal.fill_series-requires-2
fill_series-requires-2 c =
    let r : Records = records_in c.args.records.now in (
      rw (c.instrument-2.ensures, c.requires.0.long.content) (c.requires.0.ordered 1 (omega arith)),
      c.requires.1.content ∙ sym c.requires.0.long.content,
      rw c.requires.0.long.content c.requires.0.few,
      low_weaken _ content_most flow_most (omega arith) (content_low r c.requires.0),
    )

pub finish-methane-requires : goal.finish-methane-requires
finish-methane-requires c =
    let r : Records = records_in c.args.records.now in
    let b : Rows = rows_of c.args.rows.outcome.now c.fill_series.new.used c.fill_series-2.new.used in
    let y : Filling r b =
    record {
      flow_filled = rw c.instrument.ensures at c.fill_series.ensures;
      content_filled = rw c.instrument-2.ensures at c.fill_series-2.ensures;
    } in
    (ready_held r c.requires.0 b y, c.requires.1.outcome)

pub destroyed-requires : goal.destroyed-requires
destroyed-requires c =
    let r : Records = records_in c.args.records.now in
    let b : Rows = rows_of c.args.rows.outcome.now c.fill_series.new.used c.fill_series-2.new.used in
    let y : Filling r b =
    record {
      flow_filled = rw c.instrument.ensures at c.fill_series.ensures;
      content_filled = rw c.instrument-2.ensures at c.fill_series-2.ensures;
    } in
    sums_held r c.requires.0 b y _ c.finish-methane.result c.finish-methane.ensures

pub uncombusted-requires : goal.uncombusted-requires
uncombusted-requires c =
    let r : Records = records_in c.args.records.now in
    let b : Rows = rows_of c.args.rows.outcome.now c.fill_series.new.used c.fill_series-2.new.used in
    let y : Filling r b =
    record {
      flow_filled = rw c.instrument.ensures at c.fill_series.ensures;
      content_filled = rw c.instrument-2.ensures at c.fill_series-2.ensures;
    } in
    sums_held r c.requires.0 b y _ c.finish-methane.result c.finish-methane.ensures

pub returns : goal.returns
returns c =
    let r : Records = records_in c.args.records.now in
    let b : Rows = rows_of c.args.rows.outcome.now c.fill_series.new.used c.fill_series-2.new.used in
    let y : Filling r b =
    record {
      flow_filled = rw c.instrument.ensures at c.fill_series.ensures;
      content_filled = rw c.instrument-2.ensures at c.fill_series-2.ensures;
    } in
    filled_held r c.requires.0 b y _ c.finish-methane.result c.finish-methane.ensures
    c.destroyed.result c.uncombusted.result c.destroyed.ensures.0 c.uncombusted.ensures.0
