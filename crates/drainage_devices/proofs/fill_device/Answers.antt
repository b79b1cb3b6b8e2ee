-- Each part of a row is device d's, and fill_row's answer is its own.
use Rattle.std.proofs.Common.{rules}
use Rattle.drainage_outcomes.specs.Rows.{rows_of}
use Rattle.drainage_devices.specs.Devices.{records_of}
use Rattle.drainage_devices.specs.Lent.{lent_in}
use Rattle.drainage_devices.proofs.Laws.{parts_right, rows_written}
use Rattle.drainage_devices.proofs.fill_device.Goals as goal

pub fill_row-requires : goal.fill_row-requires
unfolding records_of
fill_row-requires c =
    parts_right (lent_in c.args.lent.now) c.args.devices c.requires.0 c.args.d c.requires.1
    (rows_of c.args.outcome.now c.args.flow.now c.args.content.now) _
    (λ i. record { kind = (records_of (lent_in c.args.lent.now) c.args.d).kind; series = c.part.ensures i; checks = c.part-2.ensures i })
    _ (search rules) c.requires.2

pub returns : goal.returns
unfolding records_of
returns c =
    rows_written (lent_in c.args.lent.now) c.args.devices c.requires.0 c.args.d c.requires.1
    (rows_of c.args.outcome.now c.args.flow.now c.args.content.now) _
    (λ i. record { kind = (records_of (lent_in c.args.lent.now) c.args.d).kind; series = c.part.ensures i; checks = c.part-2.ensures i })
    (rows_of c.split_at_mut-outcome.result.0.now c.split_at_mut-flow.result.0.now c.split_at_mut-content.result.0.now) _
    (rows_of c.split_at_mut-outcome-2.result.1.now c.split_at_mut-flow-2.result.1.now c.split_at_mut-content-2.result.1.now)
    c.fill_row.result (search rules) (search rules) c.fill_row.ensures
