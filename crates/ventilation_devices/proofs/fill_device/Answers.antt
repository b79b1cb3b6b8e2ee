-- Each part of a row is device d's, and fill_row's answer is its own.
use Rattle.ventilation_devices.specs.Devices.{lent_in}
use Rattle.ventilation_devices.proofs.Laws.{row_written}
use Rattle.ventilation_devices.proofs.fill_device.Goals as goal

pub returns : goal.returns
returns c =
    row_written (lent_in c.args.lent.now) c.args.devices c.requires.0 c.args.d c.requires.1 c.args.outcome.now _ _ c.part.ensures c.fill_row.ensures
