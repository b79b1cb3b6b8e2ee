-- The records of all devices that are lent, as the lists that they hold: a contract speaks of these alone.
-- Assumes nothing.
use Rattle.columns.specs.Lent.{series_in, checks_in}
use Rattle.drainage_devices.specs.declared.Lent as LentRecords
use Rattle.drainage_devices.specs.Devices.{Lent}

abbrev pub lent_in : LentRecords.Lent → Lent
lent_in l = record { intervals = l.intervals; kinds = l.kinds.now; checks = checks_in l.checks; series = series_in l.series }
