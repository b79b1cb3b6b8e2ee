-- A device's records that are lent, as the lists that they hold: a contract speaks of these alone.
-- Assumes nothing.
use Rattle.columns.specs.Lent.{series_in, checks_in}
use Rattle.drainage_device.specs.declared.Records as LentRecords
use Rattle.drainage_device.specs.Device.{Records}

abbrev pub records_in : LentRecords.Records → Records
records_in r = record { kind = r.kind; series = series_in r.series; checks = checks_in r.checks }
