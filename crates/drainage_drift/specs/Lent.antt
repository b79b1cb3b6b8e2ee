-- What is lent, as the lists that it holds: a contract speaks of these alone.
-- Assumes nothing.
use Rattle.drainage_drift.specs.declared.Instrument as LentInstrument
use Rattle.drainage_drift.specs.Drift.{Instrument}

abbrev pub instrument_in : LentInstrument.Instrument → Instrument
instrument_in i = record { count = i.count; positions = i.positions.now; drifts = i.drifts.now }
