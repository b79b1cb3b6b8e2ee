-- The sheet's figures of drainage gas (rule 11.3).
-- Assumes nothing.
use Rattle.std.specs.Prelude.{ℕ}
use Rattle.drainage_judge.specs.Call.{Call}
use Rattle.figures.specs.declared.Figures.{Figures}
use Rattle.accounts.specs.Sheet.{fuel_sum, figures_from}
use Rattle.drainage_devices.specs.Devices.{Lent}
use Rattle.drainage_devices.specs.Totals.{totals_of}

-- the part of a call that the devices' rows are worked out from
abbrev pub lent_in : Call → Lent
lent_in c = record { intervals = c.intervals; kinds = c.kinds; checks = c.checks; series = c.series }

abbrev pub fuel_in : Call → ℕ
fuel_in c = fuel_sum c.fuel

-- rule 11.3: the figures of an accepted call
unfoldable pub figures_of : Call → Figures
figures_of c = figures_from c.intervals c.devices (totals_of (lent_in c) c.devices) (fuel_in c)
