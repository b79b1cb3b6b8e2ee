-- The sheet's figures of ventilation air (rule 19.10): the lines of drainage gas, from the oxidisers' accounts.
-- Assumes nothing.
use Rattle.std.specs.Prelude.{ℕ}
use Rattle.figures.specs.declared.Figures.{Figures}
use Rattle.accounts.specs.Totals.{totals_over}
use Rattle.accounts.specs.Sheet.{fuel_sum, figures_from}
use Rattle.ventilation_judge.specs.Call.{Call}
use Rattle.ventilation_devices.specs.Devices.{Lent, account_in}

-- the part of a call that the devices' rows are worked out from
abbrev pub lent_in : Call → Lent
lent_in c = record { intervals = c.intervals; air = c.air }

abbrev pub fuel_in : Call → ℕ
fuel_in c = fuel_sum c.fuel

-- rule 19.10: the figures of an accepted call
unfoldable pub figures_of : Call → Figures
figures_of c = figures_from c.intervals c.devices (totals_over c.devices (account_in (lent_in c))) (fuel_in c)
