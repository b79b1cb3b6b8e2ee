-- `drainage_devices::fill_rows` meets its contract: rows, accounts and totals up to device d, one device a turn.
use Rattle.drainage_devices.specs.Devices.{results_with}
use Rattle.drainage_devices.specs.Lent.{lent_in}
use Rattle.drainage_outcomes.specs.Rows.{rows_of}
use Rattle.drainage_devices.proofs.Loop.{Going}
use Rattle.drainage_devices.proofs.fill_rows.Given as goal

abbrev pub invariant-loop-d : goal.invariant-loop-d
invariant-loop-d l =
    Going (lent_in l.lent) l.devices
    (results_with (rows_of l.initial.outcome l.initial.flow l.initial.content) l.initial.accounts)
    (results_with (rows_of l.outcome l.flow l.content) l.accounts) l.t l.d
