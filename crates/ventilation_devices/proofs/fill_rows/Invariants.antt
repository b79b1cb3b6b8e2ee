-- Row, accounts and totals up to device d, one device a turn.
use Rattle.ventilation_devices.specs.Devices.{lent_in}
use Rattle.ventilation_devices.proofs.Loop.{Going}
use Rattle.ventilation_devices.proofs.fill_rows.Given as goal

abbrev pub invariant-loop-d : goal.invariant-loop-d
invariant-loop-d l =
    Going (lent_in l.lent) l.devices (record { outcome = l.initial.outcome; accounts = l.initial.accounts })
    (record { outcome = l.outcome; accounts = l.accounts }) l.t l.d
