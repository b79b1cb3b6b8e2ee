-- Rows, accounts and totals up to device d, one device a turn.
use Rattle.std.proofs.Common.{◌∙◌}
use Rattle.accounts.proofs.Adding.{totals_none}
use Rattle.drainage_devices.proofs.Loop.{going_start, going_on, going_room, going_done}
use Rattle.drainage_devices.proofs.fill_rows.Goals as goal

pub loop-d-init : goal.loop-d-init
loop-d-init c = going_start _ _ _ _ c.requires.0 c.requires.1 c.requires.2 (c.none-t.ensures ∙ totals_none _)

pub with-t-requires : goal.with-t-requires
with-t-requires c =
    going_room _ _ _ _ _ _ c.loop-d.invariant c.fill_device-a.result c.loop-d-test.true c.fill_device-a.ensures.account

pub loop-d-preserved : goal.loop-d-preserved
loop-d-preserved c =
    going_on _ _ _ _ _ _ c.loop-d.invariant _ _ c.fill_device-a.result c.loop-d-test.true
    c.fill_device-a.ensures c.store.ensures c.with-t.ensures

pub returns : goal.returns
returns c = going_done _ _ _ _ _ _ c.loop-d.invariant c.loop-d-test.false
