-- The share that is burnt, rounded down.
use Prim.Native.Nat.{◌≤◌}
use native.Mathlib.Omega.{arith}
use Rattle.protocol.specs.Kinds.{thousandths_of}
use Rattle.protocol.proofs.KindLaws.{thousandths_most}
use Rattle.balance.proofs.Laws.{share_down}
use Rattle.balance.proofs.destroyed.Goals as goal

pub thousandths-requires : goal.thousandths-requires
thousandths-requires c = tt

pub share-requires : goal.share-requires
share-requires c =
    let m : thousandths_of c.args.kind ≤ 995 = thousandths_most c.args.kind in
    record { q_most = c.requires; thousandths_most = omega arith; more_most = omega arith }

pub returns : goal.returns
returns c =
    share_down c.args.kind c.args.q c.thousandths.result c.share.result
    c.thousandths.ensures c.share.ensures
