-- The share that is not burnt, rounded up.
use Prim.Native.Nat.{◌≤◌}
use native.Mathlib.Omega.{arith}
use Rattle.protocol.specs.Kinds.{thousandths_of}
use Rattle.protocol.proofs.KindLaws.{thousandths_most}
use Rattle.balance.proofs.Laws.{share_up}
use Rattle.balance.proofs.uncombusted.Goals as goal

pub thousandths-requires : goal.thousandths-requires
thousandths-requires c = tt

pub overflow_sub-thousandths : goal.overflow_sub-thousandths
overflow_sub-thousandths c = omega (arith, thousandths_most c.args.kind)

pub share-requires : goal.share-requires
share-requires c =
    let m : thousandths_of c.args.kind ≤ 995 = thousandths_most c.args.kind in
    record { q_most = c.requires; thousandths_most = omega arith; more_most = omega arith }

pub returns : goal.returns
returns c =
    share_up c.args.kind c.args.q c.thousandths.result c.share.result
    c.thousandths.ensures c.share.ensures
