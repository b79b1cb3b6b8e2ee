-- The product and the sum fit 64 bits.
use Prim.Native.Nat.{◌*◌, ◌≤◌}
use native.Mathlib.Omega.{arith}
use Rattle.balance.proofs.Laws.{thousand_times}
use Rattle.balance.proofs.share.Goals as goal

product : (c : goal.Start) → c.args.q * c.args.thousandths ≤ 784806655680000
product c = thousand_times c.args.q c.args.thousandths c.requires.q_most c.requires.thousandths_most

pub overflow_mul-result : goal.overflow_mul-result
overflow_mul-result c = omega (arith, product c)

pub overflow_add-result : goal.overflow_add-result
overflow_add-result c = omega (arith, product c, c.requires.more_most)

pub returns : goal.returns
returns c = omega arith
