-- The sum over fuel lines, within 64 bits.
use native.Mathlib.Omega.{arith}
use Rattle.columns.specs.Lent.{fuel_in}
use Rattle.accounts.proofs.Burning.{line_most, sum_room, burnt}
use Rattle.accounts.proofs.fuel.Goals as goal

pub overflow_add-sum : goal.overflow_add-sum
overflow_add-sum c =
    omega (
      arith,
      line_most (fuel_in c.args.fuel.now) c.requires c.loop-i.i c.loop-i-test.true,
      sum_room _ _ _ c.loop-i.invariant,
    )

pub returns : goal.returns
returns c = burnt _ _ _ c.loop-i.invariant c.loop-i-test.false
