-- Count, sum and sum of squares of one window.
use native.Mathlib.Omega.{arith}
use Rattle.drainage_window.proofs.Adding.{adding_all, sum_fits, squares_fit}
use Rattle.drainage_window.proofs.Tally.of_one.Goals as goal

pub overflow_add-sum : goal.overflow_add-sum
overflow_add-sum c = record { fits = omega (arith, sum_fits c.loop-value.invariant c.loop-value-test.true) }

pub overflow_add-squares : goal.overflow_add-squares
overflow_add-squares c = record { fits = omega (arith, squares_fit c.loop-value.invariant c.loop-value-test.true) }

pub returns : goal.returns
returns c = adding_all c.loop-value.invariant c.loop-value-test.false
