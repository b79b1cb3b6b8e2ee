-- The mean of two windows of 16, without squares.
use native.Mathlib.Omega.{arith}
use Rattle.drainage_window.proofs.Pairing.{pair_fits, mean_all, mean_all_most}
use Rattle.drainage_window.proofs.mean_of_32.Goals as goal

pub overflow_add-sum-in-loop-i : goal.overflow_add-sum-in-loop-i
overflow_add-sum-in-loop-i c = record { fits = omega (arith, pair_fits c.loop-i.invariant c.loop-i-test.true) }

pub returns : goal.returns
returns c =
    let e = mean_all c.loop-i.invariant c.loop-i-test.false in
    (e, omega (arith, e, mean_all_most c.loop-i.invariant))
