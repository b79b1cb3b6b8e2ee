-- The two windows' sums together.
use native.Mathlib.Omega.{arith}
use Rattle.drainage_window.proofs.Adding.{sums_are, sums_sized}
use Rattle.drainage_window.proofs.Tally.of.Goals as goal

pub overflow_add-result : goal.overflow_add-result
overflow_add-result c = let s = sums_sized c.of_one-a.ensures c.of_one-b.ensures c.requires in record { fits = omega arith }

pub overflow_add-result-2 : goal.overflow_add-result-2
overflow_add-result-2 c = let s = sums_sized c.of_one-a.ensures c.of_one-b.ensures c.requires in record { fits = omega arith }

pub overflow_add-result-3 : goal.overflow_add-result-3
overflow_add-result-3 c = let s = sums_sized c.of_one-a.ensures c.of_one-b.ensures c.requires in record { fits = omega arith }

pub returns : goal.returns
returns c = (
  sums_are c.args.before.now c.args.after.now c.of_one-a.ensures c.of_one-b.ensures,
  sums_sized c.of_one-a.ensures c.of_one-b.ensures c.requires,
)
