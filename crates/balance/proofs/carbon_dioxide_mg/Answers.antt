-- The product fits 64 bits, and its quarter is rounded up.
use Rattle.balance.specs.Balance.{carbon_dioxide_mg}
use native.Mathlib.Omega.{arith}
use Rattle.balance.proofs.carbon_dioxide_mg.Goals as goal

pub overflow_mul-result : goal.overflow_mul-result
overflow_mul-result c = omega arith

pub overflow_mul-result-2 : goal.overflow_mul-result-2
overflow_mul-result-2 c = omega arith

pub overflow_sub-result : goal.overflow_sub-result
overflow_sub-result c = omega arith

pub overflow_add-result : goal.overflow_add-result
overflow_add-result c = omega arith

pub returns : goal.returns
unfolding carbon_dioxide_mg
returns c = omega arith
