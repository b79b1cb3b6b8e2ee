-- The code's test is the condition's, and no product leaves 64 bits.
use Prim.Native.Nat.{◌*◌}
use native.Mathlib.Omega.{arith}
use Rattle.drainage_window.proofs.Laws.{meets_short, meets_enough}
use Rattle.drainage_window.proofs.Fit.{limit_fits, squares_fit, squares_fit_z, sum_fits, sum_fits_z, left_fits, left_fits_n}
use Rattle.drainage_window.proofs.Tally.meets_at.Goals as goal

pub overflow_mul-n : goal.overflow_mul-n
overflow_mul-n c = record { fits = omega (arith, limit_fits c.requires.0 c.args.l c.requires.2) }

pub returns-then-sum-n : goal.returns-then-sum-n
returns-then-sum-n c = meets_short c.args.self c.args.z c.args.l c.if-sum-n.true

pub overflow_mul-left : goal.overflow_mul-left
overflow_mul-left c = record { fits = omega (arith, limit_fits c.requires.0 c.args.l c.requires.2) }

pub overflow_mul-result : goal.overflow_mul-result
overflow_mul-result c = record { fits = omega (arith, squares_fit c.requires.0) }

pub overflow_mul-result-2 : goal.overflow_mul-result-2
overflow_mul-result-2 c = record { fits = omega (arith, squares_fit_z c.requires.0 c.requires.1) }

pub overflow_mul-result-3 : goal.overflow_mul-result-3
overflow_mul-result-3 c = record { fits = omega (arith, sum_fits c.requires.0) }

pub overflow_mul-result-4 : goal.overflow_mul-result-4
overflow_mul-result-4 c = record { fits = omega (arith, sum_fits_z c.requires.0 c.requires.1) }

pub overflow_sub-result : goal.overflow_sub-result
overflow_sub-result c = omega (arith, c.requires.0.some)

pub overflow_mul-result-5 : goal.overflow_mul-result-5
overflow_mul-result-5 c = record { fits = omega (arith, left_fits c.requires.0 (c.args.self.n * c.args.l)) }

pub overflow_mul-result-6 : goal.overflow_mul-result-6
overflow_mul-result-6 c = record { fits = omega (arith, left_fits_n c.requires.0 (c.args.self.n * c.args.l)) }

pub overflow_mul-result-7 : goal.overflow_mul-result-7
overflow_mul-result-7 c = record { fits = omega (arith, left_fits_n c.requires.0 (c.args.self.n * c.args.l)) }

pub overflow_add-result : goal.overflow_add-result
overflow_add-result c = record {
  fits = omega (
    arith,
    sum_fits_z c.requires.0 c.requires.1,
    left_fits_n c.requires.0 (c.args.self.n * c.args.l),
  );
}

pub returns : goal.returns
returns c = meets_enough c.args.self c.args.z c.args.l c.if-sum-n.false
