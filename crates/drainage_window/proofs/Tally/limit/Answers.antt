-- The search by halving gives the limit.
use mathlib.Core.Path.{sym, ◌∙◌}
use native.Mathlib.Omega.{arith}
use Rattle.drainage_window.proofs.Laws.{mean_most}
use Rattle.drainage_window.proofs.Halving.{between_start, between_up, between_down, between_end}
use Rattle.drainage_window.proofs.Tally.limit.Goals as goal

pub overflow_add-high : goal.overflow_add-high
overflow_add-high c = record { fits = omega (arith, mean_most c.args.self 30000 c.requires.0.sum_most, c.mean-high.ensures) }

pub loop-low-init : goal.loop-low-init
loop-low-init c = between_start c.requires.0 c.requires.1 c.mean-high.ensures

pub loop-low-preserved-then-meets_at : goal.loop-low-preserved-then-meets_at
loop-low-preserved-then-meets_at c = between_up c.loop-low.invariant c.loop-low-test.true (sym c.meets_at.ensures ∙ c.if-meets_at.true)

pub loop-low-preserved : goal.loop-low-preserved
loop-low-preserved c = between_down c.loop-low.invariant c.loop-low-test.true (sym c.meets_at.ensures ∙ c.if-meets_at.false)

pub returns : goal.returns
returns c = between_end c.loop-low.invariant c.loop-low-test.false
