-- `drift::stretch` meets its contract. The loop's invariant: the row is written from start up to i, one store a turn.
-- Assumes nothing.
use borrow.Author.Rules.{rules}
use Prim.Native.Nat.{ℕ, ◌-◌}
use mathlib.Core.Path.{◌≡◌, ◌∙◌, subst}
use native.Mathlib.Omega.{arith}
use Rattle.drainage_drift.specs.Drift.{kept_or}
use Rattle.drainage_drift.proofs.Laws.{kept_copied, kept_marks, kept_divides}
use Rattle.drainage_drift.proofs.Walk.{stored, undivided}
use Rattle.rows.specs.Rows.{Continued}
use Rattle.drainage_drift.proofs.stretch.Goals as goal
use Rattle.drainage_drift.proofs.stretch.Goals.{then-v, else-v}

pub loop-k-preserved : goal.loop-k-preserved
loop-k-preserved c = (
  search rules,
  search rules,
  stored _ c.loop-k.k _ (kept_or 0 c.args.reading.now) _ c.loop-k.used (omega arith) (omega arith)
      (kept_copied c.args.reading.now c.loop-k.k (omega arith)) c.loop-k.invariant.2,
)

pub returns-then-divisor-eq-FULL : goal.returns-then-divisor-eq-FULL
returns-then-divisor-eq-FULL c =
    undivided c.args.divisor c.args.reading.now c.if-divisor-eq-FULL.true
    (subst (λ (m : ℕ). Continued c.args.start m (kept_or 0 c.args.reading.now) c.args.used.now c.loop-k.used)
    (let w : c.loop-k.k ≡ c.args.end = omega arith in w) c.loop-k.invariant.2)

pub loop-i-preserved : goal.loop-i-preserved
loop-i-preserved c = (
  search rules,
  search rules,
  search rules,
  stored _ c.loop-i.i _ (kept_or (c.args.divisor - 10000) c.args.reading.now) _
      c.loop-i.used (omega arith) (omega arith)
      (elim c.if-v.branch [
        | then-v w ↦ w.used-is ∙ kept_marks c.args.divisor c.args.reading.now c.loop-i.i (omega arith) w.if-v.true
        | else-v w ↦
            w.used-is ∙ w.scaled.ensures ∙ kept_divides c.args.divisor c.args.reading.now c.loop-i.i (omega arith) (omega arith) w.if-v.false
      ])
      c.loop-i.invariant.3,
)
