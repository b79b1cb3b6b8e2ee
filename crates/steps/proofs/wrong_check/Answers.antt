-- A check's three tests, in the order of the definition.
use Rattle.std.proofs.Common.{sym, ◌∙◌, ◌≡◌, true, false, pos, get_or, rules, arith, le-ltb, ◌+◌, ◌*◌}
use Rattle.protocol.specs.Ranges.{drift_right, checks_most}
use Rattle.steps.proofs.Tests.{check_far, check_drift, check_first, check_next}
use Rattle.steps.proofs.wrong_check.Goals as goal
use Rattle.steps.proofs.wrong_check.Goals.{then-intervals-position-via-then-intervals-position, then-intervals-position-via-else-intervals-position+then-not-drift_right}

pub returns-then-intervals-position : goal.returns-then-intervals-position
returns-then-intervals-position c =
    elim c.then-intervals-position.branch [
      | then-intervals-position-via-then-intervals-position w ↦ sym (check_far _ _ _ _ _ w.if-intervals-position.true)
      | then-intervals-position-via-else-intervals-position+then-not-drift_right w ↦
          let e : drift_right (get_or c.args.checks.now.drifts.now (checks_most * c.args.g + c.args.j) (pos 0)) ≡ false = search rules in
          sym (check_drift _ _ _ _ _ e)
    ]

pub returns-then-j-gt0 : goal.returns-then-j-gt0
returns-then-j-gt0 c =
    let e : drift_right (get_or c.args.checks.now.drifts.now (checks_most * c.args.g + c.args.j) (pos 0)) ≡ true = search rules in
    let h = c.if-j-gt0.true in
    sym (check_next _ _ _ _ _ c.if-intervals-position.false e (λ z. omega arith))

pub returns-else-j-gt0 : goal.returns-else-j-gt0
returns-else-j-gt0 c =
    let e : drift_right (get_or c.args.checks.now.drifts.now (checks_most * c.args.g + c.args.j) (pos 0)) ≡ true = search rules in
    let h = c.if-j-gt0.false in
    le-ltb 0 _ h ∙ sym (check_first _ _ _ _ _ c.if-intervals-position.false e (let z : c.args.j ≡ 0 = omega arith in z))
