-- `text::read_signed` meets its contract, by the first byte. Assumes nothing.
use Prim.Native.Nat.{◌<◌}
use mathlib.Core.Path.{◌≡◌}
use native.Mathlib.Omega.{arith}
use lib.ListN.{length, get_or}
use Rattle.std.proofs.lemmas.Result.{err_from_is_err_and}
use Rattle.text.proofs.Numbers.{plus_broken, minus_broken}
use Rattle.text.proofs.read_signed.Goals as goal
use Rattle.text.proofs.read_signed.Goals.{else-start-t-via-then-start-t+else-t-start-eq45, else-start-t-via-else-start-t}

pub returns-in_err-v : goal.returns-in_err-v
returns-in_err-v c =
    let a = c.args in
    let p = err_from_is_err_and c.from_residual.result c.from_residual.ensures.1 in
    rw (p.1, p.2)
    (minus_broken a.t.now a.start c.in_err-v.field-0.0.place a.below a.most a.end (omega arith) c.if-t-start-eq45.true c.in_err-v.ensures)

no_minus : (c : goal.After-from_residual-in_err-v-2) → c.args.start < length c.args.t.now → get_or c.args.t.now c.args.start 0 ≡ 45 → ⊥
no_minus c h e =
    elim c.else-start-t.branch [
      | else-start-t-via-then-start-t+else-t-start-eq45 w ↦ w.if-t-start-eq45.false e
      | else-start-t-via-else-start-t w ↦ omega arith
    ]

pub returns-in_err-v-2 : goal.returns-in_err-v-2
returns-in_err-v-2 c =
    let a = c.args in
    let p = err_from_is_err_and c.from_residual-in_err-v-2.result c.from_residual-in_err-v-2.ensures.1 in
    rw (p.1, p.2)
    (plus_broken a.t.now a.start c.in_err-v-2.field-0.0.place a.below a.most a.end (no_minus c) c.requires.within c.in_err-v-2.ensures)
