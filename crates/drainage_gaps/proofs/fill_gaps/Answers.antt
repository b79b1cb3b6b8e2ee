-- Every gap is filled once: the loop's invariant is `Filling`.
use Prim.Native.Nat.{ℕ, ◌≤◌, ◌<◌}
use mathlib.Core.Path.{◌≡◌, refl, sym, subst}
use mathlib.Core.Bool.{true}
use mathlib.Core.List.{List}
use native.Mathlib.Omega.{arith}
use lib.ListN.{length}
use Rattle.drainage_runs.specs.Runs.{missing_at, gap_end}
use Rattle.drainage_runs.proofs.Laws.{missing_is, around}
use Rattle.rows.proofs.Over.{continued_fill}
use Rattle.drainage_gaps.proofs.Filling.{filling_start, filling_next, filling_gap, goes_on}
use Rattle.drainage_gaps.proofs.fill_gaps.Goals as goal

-- where the entry at i is missing, the gap from it ends later
later : (reading : List ℕ) (i e : ℕ) → i < length reading → missing_at reading i ≡ true → e ≡ gap_end reading i → i < e
later reading i e l m q = subst (λ (x : ℕ). i < x) (sym q) (around reading i l m).1

pub loop-i-init : goal.loop-i-init
loop-i-init c = filling_start _ _ _ c.requires.0 c.requires.1 refl

pub held-v-requires : goal.held-v-requires
held-v-requires c =
    let m = missing_is c.args.reading.now c.loop-i.i c.loop-i-test.true c.if-reading-i.true in
    let h = later c.args.reading.now c.loop-i.i c.gap_end-e.result c.loop-i-test.true m c.gap_end-e.ensures.0 in
    let v = c.loop-i.invariant in
    (h, c.gap_end-e.ensures.2, v.few, goes_on _ _ _ _ v)

pub loop-i-smaller-then-reading-i : goal.loop-i-smaller-then-reading-i
loop-i-smaller-then-reading-i c =
    let m = missing_is c.args.reading.now c.loop-i.i c.loop-i-test.true c.if-reading-i.true in
    let h = later c.args.reading.now c.loop-i.i c.gap_end-e.result c.loop-i-test.true m c.gap_end-e.ensures.0 in
    omega (arith, h, c.gap_end-e.ensures.2)

pub loop-i-preserved-then-reading-i : goal.loop-i-preserved-then-reading-i
loop-i-preserved-then-reading-i c =
    let row = c.args.reading.now in
    let e = c.gap_end-e.ensures in
    let v = c.loop-i.invariant in
    let most : c.gap_end-e.result ≤ length c.loop-i.used = omega (arith, e.2, v.goes.same_length) in
    filling_gap row c.args.used.now c.loop-i.used c.loop-i.i v c.gap_end-e.result _ c.loop-i-test.true
    (missing_is row c.loop-i.i c.loop-i-test.true c.if-reading-i.true) e.0
    (continued_fill c.loop-i.i c.gap_end-e.result _ _ c.loop-i.used c.fill.new.self e.1 most c.held-v.ensures (c.fill.ensures.after (λ y q. q)))

pub loop-i-preserved : goal.loop-i-preserved
loop-i-preserved c =
    let g = c.args in
    let r = c.next-i.ensures in
    filling_next g.reading.now g.used.now c.loop-i.used c.loop-i.i c.next-i.result c.loop-i.invariant r.0 r.1 r.2
