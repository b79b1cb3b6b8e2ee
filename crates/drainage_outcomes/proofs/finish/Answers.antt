-- The last pass keeps rows, counts and litres as the definitions have them.
use Rattle.std.proofs.Common.{◌≡◌, refl, ℤ, pos, ap, rules, lit<, w16, to_z, of_z, to_z-of_z}
use lib.ListN.{get_or}
use Rattle.drainage_outcomes.proofs.Pass.{reads_ready, reads_entry, measured_inside, measured_entry, going_few, going_more, going_kept, methane_room, slot_fits}
use Rattle.drainage_outcomes.proofs.Pass.{going_all}
use Rattle.drainage_outcomes.proofs.finish.Goals.{then-all_measured, else-all_measured}
use Rattle.drainage_outcomes.proofs.finish.Goals as goal

pub overflow_add-outcomes : goal.overflow_add-outcomes
overflow_add-outcomes c = slot_fits c.loop-i.invariant _ _ (lit< tt) (lit< tt)

pub litres-methane-requires : goal.litres-methane-requires
litres-methane-requires c =
    let t = get_or c.args.series.now.temp.now c.loop-i.i (pos 0) in
    let came : to_z w16 (of_z w16 t) ≡ t = search (rules, to_z-of_z) in
    measured_inside c.loop-i.invariant c.loop-i-test.true _ came _ c.all_measured.ensures c.if-all_measured.true _ (ap (λ (z : ℤ). to_z w16 (of_z w16 z)) came)

pub overflow_add-methane : goal.overflow_add-methane
overflow_add-methane c =
    let t = get_or c.args.series.now.temp.now c.loop-i.i (pos 0) in
    let came : to_z w16 (of_z w16 t) ≡ t = search (rules, to_z-of_z) in
    methane_room c.loop-i.invariant c.loop-i-test.true _
    (measured_entry c.loop-i.invariant c.loop-i-test.true _ came _ c.all_measured.ensures c.if-all_measured.true _ (ap (λ (z : ℤ). to_z w16 (of_z w16 z)) came) _ c.litres-methane.ensures.0)

pub settle-e-requires : goal.settle-e-requires
settle-e-requires c =
    let t = get_or c.args.series.now.temp.now c.loop-i.i (pos 0) in
    let came : to_z w16 (of_z w16 t) ≡ t = search (rules, to_z-of_z) in
    reads_ready c.loop-i.invariant c.loop-i-test.true _ came

pub bounds-outcomes-e : goal.bounds-outcomes-e
bounds-outcomes-e c =
    let t = get_or c.args.series.now.temp.now c.loop-i.i (pos 0) in
    let came : to_z w16 (of_z w16 t) ≡ t = search (rules, to_z-of_z) in
    going_few c.loop-i.invariant c.loop-i-test.true _ (reads_entry c.loop-i.invariant c.loop-i-test.true _ came _ c.settle-e.ensures)

pub overflow_add-outcomes-else-all_measured : goal.overflow_add-outcomes-else-all_measured
overflow_add-outcomes-else-all_measured c =
    let t = get_or c.args.series.now.temp.now c.loop-i.i (pos 0) in
    let came : to_z w16 (of_z w16 t) ≡ t = search (rules, to_z-of_z) in
    slot_fits c.loop-i.invariant _ _
    (going_few c.loop-i.invariant c.loop-i-test.true _ (reads_entry c.loop-i.invariant c.loop-i-test.true _ came _ c.settle-e.ensures)) (lit< tt)

pub bounds-outcomes-e-else-all_measured : goal.bounds-outcomes-e-else-all_measured
bounds-outcomes-e-else-all_measured c =
    let t = get_or c.args.series.now.temp.now c.loop-i.i (pos 0) in
    let came : to_z w16 (of_z w16 t) ≡ t = search (rules, to_z-of_z) in
    going_few c.loop-i.invariant c.loop-i-test.true _ (reads_entry c.loop-i.invariant c.loop-i-test.true _ came _ c.settle-e.ensures)

pub overflow_add-methane-else-all_measured : goal.overflow_add-methane-else-all_measured
overflow_add-methane-else-all_measured c =
    let t = get_or c.args.series.now.temp.now c.loop-i.i (pos 0) in
    let came : to_z w16 (of_z w16 t) ≡ t = search (rules, to_z-of_z) in
    methane_room c.loop-i.invariant c.loop-i-test.true _ (reads_entry c.loop-i.invariant c.loop-i-test.true _ came _ c.settle-e.ensures)

pub loop-i-preserved : goal.loop-i-preserved
loop-i-preserved c =
    let t = get_or c.args.series.now.temp.now c.loop-i.i (pos 0) in
    let came : to_z w16 (of_z w16 t) ≡ t = search (rules, to_z-of_z) in
    elim c.if-all_measured.branch [
      | then-all_measured w ↦
          let e =
          measured_entry c.loop-i.invariant c.loop-i-test.true _ came _ c.all_measured.ensures w.if-all_measured.true _
          (ap (λ (z : ℤ). to_z w16 (of_z w16 z)) came) _ w.litres-methane.ensures.0 in
          rw (w.outcome-is, w.flow_used-is, w.content_used-is, w.outcomes-is, w.methane-is)
          (going_kept c.loop-i.invariant c.loop-i-test.true _ e refl refl)
      | else-all_measured w ↦
          rw (w.outcome-is, w.flow_used-is, w.content_used-is, w.outcomes-is, w.methane-is)
          (going_more c.loop-i.invariant c.loop-i-test.true _ (reads_entry c.loop-i.invariant c.loop-i-test.true _ came _ w.settle-e.ensures))
    ]

pub returns : goal.returns
returns c = going_all c.loop-i.invariant c.loop-i-test.false
