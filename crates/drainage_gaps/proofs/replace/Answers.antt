-- The replacement of one gap, by its class and by whether its windows are whole.
use mathlib.Core.Path.{sym, ◌∙◌}
use native.Mathlib.Omega.{arith}
use Rattle.drainage_gaps.proofs.Laws.{class_fits, replaced_not, prepared, ready_before, ready_after, ready_windows, ready_mean, ready_value}
use Rattle.drainage_gaps.proofs.Laws.{taken_mean, taken_limit}
use Rattle.drainage_gaps.proofs.replace.Goals as goal
use Rattle.drainage_gaps.proofs.replace.Goals.{in-Mean, in-Limit}

pub windows_whole-requires : goal.windows_whole-requires
windows_whole-requires c =
    let p = c.requires in
    (omega (arith, p.1, p.2, (class_fits _ _ _ p.4).few), omega (arith, p.0), p.1)

pub returns-then-not-windows_whole : goal.returns-then-not-windows_whole
returns-then-not-windows_whole c =
    replaced_not _ _ (sym c.windows_whole.ensures ∙ c.if-not-windows_whole.true)

pub overflow_sub-before : goal.overflow_sub-before
overflow_sub-before c =
    let d = prepared c.requires c.windows_whole.ensures c.if-not-windows_whole.false in
    ready_before d

pub overflow_add-after : goal.overflow_add-after
overflow_add-after c =
    let d = prepared c.requires c.windows_whole.ensures c.if-not-windows_whole.false in
    record { fits = omega (arith, ready_after d, c.requires.2, c.requires.3.same_length) }

pub slice_bounds-after-end : goal.slice_bounds-after-end
slice_bounds-after-end c =
    let d = prepared c.requires c.windows_whole.ensures c.if-not-windows_whole.false in
    omega (arith, ready_after d)

pub mean_of_32-value-requires : goal.mean_of_32-value-requires
mean_of_32-value-requires c =
    let d = prepared c.requires c.windows_whole.ensures c.if-not-windows_whole.false in
    ready_mean d c.in-Mean.is

pub of-requires : goal.of-requires
of-requires c =
    let d = prepared c.requires c.windows_whole.ensures c.if-not-windows_whole.false in
    ready_windows d

pub limit-value-requires : goal.limit-value-requires
limit-value-requires c =
    let d = prepared c.requires c.windows_whole.ensures c.if-not-windows_whole.false in
    (c.of.ensures.1, d.fits.limit _ c.in-Limit.is)

pub overflow_cast-result : goal.overflow_cast-result
overflow_cast-result c =
    let d = prepared c.requires c.windows_whole.ensures c.if-not-windows_whole.false in
    let v =
    ready_value d c.match-rule.value
    (elim c.match-rule.branch [
      | in-Mean w ↦ w.value-is ∙ taken_mean _ w.in-Mean.is w.mean_of_32-value.ensures.0
      | in-Limit w ↦ w.value-is ∙ taken_limit w.of.result _ w.in-Limit.is w.of.ensures.0 w.limit-value.ensures
    ]) in
    record { fits = omega (arith, v.1) }

pub returns : goal.returns
returns c =
    let d = prepared c.requires c.windows_whole.ensures c.if-not-windows_whole.false in
    let v =
    ready_value d c.match-rule.value
    (elim c.match-rule.branch [
      | in-Mean w ↦ w.value-is ∙ taken_mean _ w.in-Mean.is w.mean_of_32-value.ensures.0
      | in-Limit w ↦ w.value-is ∙ taken_limit w.of.result _ w.in-Limit.is w.of.ensures.0 w.limit-value.ensures
    ]) in
    v.0
