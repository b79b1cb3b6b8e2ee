-- One interval: its outcome, its values and its litres.
use Rattle.std.proofs.Common.{ℕ, ◌<◌, ◌≡◌, ℤ, sym, ap, ◌∙◌, subst, arith, rules, w16, to_z, of_z, to_z-of_z}
use Rattle.volume.specs.Volume.{methane_litres, Inside}
use Rattle.drainage_outcomes.proofs.Laws.{outcome_for, counted_inside, counted_entry, excluded_entry}
use Rattle.drainage_outcomes.proofs.Readings.settle.Goals as goal

pub litres-requires : goal.litres-requires
litres-requires c =
    let a = c.args in
    let x = a.self in
    let came : to_z w16 (of_z w16 x.temp) ≡ x.temp = search (rules, to_z-of_z) in
    let q : c.outcome-o.result ≡ outcome_for x.flow x.content x.temp x.press x.status a.flow_held a.content_held = cc in
    let y = counted_inside _ _ _ _ x.status _ _ c.requires (subst (λ (k : ℕ). k < 3) q c.if-o-lt3.true) in
    (subst (λ (z : ℤ). Inside a.flow_held z x.press) (sym came) y.0, omega (arith, y.1))

pub returns-then-o-lt3 : goal.returns-then-o-lt3
returns-then-o-lt3 c =
    let a = c.args in
    let x = a.self in
    let came : to_z w16 (of_z w16 x.temp) ≡ x.temp = search (rules, to_z-of_z) in
    let q : c.outcome-o.result ≡ outcome_for x.flow x.content x.temp x.press x.status a.flow_held a.content_held = cc in
    counted_entry _ _ _ _ _ _ _ _ q c.if-o-lt3.true _
    (c.litres.ensures.0 ∙ ap (λ (z : ℤ). methane_litres a.flow_held a.content_held z x.press) came)

pub returns-else-o-lt3 : goal.returns-else-o-lt3
returns-else-o-lt3 c =
    let a = c.args in
    let x = a.self in
    let came : to_z w16 (of_z w16 x.temp) ≡ x.temp = search (rules, to_z-of_z) in
    let q : c.outcome-o.result ≡ outcome_for x.flow x.content x.temp x.press x.status a.flow_held a.content_held = cc in
    excluded_entry _ _ _ _ _ _ _ _ q c.if-o-lt3.false
