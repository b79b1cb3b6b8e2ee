-- The quotient is the correction, rounded up.
use Rattle.std.proofs.Common.{ℕ, ◌+◌, ◌*◌, ◌≤◌, ◌≡◌, sym, ap, ◌∙◌, subst, arith, rules, w16, to_z, of_z, to_z-of_z}
use Rattle.protocol.specs.Rounding.{ceil_div}
use Rattle.protocol.specs.Ranges.{kelvin_of}
use Rattle.volume.specs.Volume.{correction_up, parts_factor, parts_most}
use Rattle.volume.proofs.Laws.{up_most}
use Rattle.volume.proofs.Pair.{parts_over, under, same_up}
use Rattle.volume.proofs.Gas.parts_up.Goals as goal

pub returns : goal.returns
returns c =
    let gas = c.args.self in
    let came : to_z w16 (of_z w16 gas.temp) ≡ gas.temp = search (rules, to_z-of_z) in
    let right : ceil_div (gas.flow * parts_over * gas.press) (c.kelvin.result * under) ≡ correction_up parts_factor gas.flow gas.temp gas.press =
    ap (λ (k : ℕ). ceil_div (gas.flow * parts_over * gas.press) (k * under)) (c.kelvin.ensures ∙ ap kelvin_of came)
    ∙ same_up gas.flow gas.temp gas.press (omega (arith, c.requires.kelvin_least)) in
    (right, subst (λ (n : ℕ). n ≤ parts_most + 1) (sym right) (up_most gas.flow gas.temp gas.press c.requires))
