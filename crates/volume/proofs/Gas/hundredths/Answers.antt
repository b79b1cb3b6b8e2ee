-- The quotient is rule 9.1's, rounded down.
use Rattle.std.proofs.Common.{ℕ, ◌*◌, ◌/◌, ◌≤◌, ◌≡◌, sym, ap, ◌∙◌, subst, rules, w16, to_z, of_z, to_z-of_z}
use Rattle.protocol.specs.Ranges.{kelvin_of}
use Rattle.volume.specs.Volume.{hundredths_of, parts_most}
use Rattle.volume.proofs.Laws.{hundredths_most}
use Rattle.volume.proofs.Pair.{parts_over, under, same_hundredths}
use Rattle.volume.proofs.Gas.hundredths.Goals as goal

pub returns : goal.returns
returns c =
    let gas = c.args.self in
    let came : to_z w16 (of_z w16 gas.temp) ≡ gas.temp = search (rules, to_z-of_z) in
    let right : gas.flow * parts_over * gas.press / (c.kelvin-kelvin.result * under) ≡ hundredths_of gas.flow gas.temp gas.press =
    ap (λ (k : ℕ). gas.flow * parts_over * gas.press / (k * under)) (c.kelvin-kelvin.ensures ∙ ap kelvin_of came) ∙ same_hundredths gas.flow gas.temp gas.press in
    (right, subst (λ (n : ℕ). n ≤ parts_most) (sym right) (hundredths_most gas.flow gas.temp gas.press c.requires))
