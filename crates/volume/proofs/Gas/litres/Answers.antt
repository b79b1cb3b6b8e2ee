-- Volume first, then the methane in it.
use Rattle.std.proofs.Common.{ℕ, ap, ◌∙◌}
use Rattle.volume.specs.Volume.{methane_litres_in, methane_litres}
use Rattle.volume.proofs.Gas.litres.Goals as goal

pub returns : goal.returns
unfolding methane_litres
returns c =
    (c.methane_litres_in.ensures.0 ∙ ap (λ (n : ℕ). methane_litres_in n c.args.self.content) c.hundredths.ensures.0, c.methane_litres_in.ensures.1)
