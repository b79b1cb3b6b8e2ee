-- Volume first, then the methane in it, both rounded up.
use Rattle.std.proofs.Common.{ℕ, ◌*◌, ap}
use Rattle.protocol.specs.Rounding.{ceil_div}
use Rattle.volume.specs.Volume.{methane_under, methane_litres_up_in, methane_litres_up}
use Rattle.volume.proofs.Laws.{air_up_most}
use Rattle.volume.proofs.Gas.litres_up.Goals as goal

pub returns : goal.returns
unfolding methane_litres_up methane_litres_up_in
returns c = (
  ap (λ (n : ℕ). ceil_div (n * c.args.self.content) methane_under) c.parts_up.ensures.0,
  air_up_most c.parts_up.result c.args.self.content c.parts_up.ensures.1 c.requires.1,
)
