-- The product's quotient is rounded down.
use Rattle.std.proofs.Common.{refl}
use Rattle.volume.specs.Volume.{methane_litres_in}
use Rattle.volume.proofs.Laws.{air_most_lem}
use Rattle.volume.proofs.methane_litres_in.Goals as goal

pub returns : goal.returns
unfolding methane_litres_in
returns c = (refl, air_most_lem c.args.parts c.args.content c.requires.0 c.requires.1)
