-- The mean, rounded down.
use mathlib.Core.Path.{refl}
use Rattle.drainage_window.specs.Window.{mean_of}
use Rattle.drainage_window.proofs.Tally.mean.Goals as goal

pub returns : goal.returns
unfolding mean_of
returns c = refl
