-- The lengths, each beside the one that is asked.
use Rattle.ventilation_judge.specs.Order.{lengths_of}
use Rattle.ventilation_judge.proofs.lengths.Goals as goal

pub returns : goal.returns
unfolding lengths_of
returns c = c.lengths.ensures
