-- Count, sum and sum of squares of one window.
use Rattle.drainage_window.proofs.Adding.{Adding}
use Rattle.drainage_window.proofs.Tally.of_one.Given as goal

abbrev pub invariant-loop-value : goal.invariant-loop-value
invariant-loop-value l = Adding l.part l.sum l.squares l.value-index
