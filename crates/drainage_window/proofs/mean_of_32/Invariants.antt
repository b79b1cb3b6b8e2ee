-- The mean of two windows of 16, without squares.
use Rattle.drainage_window.proofs.Pairing.{Pairing}
use Rattle.drainage_window.proofs.mean_of_32.Given as goal

abbrev pub invariant-loop-i : goal.invariant-loop-i
invariant-loop-i l = Pairing l.before l.after l.sum l.i
