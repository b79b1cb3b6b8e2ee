-- The search by halving gives the limit.
use Prim.Native.Nat.{◌-◌}
use Rattle.drainage_window.proofs.Halving.{Between}
use Rattle.drainage_window.proofs.Tally.limit.Given as goal

abbrev pub invariant-loop-low : goal.invariant-loop-low
invariant-loop-low l = Between l.self l.z l.low l.high

abbrev pub decreases-loop-low : goal.decreases-loop-low
decreases-loop-low l = l.high - l.low
