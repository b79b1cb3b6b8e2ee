-- `drift::correct` meets its contract. The loop's invariant is `Walked` of proofs/Walk.antt.
-- Assumes nothing.
use Rattle.drainage_drift.specs.Lent.{instrument_in}
use Rattle.drainage_drift.proofs.Walk.{Walked}
use Rattle.drainage_drift.proofs.correct.Given as goal

abbrev pub invariant-loop-j : goal.invariant-loop-j
invariant-loop-j l = Walked (instrument_in l.instrument) l.reading l.initial.used l.used l.j l.start l.divisor
