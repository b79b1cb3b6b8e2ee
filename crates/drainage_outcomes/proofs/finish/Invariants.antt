-- The last pass keeps rows, counts and litres as the definitions have them.
use Rattle.columns.specs.Series.{series_of}
use Rattle.drainage_outcomes.proofs.Pass.{Going}
use Rattle.drainage_outcomes.proofs.finish.Given as goal

abbrev pub invariant-loop-i : goal.invariant-loop-i
invariant-loop-i l =
    Going (record { series = series_of l.flow l.content l.temp l.press l.status; held_flow = l.initial.flow_used; held_content = l.initial.content_used }) l.i-end
    l.initial.outcome l.outcome l.flow_used l.content_used l.outcomes l.methane l.i
