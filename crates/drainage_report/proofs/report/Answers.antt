-- `drainage_report::report` meets its contract: what its steps promise, together. Assumes nothing.
use Rattle.columns.specs.Series.{series_of}
use Rattle.drainage_outcomes.specs.Rows.{rows_of}
use Rattle.drainage_report.specs.Report.{Lent, reader_rows}
use Rattle.drainage_report.proofs.Job.{ready_for, reported_refusal, reported_record}
use Rattle.drainage_report.proofs.report.Goals as goal
use Rattle.drainage_report.proofs.report.Goals.{in-Ok, in-Err}

pub quantified-answer-requires : goal.quantified-answer-requires
unfolding reader_rows
quantified-answer-requires c =
    let a = c.args in
    let lent : Lent = record {
      series = series_of a.flow.now a.content.now a.temp.now a.press.now a.status.now;
      results = rows_of a.outcome.now a.flow_used.now a.content_used.now;
    } in
    ready_for _ lent _ _ _ c.in-Ok.is c.read-read.ensures.right

pub returns : goal.returns
unfolding reader_rows
returns c =
    let a = c.args in
    let lent : Lent = record {
      series = series_of a.flow.now a.content.now a.temp.now a.press.now a.status.now;
      results = rows_of a.outcome.now a.flow_used.now a.content_used.now;
    } in
    elim c.match-read.branch [
      | in-Ok w ↦
          reported_record _ lent _ _ _ _ c.read-read.result _ _ _ _ _ w.in-Ok.is c.read-read.ensures.right w.answer-is
          (λ i. rows_of (w.outcome-is i) (w.flow_used-is i) (w.content_used-is i)) w.quantified-answer.ensures c.put_answer.ensures
      | in-Err w ↦
          reported_refusal _ lent _ _ _ _ c.read-read.result _ _ _ w.in-Err.is c.read-read.ensures.right w.answer-is
          (λ i. rows_of (w.outcome-is i) (w.flow_used-is i) (w.content_used-is i)) c.put_answer.ensures
    ]
