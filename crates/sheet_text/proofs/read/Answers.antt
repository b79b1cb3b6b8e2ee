-- `sheet_text::read` meets its contract: a wrong place is the refusal's. Assumes nothing.
use Rattle.sheet_text.specs.Read.{Refused}
use Rattle.sheet_text.proofs.Settled.{read_answered}
use Rattle.sheet_text.proofs.read.Goals as goal

pub returns-in-Err : goal.returns-in-Err
returns-in-Err c = read_answered _ _ (Refused.no_sheet c.in-Err.ensures)
