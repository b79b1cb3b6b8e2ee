-- `drainage_report::quantified` meets its contract: what it lends on is what the record asks for. Assumes nothing.
use Rattle.std.proofs.Common.{rules}
use Rattle.drainage_report.proofs.Laws.{quantified_is}
use Rattle.drainage_report.proofs.quantified.Goals as goal

pub returns : goal.returns
returns c = quantified_is c.args.h _ _ _ _ _ _ _ _ c.part.ensures (search rules) (search rules) c.quantify.ensures
