-- `writing::Writer::line` meets its contract: the parts joined. Assumes nothing.
use Rattle.writing.proofs.Parts.{join}
use Rattle.writing.proofs.Writer.line.Goals as goal

pub returns : goal.returns
returns g c = join c.bytes.ensures (join c.put.ensures c.byte.ensures)
