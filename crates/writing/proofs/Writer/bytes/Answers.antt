-- `writing::Writer::bytes` meets its contract. The invariant: the bytes up to the index are written. Assumes nothing.
use native.Mathlib.Omega.{arith}
use Rattle.writing.proofs.Parts.{next}
use Rattle.writing.proofs.Writer.bytes.Goals as goal

pub loop-b-preserved : goal.loop-b-preserved
loop-b-preserved c = (omega arith, next c.args.w.now c.loop-b.b-index (omega arith) c.loop-b.invariant.1 c.byte.ensures)
