-- `writing::Writer::bytes` meets its contract. The invariant: the bytes up to the index are written. Assumes nothing.
use Prim.Native.Nat.{◌+◌, ◌^◌, ◌<◌}
use lib.ListN.{length, take}
use Rattle.writing.specs.Wrote.{Wrote}
use Rattle.writing.proofs.Writer.bytes.Given as goal

abbrev pub invariant-loop-b : goal.invariant-loop-b
invariant-loop-b l = (l.initial.self.at + length l.w < 2 ^ 64) × Wrote l.initial.self (take l.b-index l.w) l.self
