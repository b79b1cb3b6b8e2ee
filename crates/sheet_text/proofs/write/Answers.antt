-- `sheet_text::write` meets its contract: the first run is over no buffer and only measures. Assumes nothing.
use Prim.Native.Nat.{ℕ}
use mathlib.Core.Path.{ap}
use native.Mathlib.Omega.{arith}
use mathlib.Core.List.{List, ◌++◌}
use Rattle.sheet_text.specs.Sheet.{text_of}
use Rattle.sheet_text.specs.Write.{Refused}
use Rattle.sheet_text.proofs.Steps.{nothing, put_short, put_done}
use Rattle.sheet_text.proofs.Settled.{write_answered}
use Rattle.sheet_text.proofs.write.Goals as goal

pub returns-then-buf-n : goal.returns-then-buf-n
returns-then-buf-n c =
    let n = c.put_sheet-n in
    write_answered _ _ _ _
    (Refused.short_buffer
    (put_short c.args.f c.args.buf.now (n.new.buf ++ c.args.buf.now) n.result
    (ap (λ (x : List ℕ). x ++ c.args.buf.now) (nothing n.new.buf (text_of c.args.f) n.ensures.0.is)) n.ensures.0.stops
    (omega (arith, c.if-buf-n.true)) n.ensures.1))

pub returns : goal.returns
returns c =
    let n = c.put_sheet-n in
    write_answered _ _ _ _
    (put_done c.args.f c.args.buf.now (n.new.buf ++ c.args.buf.now) c.put_sheet.new.buf n.result c.put_sheet.result
    (ap (λ (x : List ℕ). x ++ c.args.buf.now) (nothing n.new.buf (text_of c.args.f) n.ensures.0.is)) n.ensures.0.stops
    (omega (arith, c.if-buf-n.false)) c.put_sheet.ensures.0)
