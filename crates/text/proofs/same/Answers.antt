-- `text::same` meets its contract. Both loops' invariant: the first i bytes of the key, for which there is room, stand there. Assumes nothing.
use native.Mathlib.Omega.{arith}
use mathlib.Core.Path.{sym, ◌∙◌}
use Rattle.text.proofs.Keys.{same_all, same_byte, same_word}
use Rattle.text.proofs.same.Goals as goal

pub returns-then-word : goal.returns-then-word
returns-then-word c =
    same_word c.loop-i.invariant (omega arith) (λ e. c.if-word.true (c.word.ensures ∙ e ∙ sym c.word-in-loop-i.ensures))

pub returns-then-t-start-2 : goal.returns-then-t-start-2
returns-then-t-start-2 c = same_byte c.loop-k.invariant (omega arith) c.if-t-start-2.true

pub returns : goal.returns
returns c = same_all c.loop-k.invariant (omega arith)
