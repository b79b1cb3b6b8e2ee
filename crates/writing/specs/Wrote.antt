-- What a writer has done: w was written at its place, into the buffer that it was lent.
use Rattle.std.specs.Prelude.{ℕ, ◌≡◌, List}
use Rattle.text.specs.Answer.{Put}
use Rattle.writing.specs.declared.Writer.{Writer}

pub record Wrote (old : Writer) (w : List ℕ) (new : Writer) : Type 0 where
  pub same : new.buf.ghost_name ≡ old.buf.ghost_name
  pub put : Put old.buf.now old.at w new.buf.now new.at
