-- What writing a sheet answers, and what the answer and the buffer mean.
use Rattle.std.specs.Prelude.{ℕ, ◌≤◌, ◌<◌, ◌≡◌, List, length, Result, Ok, Err}
use Rattle.text.specs.Answer.{Leads}
use Rattle.refusals.specs.declared.Refusal.{Refusal}
use Rattle.refusals.specs.Table.{told_of, told_by, nothing}
use Rattle.figures.specs.declared.Figures.{Figures}
use Rattle.sheet_text.specs.Sheet.{text_of, sheet_most}

-- The text stands at the buffer's start, n is its length, and no byte after it has changed (rule 11.9).
abbrev pub Done : Figures → List ℕ → List ℕ → ℕ → Type 0
Done f = Leads (text_of f)

-- The buffer is shorter than the n bytes of the text, and nothing is written (rule 11.10). A buffer of sheet_most bytes never is.
pub record Short (f : Figures) (old new : List ℕ) (n : ℕ) : Type 0 where
  pub needed : n ≡ length (text_of f)
  pub short : length old < n
  pub most : n ≤ sheet_most
  pub is : new ≡ old

-- The one refusal of writing (rule 4.11).
pub data Refused (f : Figures) (old new : List ℕ) : Refusal → Type 0 where
  short_buffer : {n : ℕ} → Short f old new n → Refused f old new (Refusal.ShortBuffer n)

abbrev pub WriteRight : Figures → List ℕ → List ℕ → Result ℕ Refusal → Type 0
WriteRight f old new (Ok n) = Done f old new n
WriteRight f old new (Err r) = Refused f old new r

-- Answer and buffer are right, and the answer is told as it must be: three zeros if the sheet can be written (rule 5.7), else the
-- number, the device and the place of the refusal (rule 5.4).
pub record Answered (f : Figures) (old new : List ℕ) (a : Result ℕ Refusal) : Type 0 where
  pub right : WriteRight f old new a
  pub told_written : (left : List ℕ) (n : ℕ) → Done f old left n → told_by a ≡ nothing
  pub told_refused : (left : List ℕ) (r : Refusal) → Refused f old left r → told_by a ≡ told_of r
