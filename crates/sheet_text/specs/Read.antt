-- What reading a sheet answers, and what the answer means.
use Rattle.std.specs.Prelude.{ℕ, ◌≡◌, List, Result, Ok, Err}
use Rattle.text.specs.Form.{RefusedAt}
use Rattle.refusals.specs.declared.Refusal.{Refusal}
use Rattle.refusals.specs.Table.{told_of, told_by, nothing}
use Rattle.figures.specs.declared.Figures.{Figures}
use Rattle.sheet_text.specs.Sheet.{text_of, InRange, IsSheet}

-- The text is the sheet of these figures (rule 11.6).
pub record SheetOf (t : List ℕ) (f : Figures) : Type 0 where
  pub in_range : InRange f
  pub is : t ≡ text_of f

-- The one refusal of reading: the text is no sheet, and k is the first byte that no sheet could have there (rules 4.10 and 11.7).
pub data Refused (t : List ℕ) : Refusal → Type 0 where
  no_sheet : {k : ℕ} → RefusedAt IsSheet t k → Refused t (Refusal.NoSheet k)

abbrev pub ReadRight : List ℕ → Result Figures Refusal → Type 0
ReadRight t (Ok f) = SheetOf t f
ReadRight t (Err r) = Refused t r

-- The answer is right, and told as it must be: three zeros if the text is a sheet (rule 5.7), else the number, the device and the place
-- of the refusal that fits it (rule 5.4).
pub record Answered (t : List ℕ) (a : Result Figures Refusal) : Type 0 where
  pub right : ReadRight t a
  pub told_sheet : (f : Figures) → SheetOf t f → told_by a ≡ nothing
  pub told_refused : (r : Refusal) → Refused t r → told_by a ≡ told_of r
