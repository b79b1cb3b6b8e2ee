-- The reader's parts. Only private contracts need these: the promise of the whole reader is ReadRight (Read.antt) alone.
use Rattle.std.specs.Prelude.{ℕ, List, [], ◌∷◌, ℤ, pos, take, Result, Ok, Err}
use Rattle.text.specs.declared.Wrong.{Wrong}
use Rattle.text.specs.Form.{ReadAs, RefusedAt}
use Rattle.text.specs.Line.{lines}
use Rattle.figures.specs.declared.Figures.{Figures}
use Rattle.sheet_text.specs.declared.Volumes.{Volumes}
use Rattle.sheet_text.specs.Read.{SheetOf}
use Rattle.sheet_text.specs.Sheet.{IsSheet, schema}

-- The values of a sheet's first eight lines.
unfoldable pub volumes_of : Volumes → List ℤ
volumes_of v =
    pos v.«intervals» ∷
    pos v.«devices» ∷
    pos v.«counted» ∷
    pos v.«replaced» ∷
    pos v.«excluded» ∷
    pos v.methane_l ∷
    pos v.destroyed_l ∷
    pos v.uncombusted_l ∷
    []

-- What was read is right, or the text is no sheet.
abbrev pub ReadOr : {A : Type 0} → (A → Type 0) → List ℕ → Result A Wrong → Type 0
ReadOr right t (Ok x) = right x
ReadOr right t (Err w) = RefusedAt IsSheet t w.place

-- Those lines stand at the text's start, up to the place that is given.
abbrev pub HeadIn : List ℕ → Result (Volumes × ℕ) Wrong → Type 0
HeadIn t = ReadOr (λ x. ReadAs (lines (take 8 schema)) t 0 x.1 (volumes_of x.0)) t

abbrev pub FiguresIn : List ℕ → Result Figures Wrong → Type 0
FiguresIn t = ReadOr (SheetOf t) t
