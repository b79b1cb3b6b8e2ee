-- Lines of a key, a number and byte 10, in a fixed order (rule 11.1).
use Rattle.std.specs.Prelude.{ℕ, ◌≡◌, refl, List, [], ◌∷◌, ◌++◌, ℤ, pos}
use Rattle.text.specs.Bytes.{bytes}
use Rattle.text.specs.Form.{Form}
use Rattle.text.specs.Decimal.{decimal, dec, Range, Fit}

-- A line of a table: its key, with the `=`, and the range of its value.
pub record Entry : Type 0 where
  pub key : List ℕ
  pub range : Range

-- rule 11.1: the text of a line, its key with the `=`, its number and byte 10.
abbrev pub line_of : List ℕ → ℤ → List ℕ
line_of key z = key ++ (decimal z ++ (10 ∷ []))

abbrev pub line : List ℕ → Range → Form ℤ
line key r = record { text = line_of key; takes = Fit r }

-- rule 11.1: the lines of a table in its order, one value a line.
abbrev pub lines_of : List Entry → List ℤ → List ℕ
lines_of [] zs = []
lines_of (e ∷ es) [] = []
lines_of (e ∷ es) (z ∷ zs) = line_of e.key z ++ lines_of es zs

-- As many values as lines, each in its line's range.
abbrev pub AllFit : List Entry → List ℤ → Type 0
AllFit [] [] = Unit {0}
AllFit [] (z ∷ zs) = ⊥
AllFit (e ∷ es) [] = ⊥
AllFit (e ∷ es) (z ∷ zs) = Fit e.range z × AllFit es zs

abbrev pub lines : List Entry → Form (List ℤ)
lines es = record { text = lines_of es; takes = AllFit es }

line_is_lem : line_of (bytes "tonnes=") (pos 35) ≡ bytes "tonnes=35\n"
unfolding dec
line_is_lem = refl
