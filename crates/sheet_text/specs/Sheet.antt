-- The sheet's lines as one table (rules 11.3 and 11.4): a line's key and the numbers that it takes, and no more is checked (rule 11.5).
-- A line more is one entry more here and one value more below.
use Rattle.std.specs.Prelude.{ℕ, List, [], ◌∷◌, ℤ, pos}
use Prim.Native.String.{String}
use Rattle.text.specs.Bytes.{bytes}
use Rattle.text.specs.Form.{Form, Of}
use Rattle.text.specs.Decimal.{Range, plain, signed}
use Rattle.text.specs.Line.{Entry, lines_of, AllFit}
use Rattle.figures.specs.declared.Figures.{Figures}

abbrev pub unsigned64 : Range
unsigned64 = plain 0 18446744073709551615

abbrev pub signed64 : Range
signed64 = signed 9223372036854775808 9223372036854775807

abbrev entry : String → Range → Entry
entry key r = record { key = bytes key; range = r }

unfoldable pub schema : List Entry
schema =
    entry "intervals=" unsigned64 ∷
    entry "devices=" unsigned64 ∷
    entry "counted=" unsigned64 ∷
    entry "replaced=" unsigned64 ∷
    entry "excluded=" unsigned64 ∷
    entry "methane_l=" unsigned64 ∷
    entry "destroyed_l=" unsigned64 ∷
    entry "uncombusted_l=" unsigned64 ∷
    entry "baseline_mg=" unsigned64 ∷
    entry "co2_mg=" unsigned64 ∷
    entry "uncombusted_mg=" unsigned64 ∷
    entry "fuel_mg=" unsigned64 ∷
    entry "reduction_mg=" signed64 ∷
    entry "tonnes=" signed64 ∷
    entry "credits=" unsigned64 ∷
    []

-- The figures in the order of the lines.
unfoldable pub values_of : Figures → List ℤ
values_of f =
    pos f.«intervals» ∷
    pos f.«devices» ∷
    pos f.«counted» ∷
    pos f.«replaced» ∷
    pos f.«excluded» ∷
    pos f.methane_l ∷
    pos f.destroyed_l ∷
    pos f.uncombusted_l ∷
    pos f.baseline_mg ∷
    pos f.co2_mg ∷
    pos f.uncombusted_mg ∷
    pos f.fuel_mg ∷
    f.reduction_mg ∷
    f.«tonnes» ∷
    pos f.«credits» ∷
    []

-- A sheet's text is the rendering of its figures, and a sheet is any 64-bit figures.
unfoldable pub text_of : Figures → List ℕ
text_of f = lines_of schema (values_of f)

unfoldable pub InRange : Figures → Type 0
InRange f = AllFit schema (values_of f)

abbrev pub sheet : Form Figures
sheet = record { text = text_of; takes = InRange }

-- The texts that are sheets.
abbrev pub IsSheet : List ℕ → Type 0
IsSheet = Of sheet

-- No sheet has more bytes (rule 11.11; proved in proofs/Steps.antt).
abbrev pub sheet_most : ℕ
sheet_most = 465
