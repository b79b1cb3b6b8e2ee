-- A line's answer from its key's and its number's: by cases on the answer. Assumes nothing.
use Prim.Native.Nat.{ℕ, ◌+◌, ◌≤◌}
use mathlib.Core.List.{List}
use lib.ListN.{length}
use mathlib.Core.Path.{◌≡◌, sym, subst}
use native.Mathlib.Omega.{arith}
use lib.IntN.{ℤ}
use Rattle.std.proofs.Common.{Result, Ok, Err}
use Rattle.text.specs.declared.Wrong.{Wrong}
use Rattle.text.specs.Decimal.{Range, number}
use Rattle.text.specs.Line.{line}
use Rattle.text.specs.Form.{Form, Of, Broken}
use Rattle.text.specs.Answer.{ReadIn, NaturalIn, Matched, Asked}
use Rattle.text.proofs.Keyed.{keyed_read, keyed_broken}

-- What the reader of an unsigned line is asked, at any place of the text.
pub line_asked : {t : List ℕ} {p most : ℕ} → p ≤ length t → Asked t p 0 most 10
line_asked h = record { within = h; low = omega arith; range = omega arith; stop = omega arith }

-- A number's answer that is wrong: the text breaks off at its place.
pub natural_wrong : (f : Form ℤ) (t : List ℕ) (i k : ℕ) (w : Wrong) → k ≡ w.place → NaturalIn f t i (Err w) → Broken (Of f) t i k
natural_wrong f t i k w e p = subst (Broken (Of f) t i) (sym e) p

-- What a number's answer is for its line.
module _ {A : Type 0} (of : A → ℤ) (t : List ℕ) (i n : ℕ) (key : List ℕ) (r : Range) (m : Matched t i key n) (h : length key ≤ n) where
  pub line_in : (a : Result (A × ℕ) Wrong) → ReadIn of (number r 10) t (i + n) a → ReadIn of (line key r) t i a
  line_in (Ok (v, stop)) p = keyed_read key (number r 10) t i n m stop (of v) h p
  line_in (Err w) p = keyed_broken key (number r 10) t i n m w.place h p
