-- A text that is longer than any record file is judged by its beginning: what holds of its first m bytes holds of the whole, for
-- every m above the length of the longest record. Assumes nothing.
use Prim.Native.Nat.{ℕ, ◌+◌, ◌*◌, ◌≤◌, ◌<◌}
use mathlib.Core.Path.{◌≡◌, sym, ap, ◌∙◌, subst}
use mathlib.Core.List.{List, [], ◌++◌}
use native.Mathlib.Omega.{arith}
use native.Mathlib.Nat.{le_trans}
use lib.IntN.{pos}
use lib.ListN.{length, take, length-append, length-take}
use lib.Seq.{take_all, take-take}
use Rattle.drainage_record_form.specs.Field as Field
use Rattle.drainage_record_form.specs.Field.{line_text}
use Rattle.drainage_record_form.specs.Plan.{Line, text_of}
use Rattle.drainage_record_form.specs.File.{file, Record, IsRecord, Begins, Headed, Limits, Fine, FirstWrong}
use Rattle.drainage_record_form.proofs.Files.{record_begins}
use Rattle.drainage_record_form.proofs.Parts.{with_head}
use Rattle.drainage_record_form.proofs.Longest.{line_widest, begins_headed, begins_longest}

-- Its N and D are in their limits where those of the text are.
pub record_limits : (t : List ℕ) (room n d : ℕ) (ls : List Line) → Fine t room → Record (with_head n d ls) → t ≡ text_of (with_head n d ls) → Limits n d room
record_limits t room n d ls fine h e = fine.limits n d (begins_headed t n d ls (record_begins h e))

-- A record file with right N and D is no longer than the longest.
pub record_fits : (t : List ℕ) (room : ℕ) (ls : List Line) → Fine t room → Record ls → t ≡ text_of ls → length t ≤ 61 * room + 35972
record_fits t room ls fine h e = omega (arith, ap length e, begins_longest t room ls fine (record_begins h e))

-- The first two lines are short, whatever their numbers.
headed_short : (t : List ℕ) (n d : ℕ) → Headed t n d → length (text_of (with_head n d [])) ≤ 40
unfolding file
headed_short t n d b =
    omega (
      arith,
      length-append (line_text Field.intervals (pos n)) (line_text Field.devices (pos d) ++ []),
      length-append (line_text Field.devices (pos d)) [],
      line_widest Field.intervals (pos n) b.follows.1,
      line_widest Field.devices (pos d) b.follows.2.1,
    )

module _ (t : List ℕ) (m : ℕ) where
  cut_within : length (take m t) ≤ m
  cut_within = omega (arith, length-take m t)

  cut_less : length (take m t) ≤ length t
  cut_less = omega (arith, length-take m t)

  -- What the cut text begins with, the text begins with.
  pub begins_cut : (ls : List Line) → Begins (take m t) ls → Begins t ls
  begins_cut ls b =
      let k : ℕ = length (text_of ls) in
      record {
        more = b.more;
        follows = b.follows;
        stands = record {
          within = le_trans b.stands.within cut_less;
          is = sym (take-take k m t (le_trans b.stands.within cut_within)) ∙ b.stands.is;
        };
      }

  -- And the other way where it is not cut off.
  pub cut_begins : (ls : List Line) → length (text_of ls) ≤ m → Begins t ls → Begins (take m t) ls
  cut_begins ls h b =
      record {
        more = b.more;
        follows = b.follows;
        stands = record {
          within = omega (arith, length-take m t, b.stands.within);
          is = take-take (length (text_of ls)) m t h ∙ b.stands.is;
        };
      }

  pub headed_cut : (n d : ℕ) → Headed (take m t) n d → Headed t n d
  headed_cut n d b = begins_cut _ b

  -- A cut text that is shorter than the cut is the whole text.
  short_all : length (take m t) < m → t ≡ take m t
  short_all h = sym (take_all m t (omega (arith, length-take m t)))

  module _ (room : ℕ) (long : 61 * room + 35972 < m) where
    pub cut_headed : (n d : ℕ) → Headed t n d → Headed (take m t) n d
    cut_headed n d b = cut_begins _ (omega (arith, headed_short t n d b)) b

    pub fine_cut : Fine t room → Fine (take m t) room
    fine_cut fine = record { limits = λ n d b. fine.limits n d (headed_cut n d b) }

    pub cut_fine : Fine (take m t) room → Fine t room
    cut_fine fine = record { limits = λ n d b. fine.limits n d (cut_headed n d b) }

    pub cut_record : (ls : List Line) → Fine t room → Record ls → t ≡ text_of ls → take m t ≡ t
    cut_record ls fine h e = take_all m t (omega (arith, record_fits t room ls fine h e))

    pub record_cut : (ls : List Line) → Fine (take m t) room → Record ls → take m t ≡ text_of ls → t ≡ take m t
    record_cut ls fine h e = short_all (omega (arith, record_fits (take m t) room ls fine h e))

    -- The same of "is a record file".
    pub cut_is_record : Fine t room → IsRecord t → IsRecord (take m t)
    cut_is_record fine o = subst IsRecord (sym (cut_record o.value fine o.taken o.is)) o

    pub is_record_cut : Fine t room → IsRecord (take m t) → IsRecord t
    is_record_cut fine o = subst IsRecord (sym (record_cut o.value (fine_cut fine) o.taken o.is)) o

    -- Beginnings of a text with right N and D are not cut off.
    pub cut_begins_fine : (ls : List Line) → Fine t room → Begins t ls → Begins (take m t) ls
    cut_begins_fine ls fine b = cut_begins ls (omega (arith, begins_longest t room ls fine b)) b

    pub cut_wrong : (ls : List Line) → Fine t room → FirstWrong t ls → FirstWrong (take m t) ls
    cut_wrong ls fine w =
        record {
          begins = cut_begins_fine ls fine w.begins;
          ends = λ l b. w.ends l (begins_cut _ b);
          none = λ o. w.none (is_record_cut fine o);
        }

    pub wrong_cut : (ls : List Line) → Fine t room → FirstWrong (take m t) ls → FirstWrong t ls
    wrong_cut ls fine w =
        record {
          begins = begins_cut ls w.begins;
          ends = λ l b. w.ends l (cut_begins_fine _ fine b);
          none = λ o. w.none (cut_is_record fine o);
        }
