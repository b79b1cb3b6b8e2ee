-- What comes of a gap (section 7 of docs/RULES.md): flow and CH4 alike, each from its own series. `reading` is the series as
-- recorded, which tells what is missing; `corrected` has its drift taken out (rules 6.8 and 7.4).
-- Assumes nothing.
use Rattle.std.specs.Prelude.{ℕ, ◌+◌, ◌-◌, ◌≡◌, refl, List, [], ◌∷◌, ◌++◌, leb, Option, Some, None}
use Rattle.rows.specs.Rows.{pick, cut}
use Rattle.drainage_window.specs.Window.{tally_of, mean_of, limit_of, mean_width, width90, width95, z90, z95}
use Rattle.drainage_window.specs.declared.Tally.{Tally}
use Rattle.drainage_runs.specs.Runs.{gap_start, gap_end, whole, too_long, not_whole}
use Rattle.drainage_gaps.specs.declared.Rule.{Rule}
use Rattle.drainage_gaps.specs.declared.Rule.TheVariants.{Mean, Limit}

-- Rule 7.5, the table: a line says how long a gap may be, in intervals, how many intervals each window has, and what of the
-- windows' values replaces the gap's entries. `Limit z` is the lower limit for z2 in hundredths.
pub record Line : Type 0 where
  pub longest : ℕ
  pub width : ℕ
  pub rule : Rule

abbrev pub table : List Line
table =
    record { longest = 23; width = mean_width; rule = Mean }
    ∷ record { longest = 95; width = width90; rule = Limit z90 }
    ∷ record { longest = 672; width = width95; rule = Limit z95 }
    ∷ []

-- a gap goes by the first line that reaches its length, its width and its rule, and is too long if none does
abbrev pub first_line : List Line → ℕ → Option (ℕ × Rule)
first_line [] gap = None
first_line (l ∷ ls) gap = pick (leb gap l.longest) (Some (l.width, l.rule)) (first_line ls gap)

unfoldable pub class_of : ℕ → Option (ℕ × Rule)
class_of gap = first_line table gap

-- what a rule takes of the windows' values (rules 7.6 and 7.7)
abbrev pub taken_by : Rule → Tally → ℕ
taken_by Mean t = mean_of t
taken_by (Limit z) t = limit_of t z

-- the corrected values of the two windows of the gap from a up to, and without, e: w entries before it and w after it
unfoldable pub window_values : List ℕ → ℕ → ℕ → ℕ → List ℕ
window_values corrected a e w = cut corrected (a - w) a ++ cut corrected e (e + w)

-- Rule 8.3: a replacement is found, or the outcome is given that excludes the interval
pub data Replaced : Type 0 where
  by : ℕ → Replaced
  excluded : ℕ → Replaced

-- what comes of the gap from a up to e, by its class: nothing stands in for a window that is not whole
abbrev pub replaced_in : List ℕ → List ℕ → ℕ → ℕ → Option (ℕ × Rule) → Replaced
replaced_in reading corrected a e None = excluded too_long
replaced_in reading corrected a e (Some (w, rule)) =
    pick (whole reading a e w) (by (taken_by rule (tally_of (window_values corrected a e w)))) (excluded not_whole)

unfoldable pub replacement_of : List ℕ → List ℕ → ℕ → ℕ → Replaced
replacement_of reading corrected a e = replaced_in reading corrected a e (class_of (e - a))

-- what comes of interval i, whose reading is missing: that of its gap
unfoldable pub replacement_at : List ℕ → List ℕ → ℕ → Replaced
replacement_at reading corrected i = replacement_of reading corrected (gap_start reading i) (gap_end reading i)

-- both sides of each border of the table
borders : (class_of 23 ≡ Some (16, Mean)) × (class_of 24 ≡ Some (96, Limit 271)) × (class_of 95 ≡ Some (96, Limit 271))
    × (class_of 96 ≡ Some (288, Limit 385)) × (class_of 672 ≡ Some (288, Limit 385)) × (class_of 673 ≡ None)
unfolding class_of
borders = (refl, refl, refl, refl, refl, refl)
