-- Where gaps lie and whether their windows are whole (rules 7.1 to 7.3 of docs/RULES.md). Nothing here looks at a value, only at
-- which readings of one series are missing. First the rules, then the form that computes them.
-- Assumes nothing.
use Rattle.std.specs.Prelude.{ℕ, zero, suc, ◌+◌, ◌-◌, ◌≤◌, ◌<◌, ◌≡◌, refl, Bool, true, false, not, List, [], ◌∷◌, ltb, length, get_or, drop}
use Rattle.rows.specs.Rows.{pick, both, every}
use Rattle.protocol.specs.Ranges.{missing, mark}

-- ---- The rules

-- the reading at interval i is missing, or there is none: an absent entry serves as little as a missing one
abbrev pub missing_at : List ℕ → ℕ → Bool
missing_at row i = missing (get_or row i mark)

abbrev pub measured_at : List ℕ → ℕ → Bool
measured_at row i = not (missing_at row i)

-- Rule 7.1: the intervals from a up to, and without, e are a gap: there are some, all are missing, and on neither side does the
-- run go on
pub record IsGap (row : List ℕ) (a e : ℕ) : Type 0 where
  pub some : a < e
  pub inside : e ≤ length row
  pub all_missing : (k : ℕ) → a ≤ k → k < e → missing_at row k ≡ true
  pub first : 0 < a → measured_at row (a - 1) ≡ true
  pub last : e < length row → measured_at row e ≡ true

-- Rule 7.2: the two windows of that gap are whole: each of the w entries directly before it and each of the w directly after it
-- is inside the row and measured
pub record WindowsWhole (row : List ℕ) (a e w : ℕ) : Type 0 where
  pub before : (k : ℕ) → k < w → (k < a) × (measured_at row (a - (k + 1)) ≡ true)
  pub after : (k : ℕ) → k < w → (e + k < length row) × (measured_at row (e + k) ≡ true)

-- Rule 8.1: the outcome of a missing reading whose gap is too long, and of one whose gap has windows that are not whole
abbrev pub too_long : ℕ
too_long = 8

abbrev pub not_whole : ℕ
not_whole = 9

-- ---- The computing form, which code and examples use. proofs/Laws.antt has that it is the same: gap_start and gap_end give the one
-- gap around a missing interval (`gap_is`, `around`, `gap_unique`), and `whole` tests for WindowsWhole (`whole_is`, `is_whole`).

-- where the run of missing readings that reaches up to interval i begins
unfoldable pub gap_start : List ℕ → ℕ → ℕ
gap_start row zero = 0
gap_start row (suc i) = pick (missing_at row i) (gap_start row i) (suc i)

-- how many readings at the front of a row are missing
unfoldable pub run : List ℕ → ℕ
run [] = 0
run (v ∷ vs) = pick (missing v) (suc (run vs)) 0

-- the interval after the run of missing readings that begins at interval i or goes on there
unfoldable pub gap_end : List ℕ → ℕ → ℕ
gap_end row i = i + run (drop i row)

-- place k can be used, in the window before the gap (side 0), counted back from the gap, and in the one after it, counted on
unfoldable pub usable : List ℕ → ℕ → ℕ → ℕ → ℕ → Bool
usable row a e zero k = both (ltb k a) (measured_at row (a - (k + 1)))
usable row a e (suc side) k = measured_at row (e + k)

unfoldable pub whole : List ℕ → ℕ → ℕ → ℕ → Bool
whole row a e w = every 2 (λ side. every w (usable row a e side))

-- ---- Examples

-- three measured readings, a gap of two, two measured ones
sample : List ℕ
sample = 7 ∷ 7 ∷ 7 ∷ mark ∷ mark ∷ 7 ∷ 7 ∷ []

begins : gap_start sample 4 ≡ 3
unfolding gap_start sample
begins = refl

ends : gap_end sample 4 ≡ 5
unfolding gap_end run sample
ends = refl

whole_two : whole sample 3 5 2 ≡ true
unfolding whole usable sample
whole_two = refl

-- the row ends before the third place after the gap
broken_three : whole sample 3 5 3 ≡ false
unfolding whole usable sample
broken_three = refl
