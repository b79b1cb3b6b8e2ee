-- What only the contracts of private functions need: what a row holds between two passes. No public promise rests on this
-- file.
-- Assumes nothing.
use Rattle.std.specs.Prelude.{ℕ, ◌+◌, ◌≤◌, ◌≡◌, false, List, length, get_or}
use Rattle.rows.specs.Rows.{pick}
use Rattle.protocol.specs.Ranges.{mark}
use Rattle.drainage_runs.specs.Runs.{missing_at}
use Rattle.drainage_runs.specs.Private.{excluding}
use Rattle.drainage_gaps.specs.Gaps.{Replaced, replacement_at}

-- what a gap's entries hold until outcomes are given: the replacement, or the outcome that excludes the interval
unfoldable pub held_for : Replaced → ℕ
held_for (Replaced.by v) = v
held_for (Replaced.excluded o) = excluding + o

unfoldable pub filled_at : List ℕ → List ℕ → ℕ → ℕ
filled_at reading corrected i = pick (missing_at reading i) (held_for (replacement_at reading corrected i)) (get_or corrected i mark)

-- the corrected row goes with the readings, and its measured values are at most b
pub record Goes (reading corrected : List ℕ) (b : ℕ) : Type 0 where
  pub same_length : length corrected ≡ length reading
  pub most : (k : ℕ) → missing_at reading k ≡ false → get_or corrected k mark ≤ b
