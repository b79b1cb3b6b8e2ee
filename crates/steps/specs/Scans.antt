-- What only the contracts of scans need: nobody has to believe it to believe a verdict.
-- Assumes nothing.
use Rattle.std.specs.Prelude.{ℕ, ◌+◌, ◌*◌, ◌≤◌, ◌<◌, ◌≡◌, List, [], ◌∷◌, length, Option, Some, None}
use Rattle.rows.specs.Rows.{FirstOf}
use Rattle.protocol.specs.Ranges.{devices_most, checks_most, things}
use Rattle.columns.specs.Series.{Checks}
use Rattle.steps.specs.Step.{Step}

-- r is the first thing that a step finds bad, or its size
abbrev pub Finds : Step → ℕ → Type 0
Finds s r = FirstOf s.size s.bad r

-- the same of the things of instruments, of which g's thing t is number 33 g + t; none if all are right
abbrev pub FindsThing : Step → Option (ℕ × ℕ) → Type 0
FindsThing s (Some (g, t)) = (t < things) × (things * g + t < s.size) × Finds s (things * g + t)
FindsThing s None = Finds s s.size

-- two lists of the same length, as one list of pairs
abbrev pub paired : List ℕ → List ℕ → List (ℕ × ℕ)
paired [] ys = []
paired (x ∷ xs) [] = []
paired (x ∷ xs) (y ∷ ys) = (x, y) ∷ paired xs ys

-- the checks of no more instruments than a record can have, with their places
pub record Kept (c : Checks) : Type 0 where
  pub few : length c.counts ≤ 2 * devices_most
  pub positions : length c.positions ≡ checks_most * length c.counts
  pub drifts : length c.drifts ≡ length c.positions
