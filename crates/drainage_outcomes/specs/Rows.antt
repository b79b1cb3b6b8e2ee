-- The three result rows (rule 3.11), as the lists that they hold: a contract speaks of these alone.
-- Assumes nothing.
use Rattle.std.specs.Prelude.{ℕ, ◌≡◌, List, length}
use Rattle.std.specs.Borrow.{MutBor}
use Rattle.drainage_outcomes.specs.declared.Rows as LentRows

-- of a device, or of all devices one after the other, device 0 first
pub record Rows : Type 0 where
  pub outcome : List ℕ
  pub flow : List ℕ
  pub content : List ℕ

-- made of lists
abbrev pub rows_of : List ℕ → List ℕ → List ℕ → Rows
rows_of outcome flow content = record { outcome = outcome; flow = flow; content = content }

-- what rows that are lent hold when they come, and what they are left with
abbrev pub rows_in : LentRows.Rows → Rows
rows_in r = rows_of r.outcome.now r.flow.now r.content.now

abbrev pub rows_left : MutBor (List ℕ) × (MutBor (List ℕ) × (MutBor (List ℕ) × Unit {0})) → Rows
rows_left x = rows_of x.0.now x.1.0.now x.1.1.0.now

-- each of the three has n entries
pub record RowsLong (r : Rows) (n : ℕ) : Type 0 where
  pub outcome : length r.outcome ≡ n
  pub flow : length r.flow ≡ n
  pub content : length r.content ≡ n
