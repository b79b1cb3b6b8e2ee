-- What only the contracts of private functions ask: how large a window's numbers are, so that every product fits 64 bits. No
-- public promise rests on this file.
-- Assumes nothing.
use Rattle.std.specs.Prelude.{ℕ, ◌+◌, ◌*◌, ◌≤◌, ◌<◌, List, length, get_or}
use Rattle.protocol.specs.Ranges.{flow_most}
use Rattle.drainage_window.specs.Window.{width95}
use Rattle.drainage_window.specs.declared.Tally.{Tally}

-- every value of a list is at most so much
pub record Low (most : ℕ) (xs : List ℕ) : Type 0 where
  pub low : (k : ℕ) → k < length xs → get_or xs k 0 ≤ most

-- the two windows of a gap: none is wider than that of the 95 % limit, and no value of either series is above flow's most
pub record Windows (before after : List ℕ) : Type 0 where
  pub some : 0 < length before + length after
  pub few_before : length before ≤ width95
  pub few_after : length after ≤ width95
  pub low_before : Low flow_most before
  pub low_after : Low flow_most after

-- the numbers of both windows together: the largest product, 100 × (n - 1) × (S - nL)², fits 64 bits
pub record Sized (t : Tally) : Type 0 where
  pub some : 0 < t.n
  pub few : t.n ≤ 2 * width95
  pub sum_most : t.sum ≤ t.n * flow_most
  pub squares_most : t.squares ≤ t.n * (flow_most * flow_most)
