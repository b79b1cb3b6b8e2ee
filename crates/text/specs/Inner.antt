-- What the small steps of the readers answer. Only private contracts need these.
use Rattle.std.specs.Prelude.{ℕ, ◌+◌, ◌*◌, ◌≡◌, Bool, true, false, List, length, get_or}
use Rattle.text.specs.Form.{Stands}

-- The whole key stands in t from `start`, or does not.
pub record SameKey (t : List ℕ) (start : ℕ) (key : List ℕ) (r : Bool) : Type 0 where
  pub same : r ≡ true → Stands t start (start + length key) key
  pub other : r ≡ false → Stands t start (start + length key) key → ⊥

-- four bytes as one number, the first the lowest
abbrev pub word_at : List ℕ → ℕ → ℕ
word_at t p = get_or t p 0 + 256 * get_or t (p + 1) 0 + 65536 * get_or t (p + 2) 0 + 16777216 * get_or t (p + 3) 0
