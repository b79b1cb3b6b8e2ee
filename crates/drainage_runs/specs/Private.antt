-- What only the contracts of private functions need. No public promise rests on this file.
-- Assumes nothing.
use Rattle.std.specs.Prelude.{ℕ}

-- What a gap's entries hold until outcomes are given, where there is no replacement: this and the outcome that excludes the
-- interval. No reading reaches it.
abbrev pub excluding : ℕ
excluding = 65500

-- how many entries the search for the next gap looks at in one go
abbrev pub block : ℕ
block = 16
