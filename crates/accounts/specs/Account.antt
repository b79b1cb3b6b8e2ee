-- A device's account, and how it stands in the accounts that a call gives.
-- Assumes nothing.
use Rattle.std.specs.Prelude.{ℕ, ◌+◌, ◌*◌, Bool, List, [], ◌∷◌, ◌++◌, ltb, get_or, drop}
use Rattle.rows.specs.Rows.{join}
use Rattle.accounts.specs.declared.Account.{Account}

-- how many outcomes there are, from 0 (rule 8.1)
abbrev pub outcome_kinds : ℕ
outcome_kinds = 10

-- rule 8.2: outcomes 0, 1 and 2 are counted, the others exclude the interval
abbrev pub counted : ℕ → Bool
counted outcome = ltb outcome 3

-- how many of a device's intervals have outcome j (rule 8.6)
abbrev pub count_in : Account → ℕ → ℕ
count_in a j = get_or a.outcomes j 0

-- a device's account as numbers: how often each outcome comes (rule 8.6), then the litres of methane, those destroyed and
-- those left uncombusted (rules 9.3 to 9.5, rule 19.8)
abbrev pub numbers_of : Account → List ℕ
numbers_of a = a.outcomes ++ (a.methane ∷ a.destroyed ∷ a.uncombusted ∷ [])

-- how many numbers that is
abbrev pub account_size : ℕ
account_size = outcome_kinds + 3

-- the accounts of so many devices, device 0 first, and what stood behind them (rule 8.6)
abbrev pub accounts_of : ℕ → (ℕ → Account) → List ℕ → List ℕ
accounts_of devices account before = join devices (λ d. numbers_of (account d)) ++ drop (devices * account_size) before
