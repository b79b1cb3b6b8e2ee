-- What an accepted call gives agrees with itself, row by row, account by account and line by line.
-- Assumes nothing.
use Rattle.std.specs.Prelude.{ℕ, ◌+◌, ◌*◌, ◌<◌, ◌≡◌, Bool, not, List, eqb, get_or}
use Rattle.rows.specs.Rows.{pick, either, sum_to, count_of}
use Rattle.figures.specs.declared.Figures.{Figures}
use Rattle.accounts.specs.Account.{outcome_kinds, counted, account_size}

-- what a call gives, read off its outcome row and its accounts: the outcome of entry k, how often device d has outcome j, and
-- device d's litres
abbrev pub outcome_given : List ℕ → ℕ → ℕ
outcome_given outcome k = get_or outcome k 0

abbrev pub count_given : List ℕ → ℕ → ℕ → ℕ
count_given accounts d j = get_or accounts (d * account_size + j) 0

abbrev pub methane_given : List ℕ → ℕ → ℕ
methane_given accounts d = get_or accounts (d * account_size + outcome_kinds) 0

abbrev pub destroyed_given : List ℕ → ℕ → ℕ
destroyed_given accounts d = get_or accounts (d * account_size + (outcome_kinds + 1)) 0

abbrev pub uncombusted_given : List ℕ → ℕ → ℕ
uncombusted_given accounts d = get_or accounts (d * account_size + (outcome_kinds + 2)) 0

-- how many of so many outcomes that the call gives meet a test
abbrev pub entries_with : ℕ → List ℕ → (ℕ → Bool) → ℕ
entries_with entries outcome test = sum_to entries (λ k. pick (test (outcome_given outcome k)) 1 0)

pub record Accounted (intervals devices : ℕ) (outcome accounts : List ℕ) (f : Figures) : Type 0 where
  -- the sheet counts the entries of the outcome row that the call gives (rules 8.2 and 11.3), every entry once
  pub sheet_counted : f.counted ≡ entries_with (devices * intervals) outcome counted
  pub sheet_replaced : f.replaced ≡ entries_with (devices * intervals) outcome (λ o. either (eqb o 1) (eqb o 2))
  pub sheet_excluded : f.excluded ≡ entries_with (devices * intervals) outcome (λ o. not (counted o))
  pub all_counted : f.counted + f.excluded ≡ devices * intervals
  -- so does each device's account its own part of that row (rule 8.6)
  pub counts : (d : ℕ) → d < devices → (j : ℕ) → j < outcome_kinds
      → count_given accounts d j ≡ count_of intervals (λ k. outcome_given outcome (d * intervals + k)) j
  pub counts_add : (d : ℕ) → d < devices → sum_to outcome_kinds (count_given accounts d) ≡ intervals
  -- each litre is destroyed or uncombusted, once, of each device and of the sheet (rules 9.6 and 19.8)
  pub partition : (d : ℕ) → d < devices → destroyed_given accounts d + uncombusted_given accounts d ≡ methane_given accounts d
  pub sheet_partition : f.destroyed_l + f.uncombusted_l ≡ f.methane_l
  -- the sheet's litres are the sums of the accounts' (rule 11.3)
  pub methane_sum : f.methane_l ≡ sum_to devices (methane_given accounts)
  pub destroyed_sum : f.destroyed_l ≡ sum_to devices (destroyed_given accounts)
  pub uncombusted_sum : f.uncombusted_l ≡ sum_to devices (uncombusted_given accounts)
