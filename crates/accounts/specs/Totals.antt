-- Sums over devices, each of its own account.
-- Assumes nothing.
use Rattle.std.specs.Prelude.{ℕ, ◌+◌}
use Rattle.rows.specs.Rows.{sum_to}
use Rattle.balance.specs.Balance.{baseline_in_mg, carbon_dioxide_mg, uncombusted_in_mg}
use Rattle.accounts.specs.declared.Account.{Account}
use Rattle.accounts.specs.declared.Totals.{Totals}
use Rattle.accounts.specs.Account.{count_in}

-- rule 8.2: outcomes 0, 1 and 2 are counted, of which 1 and 2 are replaced; 3 to 9 exclude
unfoldable pub counted_in : Account → ℕ
counted_in a = count_in a 0 + count_in a 1 + count_in a 2

unfoldable pub replaced_in : Account → ℕ
replaced_in a = count_in a 1 + count_in a 2

unfoldable pub excluded_in : Account → ℕ
excluded_in a = sum_to 7 (λ j. count_in a (3 + j))

-- over devices 0 up to, and without, `devices`; mg by rules 9.7 to 9.9, CO2 rounded for each device and then summed
unfoldable pub totals_over : ℕ → (ℕ → Account) → Totals
totals_over devices account =
    record {
      counted = sum_to devices (λ d. counted_in (account d));
      replaced = sum_to devices (λ d. replaced_in (account d));
      excluded = sum_to devices (λ d. excluded_in (account d));
      methane = sum_to devices (λ d. (account d).methane);
      destroyed = sum_to devices (λ d. (account d).destroyed);
      uncombusted = sum_to devices (λ d. (account d).uncombusted);
      baseline_mg = sum_to devices (λ d. baseline_in_mg (account d).methane);
      co2_mg = sum_to devices (λ d. carbon_dioxide_mg (account d).destroyed);
      uncombusted_mg = sum_to devices (λ d. uncombusted_in_mg (account d).uncombusted);
    }

-- of no device
abbrev pub no_totals : Totals
no_totals =
    record { counted = 0; replaced = 0; excluded = 0; methane = 0; destroyed = 0; uncombusted = 0; baseline_mg = 0; co2_mg = 0; uncombusted_mg = 0 }
