-- What only the contract of `add` needs. No promise of a public call rests on it.
-- Assumes nothing.
use Rattle.std.specs.Prelude.{ℕ, ◌+◌, ◌≤◌, ◌≡◌, length}
use Rattle.protocol.specs.Ranges.{intervals_most}
use Rattle.balance.specs.Balance.{baseline_in_mg, carbon_dioxide_mg, uncombusted_in_mg, device_most}
use Rattle.accounts.specs.declared.Account.{Account}
use Rattle.accounts.specs.declared.Totals.{Totals}
use Rattle.accounts.specs.Account.{outcome_kinds, count_in}
use Rattle.accounts.specs.Totals.{counted_in, replaced_in, excluded_in}

-- totals with one account more
unfoldable pub added : Totals → Account → Totals
added t a =
    record {
      counted = t.counted + counted_in a;
      replaced = t.replaced + replaced_in a;
      excluded = t.excluded + excluded_in a;
      methane = t.methane + a.methane;
      destroyed = t.destroyed + a.destroyed;
      uncombusted = t.uncombusted + a.uncombusted;
      baseline_mg = t.baseline_mg + baseline_in_mg a.methane;
      co2_mg = t.co2_mg + carbon_dioxide_mg a.destroyed;
      uncombusted_mg = t.uncombusted_mg + uncombusted_in_mg a.uncombusted;
    }

-- an account of a year
pub record Modest (a : Account) : Type 0 where
  pub ten : length a.outcomes ≡ outcome_kinds
  pub count_most : (j : ℕ) → count_in a j ≤ intervals_most
  pub methane_most : a.methane ≤ device_most
  pub destroyed_most : a.destroyed ≤ device_most
  pub uncombusted_most : a.uncombusted ≤ device_most

-- totals that leave room for one more within 64 bits
pub record Room (t : Totals) : Type 0 where
  pub counted_room : t.counted ≤ 4611686018427387904
  pub replaced_room : t.replaced ≤ 4611686018427387904
  pub excluded_room : t.excluded ≤ 4611686018427387904
  pub methane_room : t.methane ≤ 4611686018427387904
  pub destroyed_room : t.destroyed ≤ 4611686018427387904
  pub uncombusted_room : t.uncombusted ≤ 4611686018427387904
  pub baseline_room : t.baseline_mg ≤ 4611686018427387904
  pub co2_room : t.co2_mg ≤ 4611686018427387904
  pub uncombusted_mg_room : t.uncombusted_mg ≤ 4611686018427387904
