-- The sheet's figures (rule 11.3): N and D, counts of device-intervals, sums over devices, and the fuel once.
-- Assumes nothing.
use Rattle.std.specs.Prelude.{ℕ, length, get_or, ℤ}
use Rattle.columns.specs.Series.{Fuel}
use Rattle.balance.specs.Balance.{fuel_in_mg, equation1, tonnes_of, credits_of}
use Rattle.figures.specs.declared.Figures.{Figures}
use Rattle.accounts.specs.declared.Totals.{Totals}

-- rule 9.10: fuel mg, over all fuel lines and once
unfoldable pub fuel_sum : Fuel → ℕ
fuel_sum f = fuel_in_mg (length f.quantity) (λ k. get_or f.quantity k 0) (λ k. get_or f.factor k 0)

-- rule 11.3: the sheet's lines, in order, from N, D, the sums over devices and the fuel. Reduction, tonnes and credits
-- are those of rules 9.11 to 9.13.
unfoldable pub figures_from : ℕ → ℕ → Totals → ℕ → Figures
figures_from intervals devices t fuel =
    let reduction : ℤ = equation1 t.baseline_mg t.co2_mg t.uncombusted_mg fuel in
    record {
      intervals = intervals;
      devices = devices;
      counted = t.counted;
      replaced = t.replaced;
      excluded = t.excluded;
      methane_l = t.methane;
      destroyed_l = t.destroyed;
      uncombusted_l = t.uncombusted;
      baseline_mg = t.baseline_mg;
      co2_mg = t.co2_mg;
      uncombusted_mg = t.uncombusted_mg;
      fuel_mg = fuel;
      reduction_mg = reduction;
      tonnes = tonnes_of reduction;
      credits = credits_of (tonnes_of reduction);
    }
