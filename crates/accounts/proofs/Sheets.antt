-- The sheet as the code makes it.
-- Assumes nothing.
use Prim.Native.Nat.{ℕ, ◌+◌}
use mathlib.Core.Path.{◌≡◌, ap, ◌∙◌}
use lib.IntN.{ℤ}
use Rattle.balance.specs.Balance.{reduction_of, tonnes_of, credits_of}
use Rattle.accounts.specs.declared.Totals.{Totals}
use Rattle.accounts.specs.Sheet.{figures_from}

pub sheet_of : (intervals devices : ℕ) (t : Totals) (fuel : ℕ) (reduction tonnes : ℤ) (credits : ℕ)
    → reduction ≡ reduction_of t.baseline_mg (t.co2_mg + t.uncombusted_mg + fuel)
    → tonnes ≡ tonnes_of (reduction_of t.baseline_mg (t.co2_mg + t.uncombusted_mg + fuel))
    → credits ≡ credits_of tonnes
    → record {
      intervals = intervals;
      devices = devices;
      counted = t.counted;
      replaced = t.replaced;
      excluded = t.excluded;
      methane_l = t.methane;
      destroyed_l = t.destroyed;
      uncombusted_l = t.uncombusted;
      baseline_mg = t.baseline_mg;
      co2_mg = t.co2_mg;
      uncombusted_mg = t.uncombusted_mg;
      fuel_mg = fuel;
      reduction_mg = reduction;
      tonnes = tonnes;
      credits = credits;
    }
    ≡ figures_from intervals devices t fuel
unfolding figures_from
sheet_of n d t fuel r y c p q s i =
    record {
      intervals = n;
      devices = d;
      counted = t.counted;
      replaced = t.replaced;
      excluded = t.excluded;
      methane_l = t.methane;
      destroyed_l = t.destroyed;
      uncombusted_l = t.uncombusted;
      baseline_mg = t.baseline_mg;
      co2_mg = t.co2_mg;
      uncombusted_mg = t.uncombusted_mg;
      fuel_mg = fuel;
      reduction_mg = p i;
      tonnes = q i;
      credits = (s ∙ ap credits_of q) i;
    }
