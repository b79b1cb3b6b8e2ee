-- A sheet's figures in arrays: the thirteen that are never negative in the order of the sheet, and the two that can be.
-- Assumes nothing.
use Rattle.std.specs.Prelude.{ℕ, ◌≡◌, refl, List, [], ◌∷◌, ℤ, pos, get_or}
use Rattle.figures.specs.declared.Figures.{Figures}

unfoldable pub amounts_of : Figures → List ℕ
amounts_of f =
    f.intervals
    ∷ f.devices
    ∷ f.counted
    ∷ f.replaced
    ∷ f.excluded
    ∷ f.methane_l
    ∷ f.destroyed_l
    ∷ f.uncombusted_l
    ∷ f.baseline_mg
    ∷ f.co2_mg
    ∷ f.uncombusted_mg
    ∷ f.fuel_mg
    ∷ f.credits
    ∷ []

unfoldable pub balances_of : Figures → List ℤ
balances_of f = f.reduction_mg ∷ f.tonnes ∷ []

unfoldable pub figures_in : List ℕ → List ℤ → Figures
figures_in a b =
    record {
      intervals = get_or a 0 0;
      devices = get_or a 1 0;
      counted = get_or a 2 0;
      replaced = get_or a 3 0;
      excluded = get_or a 4 0;
      methane_l = get_or a 5 0;
      destroyed_l = get_or a 6 0;
      uncombusted_l = get_or a 7 0;
      baseline_mg = get_or a 8 0;
      co2_mg = get_or a 9 0;
      uncombusted_mg = get_or a 10 0;
      fuel_mg = get_or a 11 0;
      reduction_mg = get_or b 0 (pos 0);
      tonnes = get_or b 1 (pos 0);
      credits = get_or a 12 0;
    }

-- what is given can be taken back
same_back : (f : Figures) → figures_in (amounts_of f) (balances_of f) ≡ f
unfolding figures_in amounts_of balances_of
same_back f = refl
