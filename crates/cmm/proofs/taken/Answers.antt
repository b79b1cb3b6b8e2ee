-- `cmm::taken` meets its contract, field by field. Assumes nothing.
use mir.ValLaws.{to_z-of_z}
use mir.Syntax.{w64}
use native.Mathlib.Omega.{arith}
use lib.IntN.{pos}
use lib.ListN.{get_or}
use Rattle.cmm.specs.Figures.{figures_in}
use Rattle.cmm.proofs.taken.Goals as goal

pub returns : goal.returns
unfolding figures_in
returns c =
    let a = c.args.amounts.now in
    let b = c.args.balances.now in
    λ i. record {
      intervals = get_or a 0 0;
      devices = get_or a 1 0;
      counted = get_or a 2 0;
      replaced = get_or a 3 0;
      excluded = get_or a 4 0;
      methane_l = get_or a 5 0;
      destroyed_l = get_or a 6 0;
      uncombusted_l = get_or a 7 0;
      baseline_mg = get_or a 8 0;
      co2_mg = get_or a 9 0;
      uncombusted_mg = get_or a 10 0;
      fuel_mg = get_or a 11 0;
      reduction_mg = to_z-of_z w64 (get_or b 0 (pos 0)) (record { sfits = omega arith }) i;
      tonnes = to_z-of_z w64 (get_or b 1 (pos 0)) (record { sfits = omega arith }) i;
      credits = get_or a 12 0;
    }
