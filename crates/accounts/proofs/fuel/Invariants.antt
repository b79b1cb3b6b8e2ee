-- The sum over fuel lines, within 64 bits.
use Rattle.columns.specs.Lent.{fuel_in}
use Rattle.accounts.proofs.Burning.{Burning}
use Rattle.accounts.proofs.fuel.Given as goal

abbrev pub invariant-loop-i : goal.invariant-loop-i
invariant-loop-i l = Burning (fuel_in l.fuel) l.sum l.i
