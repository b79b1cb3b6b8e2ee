-- No more is counted than the text can hold.
use Rattle.std.proofs.Common.{◌≤◌, length}
use Rattle.sheet.proofs.read_full.Given as goal

abbrev pub invariant-loop : goal.invariant-loop
invariant-loop g l = l.n ≤ length l.text
