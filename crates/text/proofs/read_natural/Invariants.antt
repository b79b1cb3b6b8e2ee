-- `text::read_natural` meets its contract. The invariant: the digits of v, which is in the range and not 0, stand from the start. Assumes nothing.
use Prim.Native.Nat.{ℕ, ◌≤◌, ◌<◌}
use mathlib.Core.List.{List}
use Rattle.text.specs.Form.{Stands}
use Rattle.text.specs.Answer.{Asked}
use Rattle.text.specs.Decimal.{dec}
use Rattle.text.proofs.read_natural.Given as goal

pub record Reading (t : List ℕ) (start least most end v i : ℕ) : Type 0 where
  pub asked : Asked t start least most end
  pub some : 0 < v
  pub low : least ≤ v
  pub high : v ≤ most
  pub stands : Stands t start i (dec v)

abbrev pub invariant-loop-i : goal.invariant-loop-i
invariant-loop-i l = Reading l.t l.start l.least l.most l.end l.v l.i
