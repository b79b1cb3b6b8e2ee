-- A line of 64 bits is short.
use native.Mathlib.Omega.{arith}
use lib.IntN.{pos}
use Rattle.text.proofs.Decimals.{dec_20}
use Rattle.text.proofs.Writing.{line_length}
use Rattle.sheet_cases.proofs.print_line.Goals as goal

pub line-requires : goal.line-requires
line-requires g c =
    omega (arith, line_length c.args.key.now (pos c.args.v), dec_20 c.args.v (omega arith), c.requires)
