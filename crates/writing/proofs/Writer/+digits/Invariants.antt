-- `writing::Writer::digits` meets its contract, by the number of which it writes the digits. Assumes nothing.
use Rattle.writing.proofs.Writer.+digits.Given as goal

abbrev pub decreases-digits : goal.decreases-digits
decreases-digits l = l.v
