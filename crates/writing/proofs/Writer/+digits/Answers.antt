-- `writing::Writer::digits` meets its contract, by the number of which it writes the digits. Assumes nothing.
use native.Mathlib.Omega.{arith}
use Rattle.text.proofs.Decimals.{digits}
use Rattle.text.proofs.Writing.{digits_room}
use Rattle.writing.proofs.Parts.{one_digit, more_digits}
use Rattle.writing.proofs.Writer.+digits.Goals as goal

pub byte-requires : goal.byte-requires
byte-requires t c = omega (arith, (digits c.args.v).some)

pub digits-requires : goal.digits-requires
digits-requires t c = (omega arith, omega (arith, digits_room c.args.v (omega arith)))

pub byte-requires-else-v-lt10 : goal.byte-requires-else-v-lt10
byte-requires-else-v-lt10 t c = omega (arith, digits_room c.args.v (omega arith), c.digits.ensures.put.stops)

pub returns-then-v-lt10 : goal.returns-then-v-lt10
returns-then-v-lt10 t c = one_digit (omega arith) c.byte.ensures

pub returns-else-v-lt10 : goal.returns-else-v-lt10
returns-else-v-lt10 t c = more_digits (omega arith) c.digits.ensures c.byte-else-v-lt10.ensures
