-- The difference, with its sign.
use Rattle.balance.proofs.Laws.{less_back}
use Rattle.balance.proofs.reduction.Goals as goal

pub returns : goal.returns
returns c = less_back c.args.credit c.args.debit c.requires.credit_most c.requires.debit_most
