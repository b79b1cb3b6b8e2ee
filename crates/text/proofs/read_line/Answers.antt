-- `text::read_line` meets its contract: the key, then the number. Assumes nothing.
use Rattle.text.specs.Decimal.{number}
use Rattle.text.proofs.Keyed.{key_broken}
use Rattle.text.proofs.Lines.{line_in}
use Rattle.text.proofs.read_line.Goals as goal

pub returns-then-n-key : goal.returns-then-n-key
returns-then-n-key g c =
    let a = c.args in
    let some = g.met.R.Bounds.some a.range a.t.now a.start 10 c.requires in
    key_broken a.key.now (number (g.R.Bounds.range a.range) 10) a.t.now a.start c.matched-n.result c.matched-n.ensures some.0 some.1 c.if-n-key.true

pub returns : goal.returns
returns g c =
    let a = c.args in
    line_in g.R.Bounds.number_of a.t.now a.start c.matched-n.result a.key.now (g.R.Bounds.range a.range)
    c.matched-n.ensures c.if-n-key.false c.read.result c.read.ensures
