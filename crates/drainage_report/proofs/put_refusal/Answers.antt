-- `drainage_report::put_refusal` meets its contract: the three lines one after the other. Assumes nothing.
use Rattle.std.proofs.Common.{arith, rules, ◌∙◌}
use Rattle.text.specs.Bytes.{bytes}
use Rattle.drainage_report.proofs.Laws.{line_most, refusal_leads}
use Rattle.drainage_report.proofs.put_refusal.Goals as goal

pub line-requires : goal.line-requires
line-requires c = omega (arith, line_most (bytes "refusal=") c.args.told.number (omega arith))

pub line-requires-2 : goal.line-requires-2
line-requires-2 c =
    omega (
      arith,
      c.line.ensures.put.stops,
      line_most (bytes "refusal=") c.args.told.number (omega arith),
      line_most (bytes "device=") c.args.told.device (omega arith),
    )

pub line-requires-3 : goal.line-requires-3
line-requires-3 c =
    omega (
      arith,
      c.line.ensures.put.stops,
      c.line-2.ensures.put.stops,
      line_most (bytes "refusal=") c.args.told.number (omega arith),
      line_most (bytes "device=") c.args.told.device (omega arith),
      line_most (bytes "place=") c.args.told.place (omega arith),
    )

pub returns : goal.returns
returns c =
    let done = refusal_leads c.args.told _ _ _ _ _ _ _ c.line.ensures.put c.line-2.ensures.put
    c.line-3.ensures.put (omega arith) (omega arith) (omega arith) c.requires in
    search (rules, done, c.line-3.ensures.same ∙ c.line-2.ensures.same ∙ c.line.ensures.same)
