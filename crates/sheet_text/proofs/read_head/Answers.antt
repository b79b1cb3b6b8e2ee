-- `sheet_text::read_head` meets its contract: one fact a line, each from the one before. Assumes nothing.
use native.Mathlib.Omega.{arith}
use Rattle.sheet_text.specs.Sheet.{schema}
use Rattle.sheet_text.specs.Head.{volumes_of}
use Rattle.text.proofs.Tables.{lines_none}
use Rattle.sheet_text.proofs.Steps.{line_step, line_refused, given_on}
use Rattle.sheet_text.proofs.read_head.Goals as goal

pub returns-in_err-intervals : goal.returns-in_err-intervals
unfolding schema
returns-in_err-intervals c =
    let f0 = lines_none c.args.t.now 0 (omega arith) in
    given_on _ c.from_residual.result c.from_residual.ensures.1 (line_refused 0 (omega arith) f0 c.in_err-intervals.ensures)

pub returns-in_err-devices : goal.returns-in_err-devices
unfolding schema
returns-in_err-devices c =
    let f0 = lines_none c.args.t.now 0 (omega arith) in
    let f1 = line_step 0 (omega arith) f0 c.in_ok-intervals.ensures in
    given_on _ c.from_residual-in_err-devices.result c.from_residual-in_err-devices.ensures.1 (line_refused 1 (omega arith) f1 c.in_err-devices.ensures)

pub returns-in_err-counted : goal.returns-in_err-counted
unfolding schema
returns-in_err-counted c =
    let f0 = lines_none c.args.t.now 0 (omega arith) in
    let f1 = line_step 0 (omega arith) f0 c.in_ok-intervals.ensures in
    let f2 = line_step 1 (omega arith) f1 c.in_ok-devices.ensures in
    given_on _ c.from_residual-in_err-counted.result c.from_residual-in_err-counted.ensures.1 (line_refused 2 (omega arith) f2 c.in_err-counted.ensures)

pub returns-in_err-replaced : goal.returns-in_err-replaced
unfolding schema
returns-in_err-replaced c =
    let f0 = lines_none c.args.t.now 0 (omega arith) in
    let f1 = line_step 0 (omega arith) f0 c.in_ok-intervals.ensures in
    let f2 = line_step 1 (omega arith) f1 c.in_ok-devices.ensures in
    let f3 = line_step 2 (omega arith) f2 c.in_ok-counted.ensures in
    given_on _ c.from_residual-in_err-replaced.result c.from_residual-in_err-replaced.ensures.1 (line_refused 3 (omega arith) f3 c.in_err-replaced.ensures)

pub returns-in_err-excluded : goal.returns-in_err-excluded
unfolding schema
returns-in_err-excluded c =
    let f0 = lines_none c.args.t.now 0 (omega arith) in
    let f1 = line_step 0 (omega arith) f0 c.in_ok-intervals.ensures in
    let f2 = line_step 1 (omega arith) f1 c.in_ok-devices.ensures in
    let f3 = line_step 2 (omega arith) f2 c.in_ok-counted.ensures in
    let f4 = line_step 3 (omega arith) f3 c.in_ok-replaced.ensures in
    given_on _ c.from_residual-in_err-excluded.result c.from_residual-in_err-excluded.ensures.1 (line_refused 4 (omega arith) f4 c.in_err-excluded.ensures)

pub returns-in_err-methane_l : goal.returns-in_err-methane_l
unfolding schema
returns-in_err-methane_l c =
    let f0 = lines_none c.args.t.now 0 (omega arith) in
    let f1 = line_step 0 (omega arith) f0 c.in_ok-intervals.ensures in
    let f2 = line_step 1 (omega arith) f1 c.in_ok-devices.ensures in
    let f3 = line_step 2 (omega arith) f2 c.in_ok-counted.ensures in
    let f4 = line_step 3 (omega arith) f3 c.in_ok-replaced.ensures in
    let f5 = line_step 4 (omega arith) f4 c.in_ok-excluded.ensures in
    given_on _ c.from_residual-in_err-methane_l.result c.from_residual-in_err-methane_l.ensures.1 (line_refused 5 (omega arith) f5 c.in_err-methane_l.ensures)

pub returns-in_err-destroyed_l : goal.returns-in_err-destroyed_l
unfolding schema
returns-in_err-destroyed_l c =
    let f0 = lines_none c.args.t.now 0 (omega arith) in
    let f1 = line_step 0 (omega arith) f0 c.in_ok-intervals.ensures in
    let f2 = line_step 1 (omega arith) f1 c.in_ok-devices.ensures in
    let f3 = line_step 2 (omega arith) f2 c.in_ok-counted.ensures in
    let f4 = line_step 3 (omega arith) f3 c.in_ok-replaced.ensures in
    let f5 = line_step 4 (omega arith) f4 c.in_ok-excluded.ensures in
    let f6 = line_step 5 (omega arith) f5 c.in_ok-methane_l.ensures in
    given_on _ c.from_residual-in_err-destroyed_l.result c.from_residual-in_err-destroyed_l.ensures.1 (line_refused 6 (omega arith) f6 c.in_err-destroyed_l.ensures)

pub returns-in_err-uncombusted_l : goal.returns-in_err-uncombusted_l
unfolding schema
returns-in_err-uncombusted_l c =
    let f0 = lines_none c.args.t.now 0 (omega arith) in
    let f1 = line_step 0 (omega arith) f0 c.in_ok-intervals.ensures in
    let f2 = line_step 1 (omega arith) f1 c.in_ok-devices.ensures in
    let f3 = line_step 2 (omega arith) f2 c.in_ok-counted.ensures in
    let f4 = line_step 3 (omega arith) f3 c.in_ok-replaced.ensures in
    let f5 = line_step 4 (omega arith) f4 c.in_ok-excluded.ensures in
    let f6 = line_step 5 (omega arith) f5 c.in_ok-methane_l.ensures in
    let f7 = line_step 6 (omega arith) f6 c.in_ok-destroyed_l.ensures in
    given_on _ c.from_residual-in_err-uncombusted_l.result c.from_residual-in_err-uncombusted_l.ensures.1 (line_refused 7 (omega arith) f7 c.in_err-uncombusted_l.ensures)

pub returns : goal.returns
unfolding schema volumes_of
returns c =
    let f0 = lines_none c.args.t.now 0 (omega arith) in
    let f1 = line_step 0 (omega arith) f0 c.in_ok-intervals.ensures in
    let f2 = line_step 1 (omega arith) f1 c.in_ok-devices.ensures in
    let f3 = line_step 2 (omega arith) f2 c.in_ok-counted.ensures in
    let f4 = line_step 3 (omega arith) f3 c.in_ok-replaced.ensures in
    let f5 = line_step 4 (omega arith) f4 c.in_ok-excluded.ensures in
    let f6 = line_step 5 (omega arith) f5 c.in_ok-methane_l.ensures in
    let f7 = line_step 6 (omega arith) f6 c.in_ok-destroyed_l.ensures in
    line_step 7 (omega arith) f7 c.in_ok-uncombusted_l.ensures
