-- `sheet_text::put_head` meets its contract: one fact a line, each from the one before. Assumes nothing.
use native.Mathlib.Omega.{arith}
use Rattle.sheet_text.specs.Sheet.{schema, values_of}
use Rattle.sheet_text.proofs.Steps.{put_room, put_step, put_none}
use Rattle.sheet_text.proofs.put_head.Goals as goal

pub line-requires : goal.line-requires
unfolding schema values_of
line-requires c =
    let f0 = put_none c.args.f c.args.to.now in
    put_room c.args.f c.requires.1 0 (omega arith) f0 c.requires.0

pub line-requires-2 : goal.line-requires-2
unfolding schema values_of
line-requires-2 c =
    let f0 = put_none c.args.f c.args.to.now in
    let f1 = put_step c.args.f c.requires.1 0 (omega arith) f0 c.line.ensures in
    put_room c.args.f c.requires.1 1 (omega arith) f1 c.requires.0

pub line-requires-3 : goal.line-requires-3
unfolding schema values_of
line-requires-3 c =
    let f0 = put_none c.args.f c.args.to.now in
    let f1 = put_step c.args.f c.requires.1 0 (omega arith) f0 c.line.ensures in
    let f2 = put_step c.args.f c.requires.1 1 (omega arith) f1 c.line-2.ensures in
    put_room c.args.f c.requires.1 2 (omega arith) f2 c.requires.0

pub line-requires-4 : goal.line-requires-4
unfolding schema values_of
line-requires-4 c =
    let f0 = put_none c.args.f c.args.to.now in
    let f1 = put_step c.args.f c.requires.1 0 (omega arith) f0 c.line.ensures in
    let f2 = put_step c.args.f c.requires.1 1 (omega arith) f1 c.line-2.ensures in
    let f3 = put_step c.args.f c.requires.1 2 (omega arith) f2 c.line-3.ensures in
    put_room c.args.f c.requires.1 3 (omega arith) f3 c.requires.0

pub line-requires-5 : goal.line-requires-5
unfolding schema values_of
line-requires-5 c =
    let f0 = put_none c.args.f c.args.to.now in
    let f1 = put_step c.args.f c.requires.1 0 (omega arith) f0 c.line.ensures in
    let f2 = put_step c.args.f c.requires.1 1 (omega arith) f1 c.line-2.ensures in
    let f3 = put_step c.args.f c.requires.1 2 (omega arith) f2 c.line-3.ensures in
    let f4 = put_step c.args.f c.requires.1 3 (omega arith) f3 c.line-4.ensures in
    put_room c.args.f c.requires.1 4 (omega arith) f4 c.requires.0

pub line-requires-6 : goal.line-requires-6
unfolding schema values_of
line-requires-6 c =
    let f0 = put_none c.args.f c.args.to.now in
    let f1 = put_step c.args.f c.requires.1 0 (omega arith) f0 c.line.ensures in
    let f2 = put_step c.args.f c.requires.1 1 (omega arith) f1 c.line-2.ensures in
    let f3 = put_step c.args.f c.requires.1 2 (omega arith) f2 c.line-3.ensures in
    let f4 = put_step c.args.f c.requires.1 3 (omega arith) f3 c.line-4.ensures in
    let f5 = put_step c.args.f c.requires.1 4 (omega arith) f4 c.line-5.ensures in
    put_room c.args.f c.requires.1 5 (omega arith) f5 c.requires.0

pub line-requires-7 : goal.line-requires-7
unfolding schema values_of
line-requires-7 c =
    let f0 = put_none c.args.f c.args.to.now in
    let f1 = put_step c.args.f c.requires.1 0 (omega arith) f0 c.line.ensures in
    let f2 = put_step c.args.f c.requires.1 1 (omega arith) f1 c.line-2.ensures in
    let f3 = put_step c.args.f c.requires.1 2 (omega arith) f2 c.line-3.ensures in
    let f4 = put_step c.args.f c.requires.1 3 (omega arith) f3 c.line-4.ensures in
    let f5 = put_step c.args.f c.requires.1 4 (omega arith) f4 c.line-5.ensures in
    let f6 = put_step c.args.f c.requires.1 5 (omega arith) f5 c.line-6.ensures in
    put_room c.args.f c.requires.1 6 (omega arith) f6 c.requires.0

pub line-requires-8 : goal.line-requires-8
unfolding schema values_of
line-requires-8 c =
    let f0 = put_none c.args.f c.args.to.now in
    let f1 = put_step c.args.f c.requires.1 0 (omega arith) f0 c.line.ensures in
    let f2 = put_step c.args.f c.requires.1 1 (omega arith) f1 c.line-2.ensures in
    let f3 = put_step c.args.f c.requires.1 2 (omega arith) f2 c.line-3.ensures in
    let f4 = put_step c.args.f c.requires.1 3 (omega arith) f3 c.line-4.ensures in
    let f5 = put_step c.args.f c.requires.1 4 (omega arith) f4 c.line-5.ensures in
    let f6 = put_step c.args.f c.requires.1 5 (omega arith) f5 c.line-6.ensures in
    let f7 = put_step c.args.f c.requires.1 6 (omega arith) f6 c.line-7.ensures in
    put_room c.args.f c.requires.1 7 (omega arith) f7 c.requires.0

pub returns : goal.returns
unfolding schema values_of
returns c =
    let f0 = put_none c.args.f c.args.to.now in
    let f1 = put_step c.args.f c.requires.1 0 (omega arith) f0 c.line.ensures in
    let f2 = put_step c.args.f c.requires.1 1 (omega arith) f1 c.line-2.ensures in
    let f3 = put_step c.args.f c.requires.1 2 (omega arith) f2 c.line-3.ensures in
    let f4 = put_step c.args.f c.requires.1 3 (omega arith) f3 c.line-4.ensures in
    let f5 = put_step c.args.f c.requires.1 4 (omega arith) f4 c.line-5.ensures in
    let f6 = put_step c.args.f c.requires.1 5 (omega arith) f5 c.line-6.ensures in
    let f7 = put_step c.args.f c.requires.1 6 (omega arith) f6 c.line-7.ensures in
    put_step c.args.f c.requires.1 7 (omega arith) f7 c.line-8.ensures
