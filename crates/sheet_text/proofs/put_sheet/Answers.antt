-- `sheet_text::put_sheet` meets its contract: one fact a line, each from the one before. Assumes nothing.
use mathlib.Core.Path.{refl}
use native.Mathlib.Omega.{arith}
use Rattle.std.proofs.Common.{rules}
use Rattle.sheet_text.specs.Sheet.{schema, values_of}
use Rattle.sheet_text.proofs.Steps.{put_room, put_step, put_signed_room, put_signed_step, put_all, in_range, sheet_longest}
use Rattle.sheet_text.proofs.put_sheet.Goals as goal

pub put_head-requires : goal.put_head-requires
put_head-requires c = (refl, in_range c.args.f (omega arith))

pub line-requires : goal.line-requires
unfolding schema values_of
line-requires c =
    let r = in_range c.args.f (omega arith) in
    let f8 = c.put_head.ensures in
    put_room c.args.f r 8 (omega arith) f8 refl

pub line-requires-2 : goal.line-requires-2
unfolding schema values_of
line-requires-2 c =
    let r = in_range c.args.f (omega arith) in
    let f8 = c.put_head.ensures in
    let f9 = put_step c.args.f r 8 (omega arith) f8 c.line.ensures in
    put_room c.args.f r 9 (omega arith) f9 refl

pub line-requires-3 : goal.line-requires-3
unfolding schema values_of
line-requires-3 c =
    let r = in_range c.args.f (omega arith) in
    let f8 = c.put_head.ensures in
    let f9 = put_step c.args.f r 8 (omega arith) f8 c.line.ensures in
    let f10 = put_step c.args.f r 9 (omega arith) f9 c.line-2.ensures in
    put_room c.args.f r 10 (omega arith) f10 refl

pub line-requires-4 : goal.line-requires-4
unfolding schema values_of
line-requires-4 c =
    let r = in_range c.args.f (omega arith) in
    let f8 = c.put_head.ensures in
    let f9 = put_step c.args.f r 8 (omega arith) f8 c.line.ensures in
    let f10 = put_step c.args.f r 9 (omega arith) f9 c.line-2.ensures in
    let f11 = put_step c.args.f r 10 (omega arith) f10 c.line-3.ensures in
    put_room c.args.f r 11 (omega arith) f11 refl

pub line-requires-5 : goal.line-requires-5
unfolding schema values_of
line-requires-5 c =
    let r = in_range c.args.f (omega arith) in
    let f8 = c.put_head.ensures in
    let f9 = put_step c.args.f r 8 (omega arith) f8 c.line.ensures in
    let f10 = put_step c.args.f r 9 (omega arith) f9 c.line-2.ensures in
    let f11 = put_step c.args.f r 10 (omega arith) f10 c.line-3.ensures in
    let f12 = put_step c.args.f r 11 (omega arith) f11 c.line-4.ensures in
    put_signed_room c.args.f r 12 (omega arith) f12 refl refl

pub line-requires-6 : goal.line-requires-6
unfolding schema values_of
line-requires-6 c =
    let r = in_range c.args.f (omega arith) in
    let f8 = c.put_head.ensures in
    let f9 = put_step c.args.f r 8 (omega arith) f8 c.line.ensures in
    let f10 = put_step c.args.f r 9 (omega arith) f9 c.line-2.ensures in
    let f11 = put_step c.args.f r 10 (omega arith) f10 c.line-3.ensures in
    let f12 = put_step c.args.f r 11 (omega arith) f11 c.line-4.ensures in
    let f13 = put_signed_step c.args.f r 12 (omega arith) f12 refl c.line-5.ensures in
    put_signed_room c.args.f r 13 (omega arith) f13 refl refl

pub line-requires-7 : goal.line-requires-7
unfolding schema values_of
line-requires-7 c =
    let r = in_range c.args.f (omega arith) in
    let f8 = c.put_head.ensures in
    let f9 = put_step c.args.f r 8 (omega arith) f8 c.line.ensures in
    let f10 = put_step c.args.f r 9 (omega arith) f9 c.line-2.ensures in
    let f11 = put_step c.args.f r 10 (omega arith) f10 c.line-3.ensures in
    let f12 = put_step c.args.f r 11 (omega arith) f11 c.line-4.ensures in
    let f13 = put_signed_step c.args.f r 12 (omega arith) f12 refl c.line-5.ensures in
    let f14 = put_signed_step c.args.f r 13 (omega arith) f13 refl c.line-6.ensures in
    put_room c.args.f r 14 (omega arith) f14 refl

pub returns : goal.returns
unfolding schema values_of
returns c =
    let r = in_range c.args.f (omega arith) in
    let f8 = c.put_head.ensures in
    let f9 = put_step c.args.f r 8 (omega arith) f8 c.line.ensures in
    let f10 = put_step c.args.f r 9 (omega arith) f9 c.line-2.ensures in
    let f11 = put_step c.args.f r 10 (omega arith) f10 c.line-3.ensures in
    let f12 = put_step c.args.f r 11 (omega arith) f11 c.line-4.ensures in
    let f13 = put_signed_step c.args.f r 12 (omega arith) f12 refl c.line-5.ensures in
    let f14 = put_signed_step c.args.f r 13 (omega arith) f13 refl c.line-6.ensures in
    let f15 = put_step c.args.f r 14 (omega arith) f14 c.line-7.ensures in
    let w = put_all c.args.f f15 in
    (search (rules, w.put, w.same), sheet_longest c.args.f r)
