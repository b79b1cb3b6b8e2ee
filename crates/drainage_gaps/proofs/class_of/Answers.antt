-- The class of a gap is the first line of the table that reaches its length.
use mathlib.Core.Path.{sym}
use native.Mathlib.Omega.{arith}
use borrow.Author.Tests.{le-leb, lt-leb}
use Rattle.drainage_gaps.specs.Gaps.{class_of}
use Rattle.drainage_gaps.proofs.class_of.Goals as goal

pub returns-then-gap-le-MEAN_LONGEST : goal.returns-then-gap-le-MEAN_LONGEST
unfolding class_of
returns-then-gap-le-MEAN_LONGEST c = sym (simp (le-leb c.args.gap 23 (omega (arith, c.if-gap-le-MEAN_LONGEST.true))))

pub returns-then-gap-le-LONGEST_90 : goal.returns-then-gap-le-LONGEST_90
unfolding class_of
returns-then-gap-le-LONGEST_90 c =
    let g = c.args.gap in
    sym (simp (lt-leb g 23 (omega (arith, c.if-gap-le-MEAN_LONGEST.false)), le-leb g 95 (omega (arith, c.if-gap-le-LONGEST_90.true))))

pub returns-then-gap-le-LONGEST_95 : goal.returns-then-gap-le-LONGEST_95
unfolding class_of
returns-then-gap-le-LONGEST_95 c =
    let g = c.args.gap in
    sym (simp (
      lt-leb g 23 (omega (arith, c.if-gap-le-MEAN_LONGEST.false)),
      lt-leb g 95 (omega (arith, c.if-gap-le-LONGEST_90.false)),
      le-leb g 672 (omega (arith, c.if-gap-le-LONGEST_95.true)),
    ))

pub returns : goal.returns
unfolding class_of
returns c =
    let g = c.args.gap in
    sym (simp (
      lt-leb g 23 (omega (arith, c.if-gap-le-MEAN_LONGEST.false)),
      lt-leb g 95 (omega (arith, c.if-gap-le-LONGEST_90.false)),
      lt-leb g 672 (omega (arith, c.if-gap-le-LONGEST_95.false)),
    ))
