-- `text::read_natural` meets its contract. The invariant: the digits of v, which is in the range and not 0, stand from the start. Assumes nothing.
use Prim.Native.Nat.{ℕ, ◌+◌, ◌*◌, ◌-◌, ◌≤◌, ◌<◌}
use native.Mathlib.Omega.{arith}
use mathlib.Core.List.{List}
use mathlib.Core.Path.{◌≡◌, sym, ◌∙◌, subst}
use mathlib.Core.Bool.{Bool, true, false}
use mathlib.Core.Logic.{inl, inr}
use borrow.Author.Tests.{ltb-true, ltb-false}
use lib.ListN.{length, get_or}
use Rattle.std.specs.Prelude.{MatchBool}
use Rattle.std.specs.Char.{IsAsciiDigit, IsNotAsciiDigit}
use Rattle.text.specs.Form.{Of, Broken}
use Rattle.text.specs.Decimal.{dec, number, plain}
use Rattle.text.proofs.Decimals.{Digit}
use Rattle.text.proofs.Numbers.{broken_first, broken_later, first_digit, next_digit, number_ends}
use Rattle.text.proofs.read_natural.Invariants.{Reading}
use Rattle.text.proofs.read_natural.Goals as goal
use Rattle.text.proofs.read_natural.Goals.{
  then-start-t-via-then-start-t,
  then-start-t-via-else-start-t+then-not-is_ascii_digit,
  then-v-least-via-then-v-least,
  then-v-least-via-else-v-least+then-v-most,
  else-next-t-via-then-next-t+else-t-next,
  else-next-t-via-else-next-t,
  else-v-safe-via-then-v-safe+else-exceeds,
  else-v-safe-via-else-v-safe,
}

-- The byte at i neither ends the number nor goes on with it.
breaks : {t : List ℕ} {start least most end v i : ℕ} → Reading t start least most end v i → (i < length t → get_or t i 0 ≡ end → ⊥)
    → (i < length t → Digit (get_or t i 0) → most < 10 * v + (get_or t i 0 - 48)) → Broken (Of (number (plain least most) end)) t start i
breaks {t} {start} {least} {most} {end} {v} {i} r other over =
    broken_later t start i v least most end r.asked.stop r.low r.high r.stands other (λ inside g h. over inside g)

digit : {b : ℕ} {r : Bool} → MatchBool r (IsAsciiDigit b) (IsNotAsciiDigit b) → r ≡ true → Digit b
digit {r = true} d e = record { low = omega (arith, d); high = omega (arith, d) }
digit {r = false} d e = absurd (let z : ◌≡◌ {A = ℕ} 0 1 = cc in omega arith)

none : {b : ℕ} {r : Bool} → MatchBool r (IsAsciiDigit b) (IsNotAsciiDigit b) → r ≡ false → Digit b → ⊥
none {r = true} d e g = let z : ◌≡◌ {A = ℕ} 0 1 = cc in omega arith
none {r = false} d e g = omega (arith, d, g.low, g.high)

-- Where v is below `safe` a digit more is within the range, and else `exceeds` has said so.
within : (c : goal.Joined-else-v-safe) → 10 * c.loop-i.v + (get_or c.args.t.now c.loop-i.i 0 - 48) ≤ c.args.most
within c =
    let g = digit c.is_ascii_digit-in-loop-i.ensures.cases c.if-not-is_ascii_digit-2.false in
    elim c.else-v-safe.branch [
      | else-v-safe-via-then-v-safe+else-exceeds w ↦ let under = sym w.exceeds.ensures ∙ w.if-exceeds.false in omega (arith, ltb-false)
      | else-v-safe-via-else-v-safe w ↦ omega (arith, g.high)
    ]

pub returns-then-start-t : goal.returns-then-start-t
returns-then-start-t c =
    let a = c.args in
    let broken = broken_first a.t.now a.start a.least a.most a.end c.requires.range c.requires.low c.requires.within in
    elim c.then-start-t.branch [
      | then-start-t-via-then-start-t w ↦ broken (λ inside g. absurd (omega arith))
      | then-start-t-via-else-start-t+then-not-is_ascii_digit w ↦ broken (λ inside g. absurd (none w.is_ascii_digit.ensures.cases w.if-not-is_ascii_digit.true g))
    ]

pub returns-then-v-least : goal.returns-then-v-least
returns-then-v-least c =
    let a = c.args in
    let broken = broken_first a.t.now a.start a.least a.most a.end c.requires.range c.requires.low c.requires.within in
    elim c.then-v-least.branch [
      | then-v-least-via-then-v-least w ↦ broken (λ inside g. inl (omega arith))
      | then-v-least-via-else-v-least+then-v-most w ↦ broken (λ inside g. inr (omega arith))
    ]

pub returns-then-t-next : goal.returns-then-t-next
returns-then-t-next c =
    let a = c.args in
    let g = digit c.is_ascii_digit.ensures.cases c.if-not-is_ascii_digit.false in
    record {
      taken = (omega arith, omega arith);
      stands =
          number_ends a.t.now a.start (a.start + 1) a.end (dec 0) (omega arith) c.if-t-next.true
          (first_digit a.t.now a.start 0 (omega arith) (omega arith) (omega (arith, g.low)));
    }

pub returns-then-v-eq0 : goal.returns-then-v-eq0
returns-then-v-eq0 c =
    let a = c.args in
    let g = digit c.is_ascii_digit.ensures.cases c.if-not-is_ascii_digit.false in
    let zero = broken_later a.t.now a.start (a.start + 1) 0 a.least a.most a.end c.requires.stop (omega arith) (omega arith)
    (first_digit a.t.now a.start 0 (omega arith) (omega arith) (omega (arith, g.low))) in
    elim c.else-next-t.branch [
      | else-next-t-via-then-next-t+else-t-next w ↦ zero (λ inside e. w.if-t-next.false e) (λ inside g h. omega arith)
      | else-next-t-via-else-next-t w ↦ zero (λ inside e. omega arith) (λ inside g h. omega arith)
    ]

pub loop-i-init : goal.loop-i-init
loop-i-init c =
    let a = c.args in
    let g = digit c.is_ascii_digit.ensures.cases c.if-not-is_ascii_digit.false in
    record {
      asked = c.requires;
      some = omega arith;
      low = omega arith;
      high = omega arith;
      stands = first_digit a.t.now a.start (get_or a.t.now a.start 0 - 48) (omega arith) (omega (arith, g.high)) (omega (arith, g.low));
    }

pub returns-else-b-end : goal.returns-else-b-end
returns-else-b-end c =
    breaks c.loop-i.invariant (λ inside e. c.if-b-end.false e)
    (λ inside g. absurd (none c.is_ascii_digit-in-loop-i.ensures.cases c.if-not-is_ascii_digit-2.true g))

pub returns-then-exceeds : goal.returns-then-exceeds
returns-then-exceeds c =
    let g = digit c.is_ascii_digit-in-loop-i.ensures.cases c.if-not-is_ascii_digit-2.false in
    breaks c.loop-i.invariant (λ inside e. omega (arith, c.loop-i.invariant.asked.stop, g.low))
    (λ inside g. let over = sym c.exceeds.ensures ∙ c.if-exceeds.true in omega (arith, ltb-true))

pub loop-i-preserved : goal.loop-i-preserved
loop-i-preserved c =
    let a = c.args in
    let l = c.loop-i in
    let g = digit c.is_ascii_digit-in-loop-i.ensures.cases c.if-not-is_ascii_digit-2.false in
    record {
      asked = l.invariant.asked;
      some = omega (arith, l.invariant.some);
      low = omega (arith, l.invariant.low);
      high = within c;
      stands =
          next_digit a.t.now a.start l.i l.v (get_or a.t.now l.i 0 - 48) (omega arith) l.invariant.some
          (omega (arith, g.high)) (omega (arith, g.low)) l.invariant.stands;
    }

pub returns : goal.returns
returns c =
    let l = c.loop-i in
    let end : l.i ≡ length c.args.t.now = omega arith in
    subst (Broken (Of (number (plain c.args.least c.args.most) c.args.end)) c.args.t.now c.args.start) end
    (breaks l.invariant (λ inside e. omega arith) (λ inside g. omega arith))
