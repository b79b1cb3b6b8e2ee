-- What the writers rest on: parts written one after the other are their texts joined. Assumes nothing.
use Prim.Native.Nat.{ℕ, suc, ◌+◌, ◌≤◌, ◌/◌}
use mathlib.Core.Path.{◌≡◌, sym, ap, ◌∙◌}
use mathlib.Core.List.{List, [], ◌∷◌, ◌++◌}
use native.Mathlib.Omega.{arith}
use native.Mathlib.Nat.{add-zero, add-suc, suc-add}
use lib.ListN.{length, drop, set, length-append}
use lib.Seq.{sets, sets-eq, length-take-le, length-sets}
use lib.IntN.{ℤ}
use Rattle.text.specs.Decimal.{dec, decimal}
use Rattle.text.specs.Line.{line_of}
use Rattle.text.specs.Answer.{Put, Leads}
use Rattle.text.proofs.Decimals.{dec_more}

pub sets_append : (l : List ℕ) (i : ℕ) (v w : List ℕ) → sets l i (v ++ w) ≡ sets (sets l i v) (i + length v) w
sets_append l i [] w = ap (λ (n : ℕ). sets l n w) (sym (add-zero i))
sets_append l i (x ∷ v) w =
    sets_append (set l i x) (suc i) v w
    ∙ ap (λ (n : ℕ). sets (sets (set l i x) (suc i) v) n w) (suc-add i (length v) ∙ sym (add-suc i (length v)))

pub put-join : (old mid new v w : List ℕ) (i p q : ℕ) → Put old i v mid p → Put mid p w new q → Put old i (v ++ w) new q
put-join old mid new v w i p q a b = record {
  stops = omega (arith, a.stops, b.stops, length-append v w);
  is = b.is ∙ ap (λ (l : List ℕ). sets l p w) a.is ∙ ap (λ (n : ℕ). sets (sets old i v) n w) a.stops ∙ sym (sets_append old i v w);
}

pub digits_room : (v : ℕ) → 10 ≤ v → length (dec v) ≡ length (dec (v / 10)) + 1
digits_room v h = ap length (dec_more v h) ∙ length-append (dec (v / 10)) _

-- ---- lines

pub line_length : (key : List ℕ) (z : ℤ) → length (line_of key z) ≡ length key + (length (decimal z) + 1)
line_length key z = length-append key (decimal z ++ (10 ∷ [])) ∙ ap (λ (n : ℕ). length key + n) (length-append (decimal z) (10 ∷ []))

-- ---- a text at the start of a buffer

pub put_long : {old w new : List ℕ} {i n : ℕ} → Put old i w new n → length new ≡ length old
put_long {old = old} {w = w} {i = i} p = ap length p.is ∙ length-sets old i w

pub put_leads : (w old new : List ℕ) (n : ℕ) → Put old 0 w new n → length w ≤ length old → Leads w old new n
put_leads w old new n p h =
    record {
      size = omega (arith, p.stops);
      room = omega (arith, p.stops);
      is = p.is ∙ sets-eq w old 0 (omega (arith, h)) ∙ ap (λ (k : ℕ). w ++ drop k old) (sym p.stops);
      part = sym (length-take-le n new (omega (arith, p.stops, put_long p)));
    }
