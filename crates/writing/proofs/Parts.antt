-- Parts written one after the other are their texts joined. Assumes nothing.
use Prim.Native.Nat.{ℕ, ◌+◌, ◌/◌, ◌%◌, ◌≤◌, ◌<◌}
use mathlib.Core.Path.{sym, ap, ◌∙◌, subst}
use mathlib.Core.List.{List, [], ◌∷◌, ◌++◌}
use native.Mathlib.Numerals.{add-one}
use lib.ListN.{length, get_or, take}
use lib.Seq.{take-suc}
use Rattle.text.specs.Decimal.{dec}
use Rattle.text.proofs.Decimals.{dec_one, dec_more}
use Rattle.text.proofs.Writing.{put-join}
use Rattle.writing.specs.Wrote.{Wrote}
use Rattle.writing.specs.declared.Writer.{Writer}

pub join : {a b c : Writer} {v w : List ℕ} → Wrote a v b → Wrote b w c → Wrote a (v ++ w) c
join {a} {b} {c} {v} {w} x y = record { same = y.same ∙ x.same; put = put-join _ _ _ v w _ _ _ x.put y.put }

-- The next byte of w after the first n.
pub next : {a b c : Writer} (w : List ℕ) (n : ℕ) → n < length w → Wrote a (take n w) b → Wrote b (get_or w n 0 ∷ []) c → Wrote a (take (n + 1) w) c
next {a} {b} {c} w n h x y =
    subst (λ (v : List ℕ). Wrote a v c) (sym (take-suc w n 0 h) ∙ ap (λ (k : ℕ). take k w) (sym (add-one n))) (join x y)

-- A number of one digit, and one digit more.
pub one_digit : {a b : Writer} {v : ℕ} → v < 10 → Wrote a ((48 + v) ∷ []) b → Wrote a (dec v) b
one_digit {v = v} h x = rw (dec_one v h) x

pub more_digits : {a b c : Writer} {v : ℕ} → 10 ≤ v → Wrote a (dec (v / 10)) b → Wrote b ((48 + v % 10) ∷ []) c → Wrote a (dec v) c
more_digits {v = v} h x y = rw (dec_more v h) (join x y)
