-- A key in a text: compared byte by byte or four bytes at once. Assumes nothing.
use Prim.Native.Nat.{ℕ, zero, suc, ◌+◌, ◌≤◌, ◌<◌}
use mathlib.Core.Path.{◌≡◌, refl, ap, ◌∙◌, subst}
use mathlib.Core.Bool.{true, false}
use mathlib.Core.List.{List}
use native.Mathlib.Omega.{arith}
use native.Mathlib.Numerals.{add-one}
use lib.ListN.{length, get_or, take}
use lib.Seq.{take_all}
use Rattle.text.specs.Form.{Stands}
use Rattle.text.specs.Inner.{SameKey, word_at}
use Rattle.text.proofs.Forms.{stands_at}
use Rattle.text.proofs.Numbers.{key_start, key_step}

-- ---- how far the key agrees with a text that has room for it

pub record Alike (t : List ℕ) (i : ℕ) (key : List ℕ) (n : ℕ) : Type 0 where
  pub start : i ≤ length t
  pub most : n ≤ length key
  pub room : i + length key ≤ length t
  pub each : (k : ℕ) → k < n → get_or t (i + k) 0 ≡ get_or key k 0

module _ {t : List ℕ} {i : ℕ} {key : List ℕ} where
  -- ---- the whole key stands there, or does not

  alike_stands : Alike t i key (length key) → (n : ℕ) → n ≤ length key → Stands t i (i + n) (take n key)
  alike_stands a zero h = key_start t key i a.start
  alike_stands a (suc n) h =
      subst (λ (m : ℕ). Stands t i (i + m) (take m key)) (add-one n)
      (key_step t key i n h (omega (arith, a.room)) (a.each n h) (alike_stands a n (omega arith)))

  pub same_all : {n : ℕ} → Alike t i key n → length key ≤ n → SameKey t i key true
  same_all {n} a h =
      let e : n ≡ length key = omega (arith, a.most) in
      let b : Alike t i key (length key) = subst (Alike t i key) e a in
      record {
        same = λ r. subst (Stands t i (i + length key)) (take_all (length key) key (omega arith)) (alike_stands b (length key) (omega arith));
        other = λ r. absurd (let z : ◌≡◌ {A = ℕ} 0 1 = cc in omega arith);
      }

  differs : (Stands t i (i + length key) key → ⊥) → SameKey t i key false
  differs other = record { same = λ r. absurd (let z : ◌≡◌ {A = ℕ} 0 1 = cc in omega arith); other = λ r. other }

  -- byte n of a key that stands there, at its place p of the text
  there : i ≤ length t → Stands t i (i + length key) key → (n p : ℕ) → p ≡ i + n → n < length key → get_or t p 0 ≡ get_or key n 0
  there h s n p e less = ap (λ (x : ℕ). get_or t x 0) e ∙ stands_at t i (i + length key) n key s h less

  module _ {n : ℕ} (a : Alike t i key n) where
    pub same_byte : n < length key → (get_or t (i + n) 0 ≡ get_or key n 0 → ⊥) → SameKey t i key false
    same_byte h other = differs (λ s. other (there a.start s n (i + n) refl h))

    pub same_word : n + 4 ≤ length key → (word_at t (i + n) ≡ word_at key n → ⊥) → SameKey t i key false
    same_word h other =
        differs
        (λ s.
        let at : (m p : ℕ) → p ≡ i + m → m < length key → get_or t p 0 ≡ get_or key m 0 = there a.start s in
        other
        (omega (
          arith,
          at n (i + n) refl (omega arith),
          at (n + 1) (i + n + 1) (omega arith) (omega arith),
          at (n + 2) (i + n + 2) (omega arith) (omega arith),
          at (n + 3) (i + n + 3) (omega arith) (omega arith),
        )))
