-- A loop that writes the entries from a up to e, one store a turn: start, step and end.
-- Assumes nothing.
use Prim.Native.Nat.{ℕ, ◌+◌, ◌≤◌, ◌<◌}
use mathlib.Core.Path.{◌≡◌, refl, sym, ap, ap₂, ◌∙◌, subst}
use mathlib.Core.List.{List, ◌++◌}
use native.Mathlib.Numerals.{add-one}
use native.Mathlib.Omega.{arith}
use lib.ListN.{length, drop, set, length-set}
use Rattle.rows.specs.Rows.{build, Continued}
use Rattle.rows.proofs.Laws.{build_step, build_done}

module _ {A : Type 0} where
  pub continued_none : (a : ℕ) (g : ℕ → A) (old : List A) → Continued a a g old old
  continued_none a g old = record { continued = λ f base l h e. e; same_length = refl }

  pub continued_more : (a i : ℕ) (g : ℕ → A) (old new : List A) → a ≤ i → i < length old → Continued a i g old new
      → Continued a (i + 1) g old (set new i (g i))
  continued_more a i g old new l m c =
      record {
        continued = λ f base b h e.
            ap₂ (λ (xs : List A) (x : A). set xs i x)
            (c.continued f base b (λ k p q. h k p (omega arith)) e)
            (sym (h i l (omega arith)))
            ∙ build_step i f base (subst (λ (m : ℕ). i < m) (sym b) m)
            ∙ ap (λ (m : ℕ). build m f ++ drop m base) (sym (add-one i));
        same_length = length-set new i (g i) ∙ c.same_length;
      }

  -- two writers, one after the other
  pub continued_on : (a m e : ℕ) (g : ℕ → A) (old mid new : List A) → a ≤ m → m ≤ e
      → Continued a m g old mid → Continued m e g mid new → Continued a e g old new
  continued_on a m e g old mid new l k c d =
      record {
        continued = λ f base b h q.
            d.continued f base (b ∙ sym c.same_length) (λ i p r. h i (omega arith) r)
            (c.continued f base b (λ i p r. h i p (omega arith)) q);
        same_length = d.same_length ∙ c.same_length;
      }

  -- from 0 to the end: the whole row
  pub continued_all : (n : ℕ) (g : ℕ → A) (old new : List A) → length old ≡ n → Continued 0 n g old new → new ≡ build n g
  continued_all n g old new l c = c.continued g old refl (λ i p q. refl) refl ∙ build_done n g old l
