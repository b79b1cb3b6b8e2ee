-- The sheet's laws: the answers of both calls are settled by their contracts for every input, the buffer included; two sheets
-- with the same text are equal; and reading what was written gives the same figures. Assumes nothing.
use Prim.Native.Nat.{ℕ}
use mathlib.Core.Path.{◌≡◌, refl, sym, ap, ◌∙◌}
use mathlib.Core.List.{List, ◌++◌}
use mathlib.Core.Logic.{◌↔◌}
use native.Mathlib.Omega.{arith}
use lib.ListN.{get_or, take, drop}
use lib.Seq.{take_at}
use lib.IntN.{ℤ, pos}
use Rattle.std.specs.Prelude.{Result, Ok, Err}
use Rattle.text.specs.Form.{RefusedAt}
use Rattle.text.proofs.Forms.{refused_once}
use Rattle.text.proofs.Tables.{lines_inj}
use Rattle.refusals.specs.declared.Refusal.{Refusal}
use Rattle.refusals.specs.declared.Told.{Told}
use Rattle.refusals.specs.Table.{told_of, told_by, nothing}
use Rattle.figures.specs.declared.Figures.{Figures}
use Rattle.sheet_text.specs.Sheet.{schema, values_of, text_of, InRange, IsSheet}
use Rattle.sheet_text.specs.Read as Read
use Rattle.sheet_text.specs.Read.{ReadRight, SheetOf}
use Rattle.sheet_text.specs.Write as Write
use Rattle.sheet_text.specs.Write.{WriteRight}
use Rattle.sheet_text.proofs.Steps.{nat}

values_inj : (f g : Figures) → values_of f ≡ values_of g → f ≡ g
unfolding values_of
values_inj f g e = λ i. record {
  «intervals» = ap (λ (l : List ℤ). nat (get_or l 0 (pos 0))) e i;
  «devices» = ap (λ (l : List ℤ). nat (get_or l 1 (pos 0))) e i;
  «counted» = ap (λ (l : List ℤ). nat (get_or l 2 (pos 0))) e i;
  «replaced» = ap (λ (l : List ℤ). nat (get_or l 3 (pos 0))) e i;
  «excluded» = ap (λ (l : List ℤ). nat (get_or l 4 (pos 0))) e i;
  methane_l = ap (λ (l : List ℤ). nat (get_or l 5 (pos 0))) e i;
  destroyed_l = ap (λ (l : List ℤ). nat (get_or l 6 (pos 0))) e i;
  uncombusted_l = ap (λ (l : List ℤ). nat (get_or l 7 (pos 0))) e i;
  baseline_mg = ap (λ (l : List ℤ). nat (get_or l 8 (pos 0))) e i;
  co2_mg = ap (λ (l : List ℤ). nat (get_or l 9 (pos 0))) e i;
  uncombusted_mg = ap (λ (l : List ℤ). nat (get_or l 10 (pos 0))) e i;
  fuel_mg = ap (λ (l : List ℤ). nat (get_or l 11 (pos 0))) e i;
  reduction_mg = ap (λ (l : List ℤ). get_or l 12 (pos 0)) e i;
  «tonnes» = ap (λ (l : List ℤ). get_or l 13 (pos 0)) e i;
  «credits» = ap (λ (l : List ℤ). nat (get_or l 14 (pos 0))) e i;
}

-- Two sheets with the same text are equal.
pub text_inj : (f g : Figures) → InRange f → InRange g → text_of f ≡ text_of g → f ≡ g
unfolding text_of InRange
text_inj f g hf hg e = values_inj f g (lines_inj schema (values_of f) (values_of g) hf hg e)

-- The offset of a refusal is unique.
pub offset_once : (t : List ℕ) (j k : ℕ) → RefusedAt IsSheet t j → RefusedAt IsSheet t k → j ≡ k
offset_once = refused_once IsSheet

-- A sheet is not refused.
never_both : (t : List ℕ) (f : Figures) (r : Refusal) → SheetOf t f → Read.Refused t r → ⊥
never_both t f r p (Read.Refused.no_sheet x) = x.none (record { value = f; taken = p.in_range; is = p.is })

refused_same : (t : List ℕ) (r s : Refusal) → Read.Refused t r → Read.Refused t s → r ≡ s
refused_same t r s (Read.Refused.no_sheet x) (Read.Refused.no_sheet y) = ap Refusal.NoSheet (offset_once t _ _ x y)

-- Any two answers that `read`'s contract permits are equal.
pub read_settled : (t : List ℕ) (a b : Result Figures Refusal) → ReadRight t a → ReadRight t b → a ≡ b
read_settled t (Ok f) (Ok g) p q =
    ap Ok (text_inj f g p.in_range q.in_range (sym p.is ∙ q.is))
read_settled t (Ok f) (Err s) p q = absurd (never_both t f s p q)
read_settled t (Err r) (Ok g) p q = absurd (never_both t g r q p)
read_settled t (Err r) (Err s) p q = ap Err (refused_same t r s p q)

-- whatever is right is told as it must be, for nothing else is right
pub read_answered : (t : List ℕ) (a : Result Figures Refusal) → ReadRight t a → Read.Answered t a
read_answered t a x =
    record {
      right = x;
      told_sheet = λ f y. ap told_by (read_settled t a (Ok f) x y);
      told_refused = λ r y. ap told_by (read_settled t a (Err r) x y);
    }

written_or_short : (f : Figures) (old new other : List ℕ) (m : ℕ) (r : Refusal) → Write.Done f old new m → Write.Refused f old other r → ⊥
written_or_short f old new other m r p (Write.Refused.short_buffer q) = omega (arith, p.size, p.room, q.needed, q.short)

short_same : (f : Figures) (old new other : List ℕ) (r s : Refusal) → Write.Refused f old new r → Write.Refused f old other s → (r ≡ s) × (new ≡ other)
short_same f old new other r s (Write.Refused.short_buffer p) (Write.Refused.short_buffer q) =
    (ap Refusal.ShortBuffer (p.needed ∙ sym q.needed), p.is ∙ sym q.is)

-- Any two answers and buffers that `write`'s contract permits are equal.
pub write_settled : (f : Figures) (old new other : List ℕ) (a b : Result ℕ Refusal) → WriteRight f old new a → WriteRight f old other b → (a ≡ b) × (new ≡ other)
write_settled f old new other (Ok m) (Ok n) p q =
    let e : m ≡ n = p.size ∙ sym q.size in
    (ap Ok e, p.is ∙ ap (λ (k : ℕ). text_of f ++ drop k old) e ∙ sym q.is)
write_settled f old new other (Ok m) (Err s) p q = absurd (written_or_short f old new other m s p q)
write_settled f old new other (Err r) (Ok n) p q = absurd (written_or_short f old other new n r q p)
write_settled f old new other (Err r) (Err s) p q =
    let e : (r ≡ s) × (new ≡ other) = short_same f old new other r s p q in
    (ap Err e.0, e.1)

pub write_answered : (f : Figures) (old new : List ℕ) (a : Result ℕ Refusal) → WriteRight f old new a → Write.Answered f old new a
write_answered f old new a x =
    record {
      right = x;
      told_written = λ left n y. ap told_by (write_settled f old new left a (Ok n) x y).0;
      told_refused = λ left r y. ap told_by (write_settled f old new left a (Err r) x y).0;
    }

-- A refusal is not told as nothing.
refused_told : (t : List ℕ) (r : Refusal) → Read.Refused t r → told_of r ≡ nothing → ⊥
refused_told t r (Read.Refused.no_sheet x) e = omega (arith, ap (λ (a : Told). a.number) e)

-- Nothing is told of a text exactly if it is some sheet's rendering.
pub accepted_iff : (t : List ℕ) (a : Result Figures Refusal) → ReadRight t a → (told_by a ≡ nothing) ↔ IsSheet t
accepted_iff t (Ok f) p = (λ e. record { value = f; taken = p.in_range; is = p.is }, λ s. refl)
accepted_iff t (Err r) p =
    (λ e. absurd (refused_told t r p e), λ s. absurd (never_both t s.value r (record { in_range = s.taken; is = s.is }) p))

-- Reading what was written gives the same figures.
pub read_back : (f : Figures) → InRange f → (old new : List ℕ) (n : ℕ) → WriteRight f old new (Ok n)
    → (a : Result Figures Refusal) → ReadRight (take n new) a → a ≡ Ok f
read_back f fit old new n w a r =
    read_settled (take n new) a (Ok f) r
    (record { in_range = fit; is = ap (take n) w.is ∙ take_at (text_of f) (drop n old) n (sym w.size) })
