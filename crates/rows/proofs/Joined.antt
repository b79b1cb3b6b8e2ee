-- A row written part after part: joined up to part d, and as it was from there on. Start, step and end.
-- Assumes nothing.
use Prim.Native.Nat.{ℕ, ◌+◌, ◌*◌, ◌≤◌, ◌<◌}
use mathlib.Core.Path.{◌≡◌, sym, ap, ◌∙◌, subst}
use mathlib.Core.List.{List, ◌++◌}
use native.Mathlib.Nat.{add-sub_cancel_left, zero-mul, le-add_right}
use native.Mathlib.Numerals.{add-one}
use lib.ListN.{length, drop}
use Rattle.rows.specs.Rows.{join, put}
use Rattle.rows.proofs.Laws.{join_step, join_done, length-put, room}

pub record Row (n devices : ℕ) (g : ℕ → List ℕ) (old now : List ℕ) (d : ℕ) : Type 0 where
  pub old_long : length old ≡ devices * n
  pub long : length now ≡ devices * n
  pub joined : now ≡ join d g ++ drop (d * n) old

pub row_start : (n devices : ℕ) (g : ℕ → List ℕ) (old : List ℕ) → length old ≡ devices * n → Row n devices g old old 0
row_start n devices g old e =
    record { old_long = e; long = e; joined = ap (λ (m : ℕ). drop m old) (sym (zero-mul n)) }

pub row_step : (n devices : ℕ) (g : ℕ → List ℕ) (old now new : List ℕ) (d : ℕ) → ((k : ℕ) → length (g k) ≡ n) → d < devices
    → Row n devices g old now d → new ≡ put now (d * n) (d * n + n) (g d) → Row n devices g old new (d + 1)
row_step n devices g old now new d h l x e =
    record {
      old_long = x.old_long;
      long =
          ap length e
          ∙ length-put now (d * n) (d * n + n) (g d) (le-add_right (d * n) n)
          (subst (λ (m : ℕ). d * n + n ≤ m) (sym x.long) (room n d devices l))
          (h d ∙ sym (add-sub_cancel_left (d * n) n))
          ∙ x.long;
      joined =
          e
          ∙ ap (λ (xs : List ℕ). put xs (d * n) (d * n + n) (g d)) x.joined
          ∙ join_step n d devices g old (λ j z. h j) l x.old_long
          ∙ ap (λ (m : ℕ). join m g ++ drop (m * n) old) (sym (add-one d));
    }

pub row_done : (n devices : ℕ) (g : ℕ → List ℕ) (old now : List ℕ) (d : ℕ) → d ≡ devices → Row n devices g old now d → now ≡ join devices g
row_done n devices g old now d e x =
    x.joined ∙ ap (λ (m : ℕ). join m g ++ drop (m * n) old) e ∙ join_done n devices g old x.old_long
