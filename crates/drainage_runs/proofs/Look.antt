-- The look over a gap's two windows, entry by entry, as a loop's invariant: start, step and both ends.
-- Assumes nothing.
use Prim.Native.Nat.{ℕ, zero, suc, ◌+◌, ◌-◌, ◌≤◌, ◌<◌}
use mathlib.Core.Path.{◌≡◌, refl, sym, ap, ◌∙◌, subst}
use mathlib.Core.Bool.{Bool, true, false, not}
use mathlib.Core.List.{List, [], ◌∷◌}
use native.Mathlib.Nat.{not-suc-le-zero}
use native.Mathlib.Omega.{arith}
use borrow.Author.Count.{below_more}
use borrow.Author.Tests.{lt-ltb}
use lib.ListN.{length, get_or}
use Rattle.rows.specs.Rows.{both, every}
use Rattle.rows.proofs.Laws.{every_all}
use Rattle.drainage_runs.specs.Runs.{measured_at, usable, whole}
use Rattle.drainage_runs.proofs.Laws.{whole_before, whole_after}
use Rattle.rows.proofs.Truth.{clash}

-- ---- n measured entries, from one on

pub record Measured (row : List ℕ) (from n : ℕ) : Type 0 where
  pub at : (j : ℕ) → j < n → measured_at row (from + j) ≡ true

pub measured_none : (row : List ℕ) (from : ℕ) → Measured row from 0
measured_none row from = record { at = λ j h. absurd (not-suc-le-zero h) }

-- one entry more
pub measured_more : (row : List ℕ) (from k : ℕ) → Measured row from k → measured_at row (from + k) ≡ true → Measured row from (k + 1)
measured_more row from k m e =
    record { at = below_more (λ j. measured_at row (from + j) ≡ true) k m.at e }

-- ---- the two windows, each from its first entry

-- where the window before the gap (side 0) and the one after it begin, as the code lists them
abbrev pub begin_of : ℕ → ℕ → ℕ → ℕ → ℕ
begin_of a e w side = get_or ((a - w) ∷ e ∷ []) side 0

pub record Looked (row : List ℕ) (a e w side : ℕ) : Type 0 where
  pub gap : a ≤ e
  pub room_before : w ≤ a
  pub room_after : e + w ≤ length row
  pub whole_sides : (d : ℕ) → d < side → Measured row (begin_of a e w d) w

module _ (row : List ℕ) (a e w : ℕ) where
  pub short_before : a < w → false ≡ whole row a e w
  short_before h = go (whole row a e w) refl
    where
      go : (b : Bool) → whole row a e w ≡ b → false ≡ whole row a e w
      go false q = sym q
      go true q = absurd (let z : a < a = (whole_before row a e w q a h).0 in let y : ⊥ = omega arith in y)

  pub short_after : e ≤ length row → length row < e + w → false ≡ whole row a e w
  short_after l h = go (whole row a e w) refl
    where
      go : (b : Bool) → whole row a e w ≡ b → false ≡ whole row a e w
      go false q = sym q
      go true q =
          absurd (let z : e + (length row - e) < length row = (whole_after row a e w q (length row - e) (omega arith)).0 in
          let y : ⊥ = omega arith in y)

  pub looked_none : a ≤ e → w ≤ a → e + w ≤ length row → Looked row a e w 0
  looked_none g l h = record { gap = g; room_before = l; room_after = h; whole_sides = λ d z. absurd (not-suc-le-zero z) }

  -- the windows of a whole pair are measured from their first entries on
  whole_side : (side : ℕ) → w ≤ a → side < 2 → whole row a e w ≡ true → Measured row (begin_of a e w side) w
  whole_side zero l s q =
      record {
        at = λ j h.
            subst (λ (x : ℕ). measured_at row x ≡ true) (let z : a - (w - 1 - j + 1) ≡ a - w + j = omega arith in z)
            (ap not (whole_before row a e w q (w - 1 - j) (omega arith)).1);
      }
  whole_side (suc zero) l s q = record { at = λ j h. ap not (whole_after row a e w q j h).1 }
  whole_side (suc (suc side)) l s q = absurd (let z : ⊥ = omega arith in z)

  -- and the other way round
  side_whole : (side k : ℕ) → w ≤ a → side < 2 → Measured row (begin_of a e w side) w → k < w → usable row a e side k ≡ true
  unfolding usable
  side_whole zero k l s m h =
      ap (λ (b : Bool). both b (measured_at row (a - (k + 1)))) (lt-ltb k a (omega arith))
      ∙ subst (λ (x : ℕ). measured_at row x ≡ true) (let z : a - w + (w - 1 - k) ≡ a - (k + 1) = omega arith in z) (m.at (w - 1 - k) (omega arith))
  side_whole (suc zero) k l s m h = m.at k h
  side_whole (suc (suc side)) k l s m h = absurd (let z : ⊥ = omega arith in z)

module _ {row : List ℕ} {a e w side : ℕ} (v : Looked row a e w side) where
  -- a window's entries lie inside the row
  pub looked_room : side < 2 → begin_of a e w side + w ≤ length row
  looked_room h = go side h
    where
      go : (d : ℕ) → d < 2 → begin_of a e w d + w ≤ length row
      go zero l = omega (arith, v.gap, v.room_before, v.room_after)
      go (suc zero) l = v.room_after
      go (suc (suc d)) l = absurd (let z : ⊥ = omega arith in z)

  -- one window looked through
  pub looked_side : Measured row (begin_of a e w side) w → Looked row a e w (side + 1)
  looked_side m =
      record { gap = v.gap; room_before = v.room_before; room_after = v.room_after; whole_sides = below_more _ _ v.whole_sides m }

  -- both
  pub looked_all : 2 ≤ side → whole row a e w ≡ true
  unfolding whole
  looked_all h =
      every_all 2 (λ d. every w (usable row a e d))
      (λ d l. every_all w (usable row a e d) (λ k z. side_whole row a e w d k v.room_before l (v.whole_sides d (omega arith)) z))

  -- an entry that cannot be used
  pub looked_fails : (k : ℕ) → side < 2 → k < w → measured_at row (begin_of a e w side + k) ≡ false → false ≡ whole row a e w
  looked_fails k s h f = go (whole row a e w) refl
    where
      go : (b : Bool) → whole row a e w ≡ b → false ≡ whole row a e w
      go false z = sym z
      go true z = clash ((whole_side row a e w side v.room_before s z).at k h) f
