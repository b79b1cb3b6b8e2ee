-- The limit beside that of the landings before request 4, whose condition took a window for the whole population: n stood
-- where n - 1 stands now. For the same window the limit is never above the earlier one, so no replacement rose by it.
-- Assumes nothing.
use Prim.Native.Nat.{ℕ, ◌-◌, ◌*◌, ◌≤◌, ◌<◌}
use mathlib.Core.Path.{◌≡◌, refl}
use mathlib.Core.List.{◌++◌}
use native.Mathlib.Nat.{le_trans, add-le-add, le_refl, mul-le-mul_left, mul-le-mul}
use native.Mathlib.Omega.{arith}
use lib.IntN.{ℤ, pos, ◌-ℤ◌, ◌*ℤ◌}
use lib.ListN.{replicate}
use lib.Signed.{◌≤ℤ◌}
use Rattle.rows.proofs.Truth.{clash}
use Rattle.drainage_window.specs.declared.Tally.{Tally}
use Rattle.drainage_window.specs.Window.{tally_of, mean_of, Meets, IsLimit, greatest_up_to, limit_of, z90}
use Rattle.drainage_window.proofs.Laws.{Moved, moved, moved_first, moved_second, passes, passes_moved, moved_passes, meets_moved}
use Rattle.drainage_window.proofs.Laws.{no_room, greatest_is, no_more, limit_is}

-- the two conditions as rule 7.7 had them, and the limit by them
pub record EarlierCondition (n S Q2 z L : ℤ) : Type 0 where
  pub room : (n *ℤ L) ≤ℤ S
  pub spread : (z *ℤ ((n *ℤ Q2) -ℤ (S *ℤ S))) ≤ℤ (pos 100 *ℤ ((n *ℤ (S -ℤ (n *ℤ L))) *ℤ (S -ℤ (n *ℤ L))))

abbrev pub MetEarlier : Tally → ℕ → ℕ → Type 0
MetEarlier t z L = EarlierCondition (pos t.n) (pos t.sum) (pos t.squares) (pos z) (pos L)

pub record IsEarlierLimit (t : Tally) (z L : ℕ) : Type 0 where
  pub reached : 0 < L → MetEarlier t z L
  pub greatest : (M : ℕ) → L < M → MetEarlier t z M → ⊥

-- the form that computes
unfoldable pub earlier_limit_of : Tally → ℕ → ℕ
earlier_limit_of t z = greatest_up_to (passes t.n t z) (mean_of t)

-- document 01's own number, where 880 stands now
earlier_example : earlier_limit_of (tally_of (replicate 96 0 ++ replicate 96 2000)) z90 ≡ 881
unfolding earlier_limit_of mean_of tally_of greatest_up_to
earlier_example = refl

module _ (t : Tally) (z L : ℕ) where
  pub earlier_moved : MetEarlier t z L → Moved t.n t z L
  earlier_moved c = moved t.n t z L c.room c.spread

  moved_earlier : Moved t.n t z L → MetEarlier t z L
  moved_earlier m = record { room = moved_first t.n t z L m; spread = moved_second t.n t z L m }

-- every window had an earlier limit, and this computes it
pub earlier_is : (t : Tally) (z : ℕ) → 0 < t.n → IsEarlierLimit t z (earlier_limit_of t z)
unfolding earlier_limit_of
earlier_is t z p =
    let found =
    greatest_is (passes t.n t z) (MetEarlier t z) (mean_of t)
    (λ M e. moved_earlier t z M (passes_moved t.n t z M e))
    (λ M e m. clash (moved_passes t.n t z M (earlier_moved t z M m)) e)
    (λ M h m. no_room t M p h (earlier_moved t z M m).room) in
    record { reached = found.0; greatest = found.1 }

-- ---- never above

-- what meets the conditions met the earlier ones
pub met_earlier : (t : Tally) (z L : ℕ) → 0 < t.n → Meets t z L → MetEarlier t z L
met_earlier t z L p c =
    let m = meets_moved t z L p c in
    moved_earlier t z L
    (record {
      room = m.room;
      spread = le_trans m.spread (add-le-add (le_refl (z * (t.sum * t.sum))) (mul-le-mul_left 100 (mul-le-mul fewer (le_refl _))));
    })
  where
    fewer : t.n - 1 ≤ t.n
    fewer = omega arith

-- the limit is at most the earlier one of the same window
pub never_above : (t : Tally) (z L M : ℕ) → 0 < t.n → IsLimit t z L → IsEarlierLimit t z M → L ≤ M
never_above t z L M p x y = no_more (MetEarlier t z) L M (λ h. met_earlier t z L p (x.reached h)) y.greatest

pub limit_never_above : (t : Tally) (z : ℕ) → 0 < t.n → limit_of t z ≤ earlier_limit_of t z
limit_never_above t z p = never_above t z (limit_of t z) (earlier_limit_of t z) p (limit_is t z p) (earlier_is t z p)
