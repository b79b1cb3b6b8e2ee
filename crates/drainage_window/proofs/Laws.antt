-- The laws of window statistics for the crates above: bounds of tally, mean and limit, that the rule's condition and the test
-- for it say the same, and that the computed limit is the one limit of rule 7.7.
-- Assumes nothing.
use Prim.Native.Nat.{ℕ, zero, suc, ◌+◌, ◌-◌, ◌*◌, ◌/◌, ◌≤◌, ◌<◌, zero-le, suc-le-suc}
use mathlib.Core.Path.{◌≡◌, refl, sym, ap, ap₂, ◌∙◌, subst}
use mathlib.Core.Bool.{Bool, true, false}
use mathlib.Core.Logic.{◌⊎◌, inl, inr, ⊎_elim}
use mathlib.Core.List.{List, [], ◌∷◌, ◌++◌, map, map-append, map-id}
use native.Mathlib.Nat.{le_refl, le_trans, le_step, not-suc-le-zero, not-le_of_lt, le_of_suc-le-suc, eq-or-lt_of_le, lt_of_le_of_lt, lt_of_not-le}
use native.Mathlib.Nat.{le_antisymm, suc-mul, add-le-add, mul-le-mul, mul-le-mul_left, sub-le-sub_left, lt-mul-div-succ, div-le_of_le-mul}
use native.Mathlib.Decide.{dec_le}
use native.Mathlib.Omega.{arith}
use lib.Dec.{leb}
use lib.IntN.{ℤ, pos, ◌-ℤ◌, ◌*ℤ◌, *ℤ_comm}
use lib.ListN.{length, get_or, length-append}
use lib.Signed.{◌≤ℤ◌}
use borrow.Author.Tests.{leb-true, le-leb, lt-leb}
use Rattle.rows.specs.Rows.{both, total}
use Rattle.rows.proofs.Laws.{both_true}
use Rattle.protocol.proofs.Integers.{Is, is_pos, is_minus, is_times, is_same, is_le, le_is}
use Rattle.drainage_window.specs.declared.Tally.{Tally}
use Rattle.drainage_window.specs.Window.{tally_of, mean_of, spread_of, allowed_of, Meets, IsLimit, meets, greatest_up_to, limit_of}
use Rattle.drainage_window.specs.Sizes.{Low, Windows, Sized}
use Rattle.rows.proofs.Truth.{clash}

-- ---- sums of values that are at most so much

pub total-append : (xs ys : List ℕ) → total (xs ++ ys) ≡ total xs + total ys
total-append [] ys = let z : total ys ≡ 0 + total ys = omega arith in z
total-append (x ∷ xs) ys = let h : total (xs ++ ys) ≡ total xs + total ys = total-append xs ys in omega arith

pub low_tail : (b x : ℕ) (xs : List ℕ) → Low b (x ∷ xs) → Low b xs
low_tail b x xs l = record { low = λ k h. l.low (suc k) (suc-le-suc h) }

pub low_head : (b x : ℕ) (xs : List ℕ) → Low b (x ∷ xs) → x ≤ b
low_head b x xs l = l.low 0 (suc-le-suc (zero-le))

-- the sum of any measure of the values is at most their number times its most
measured_most : (f : ℕ → ℕ) (b c : ℕ) → ((v : ℕ) → v ≤ b → f v ≤ c) → (xs : List ℕ) → Low b xs → total (map f xs) ≤ length xs * c
measured_most f b c m [] l = let z : 0 ≤ 0 * c = omega arith in z
measured_most f b c m (x ∷ xs) l =
    subst (λ (n : ℕ). f x + total (map f xs) ≤ n) (sym (suc-mul (length xs) c))
    (let h : total (map f xs) ≤ length xs * c = measured_most f b c m xs (low_tail b x xs l) in
    let g : f x ≤ c = m x (low_head b x xs l) in
    omega arith)

pub total_most : (b : ℕ) (xs : List ℕ) → Low b xs → total xs ≤ length xs * b
total_most b xs l =
    subst (λ (ys : List ℕ). total ys ≤ length xs * b) (map-id xs) (measured_most (λ v. v) b b (λ v h. h) xs l)

pub squares_most : (b : ℕ) (xs : List ℕ) → Low b xs → total (map (λ v. v * v) xs) ≤ length xs * (b * b)
squares_most b xs l = measured_most (λ v. v * v) b (b * b) (λ v h. mul-le-mul h h) xs l

low_cons : (b x : ℕ) (xs : List ℕ) → x ≤ b → Low b xs → Low b (x ∷ xs)
low_cons b x xs h l = record { low = go }
  where
    go : (k : ℕ) → k < suc (length xs) → get_or (x ∷ xs) k 0 ≤ b
    go zero z = h
    go (suc k) z = l.low k (le_of_suc-le-suc z)

pub low_append : (b : ℕ) (xs ys : List ℕ) → Low b xs → Low b ys → Low b (xs ++ ys)
low_append b [] ys l m = m
low_append b (x ∷ xs) ys l m =
    low_cons b x (xs ++ ys) (low_head b x xs l) (low_append b xs ys (low_tail b x xs l) m)

-- ---- the tally of two windows

pub tally_append : (xs ys : List ℕ)
    → tally_of (xs ++ ys) ≡ record {
      n = (tally_of xs).n + (tally_of ys).n;
      sum = (tally_of xs).sum + (tally_of ys).sum;
      squares = (tally_of xs).squares + (tally_of ys).squares;
    }
unfolding tally_of
tally_append xs ys =
    λ i. record {
      n = length-append xs ys i;
      sum = total-append xs ys i;
      squares = (ap total (map-append (λ v. v * v) xs ys) ∙ total-append (map (λ v. v * v) xs) (map (λ v. v * v) ys)) i;
    }

pub tally_count : (xs : List ℕ) → (tally_of xs).n ≡ length xs
unfolding tally_of
tally_count xs = refl

-- the sum of values that are at most b
pub tally_most : (b : ℕ) (xs : List ℕ) → Low b xs → (tally_of xs).sum ≤ (tally_of xs).n * b
unfolding tally_of
tally_most b xs l = total_most b xs l

-- a gap's two windows have a tally for which mean and limit may be asked
pub windows_sized : (before after : List ℕ) → Windows before after → Sized (tally_of (before ++ after))
unfolding tally_of
windows_sized before after w =
    record {
      some = subst (λ (n : ℕ). 0 < n) (sym len) w.some;
      few = subst (λ (n : ℕ). n ≤ 576) (sym len) (add-le-add w.few_before w.few_after);
      sum_most = total_most 30000 (before ++ after) both_low;
      squares_most = squares_most 30000 (before ++ after) both_low;
    }
  where
    len : length (before ++ after) ≡ length before + length after
    len = length-append before after

    both_low : Low 30000 (before ++ after)
    both_low = low_append 30000 before after w.low_before w.low_after

-- ---- the condition and its test

-- the conditions with a divisor c, which is n - 1 in the rule: in natural numbers, z2 × S² on the right
abbrev pub allowed_by : ℕ → Tally → ℕ → ℕ → ℕ
allowed_by c t z L = z * (t.sum * t.sum) + 100 * (c * ((t.sum - t.n * L) * (t.sum - t.n * L)))

pub record Moved (c : ℕ) (t : Tally) (z L : ℕ) : Type 0 where
  pub room : t.n * L ≤ t.sum
  pub spread : spread_of t z ≤ allowed_by c t z L

-- the second with sign
abbrev pub SignedSpread : ℤ → Tally → ℕ → ℕ → Type 0
SignedSpread c t z L =
    (pos z *ℤ (pos (t.n * t.squares) -ℤ pos (t.sum * t.sum))) ≤ℤ
    (pos 100 *ℤ ((c *ℤ (pos t.sum -ℤ pos (t.n * L))) *ℤ (pos t.sum -ℤ pos (t.n * L))))

-- both as a test
abbrev pub passes : ℕ → Tally → ℕ → ℕ → Bool
passes c t z L = both (leb (t.n * L) t.sum) (leb (spread_of t z) (allowed_by c t z L))

-- a difference that is not below 0
minus_pos : (a b : ℕ) → b ≤ a → (pos a -ℤ pos b) ≡ pos (a - b)
minus_pos a b h =
    is_same (pos a -ℤ pos b) (pos (a - b)) (is_minus (pos a) (pos b) (is_pos a) (is_pos b)) (is_pos (a - b)) (omega arith)

-- z × (nQ2 - S²), as what it has above 0 and below 0
left_is : (z p m : ℕ) → Is (pos z *ℤ (pos p -ℤ pos m)) (p * z) (m * z)
left_is z p m =
    subst (λ (w : ℤ). Is w (p * z) (m * z)) (*ℤ_comm (pos p -ℤ pos m) (pos z))
    (is_times (pos p -ℤ pos m) z (record { is = let e = (is_minus (pos p) (pos m) (is_pos p) (is_pos m)).is in omega arith }))

-- c × (S - nL) × (S - nL), once S is at least nL
right_is : (c s m : ℕ) → m ≤ s
    → (pos 100 *ℤ ((pos c *ℤ (pos s -ℤ pos m)) *ℤ (pos s -ℤ pos m))) ≡ pos (100 * (c * (s - m) * (s - m)))
right_is c s m h = ap (λ (d : ℤ). pos 100 *ℤ ((pos c *ℤ d) *ℤ d)) (minus_pos s m h)

module _ (c : ℕ) (t : Tally) (z L : ℕ) where
  pub moved : (pos t.n *ℤ pos L) ≤ℤ pos t.sum → SignedSpread (pos c) t z L → Moved c t z L
  moved first second = record { room = room; spread = across }
    where
      room : t.n * L ≤ t.sum
      room = let h = le_is (pos (t.n * L)) (pos t.sum) (is_pos (t.n * L)) (is_pos t.sum) first in omega arith

      across : spread_of t z ≤ allowed_by c t z L
      across =
          let d : ℕ = t.sum - t.n * L in
          let h = le_is _ _ (left_is z (t.n * t.squares) (t.sum * t.sum)) (is_pos (100 * (c * d * d)))
          (subst (λ (w : ℤ). (pos z *ℤ (pos (t.n * t.squares) -ℤ pos (t.sum * t.sum))) ≤ℤ w) (right_is c t.sum (t.n * L) room) second) in
          omega arith

  pub moved_first : Moved c t z L → (pos t.n *ℤ pos L) ≤ℤ pos t.sum
  moved_first m = is_le (pos (t.n * L)) (pos t.sum) (is_pos (t.n * L)) (is_pos t.sum) (omega (arith, m.room))

  pub moved_second : Moved c t z L → SignedSpread (pos c) t z L
  moved_second m =
      subst (λ (w : ℤ). (pos z *ℤ (pos (t.n * t.squares) -ℤ pos (t.sum * t.sum))) ≤ℤ w) (sym (right_is c t.sum (t.n * L) m.room))
      (is_le _ _ (left_is z (t.n * t.squares) (t.sum * t.sum)) (is_pos (100 * (c * (t.sum - t.n * L) * (t.sum - t.n * L))))
      (omega (arith, m.spread)))

  pub passes_moved : passes c t z L ≡ true → Moved c t z L
  passes_moved e =
      let h = both_true (leb (t.n * L) t.sum) (leb (spread_of t z) (allowed_by c t z L)) e in
      record { room = leb-true (t.n * L) t.sum h.0; spread = leb-true (spread_of t z) (allowed_by c t z L) h.1 }

  pub moved_passes : Moved c t z L → passes c t z L ≡ true
  moved_passes m = ap₂ both (le-leb (t.n * L) t.sum m.room) (le-leb (spread_of t z) (allowed_by c t z L) m.spread)

-- the rule's form and the one with S² moved across say the same, of one value or more
module _ (t : Tally) (z L : ℕ) (p : 0 < t.n) where
  pub meets_moved : Meets t z L → Moved (t.n - 1) t z L
  meets_moved c =
      moved (t.n - 1) t z L c.room (subst (λ (d : ℤ). SignedSpread d t z L) (minus_pos t.n 1 p) c.spread)

  pub moved_meets : Moved (t.n - 1) t z L → Meets t z L
  moved_meets m =
      record {
        room = moved_first (t.n - 1) t z L m;
        spread = subst (λ (d : ℤ). SignedSpread d t z L) (sym (minus_pos t.n 1 p)) (moved_second (t.n - 1) t z L m);
      }

pub meets_true : (t : Tally) (z L : ℕ) → 0 < t.n → meets t z L ≡ true → Meets t z L
unfolding meets
meets_true t z L p e = moved_meets t z L p (passes_moved (t.n - 1) t z L e)

pub meets_met : (t : Tally) (z L : ℕ) → 0 < t.n → Meets t z L → meets t z L ≡ true
unfolding meets
meets_met t z L p c = moved_passes (t.n - 1) t z L (meets_moved t z L p c)

pub meets_false : (t : Tally) (z L : ℕ) → 0 < t.n → meets t z L ≡ false → Meets t z L → ⊥
meets_false t z L p e m = clash (meets_met t z L p m) e

-- the test, once it is known whether S is at least nL
pub meets_short : (t : Tally) (z L : ℕ) → t.sum < t.n * L → false ≡ meets t z L
unfolding meets
meets_short t z L h =
    sym (ap (λ (b : Bool). both b (leb (spread_of t z) (allowed_of t z L))) (lt-leb (t.n * L) t.sum h))

pub meets_enough : (t : Tally) (z L : ℕ) → t.n * L ≤ t.sum → leb (spread_of t z) (allowed_of t z L) ≡ meets t z L
unfolding meets
meets_enough t z L h =
    sym (ap (λ (b : Bool). both b (leb (spread_of t z) (allowed_of t z L))) (le-leb (t.n * L) t.sum h))

-- more is allowed below a number than at it
spread_below : (t : Tally) (z L M : ℕ) → L ≤ M → allowed_of t z M ≤ allowed_of t z L
spread_below t z L M h =
    add-le-add (le_refl (z * (t.sum * t.sum))) (mul-le-mul_left 100 (mul-le-mul_left _ (mul-le-mul nearer nearer)))
  where
    nearer : t.sum - t.n * M ≤ t.sum - t.n * L
    nearer = sub-le-sub_left (mul-le-mul_left t.n h) t.sum

-- what meets the condition, and everything below it
pub meets_below : (t : Tally) (z L M : ℕ) → 0 < t.n → L ≤ M → Meets t z M → Meets t z L
meets_below t z L M p h c =
    let m = meets_moved t z M p c in
    moved_meets t z L p
    (record { room = le_trans (mul-le-mul_left t.n h) m.room; spread = le_trans m.spread (spread_below t z L M h) })

-- nothing above the mean has room, so nothing above it meets them
pub no_room : (t : Tally) (M : ℕ) → 0 < t.n → mean_of t < M → t.n * M ≤ t.sum → ⊥
unfolding mean_of
no_room t M p h room =
    not-le_of_lt (lt-mul-div-succ t.sum p)
    (le_trans (mul-le-mul_left t.n (let k : t.sum / t.n + 1 ≤ M = omega arith in k)) room)

pub above_mean : (t : Tally) (z M : ℕ) → 0 < t.n → mean_of t < M → Meets t z M → ⊥
above_mean t z M p h m = no_room t M p h (meets_moved t z M p m).room

-- ---- the greatest number that passes a test

module _ (p : ℕ → Bool) where
  greatest_case : (k : ℕ)
      → ((p (suc k) ≡ true) × (greatest_up_to p (suc k) ≡ suc k)) ⊎ ((p (suc k) ≡ false) × (greatest_up_to p (suc k) ≡ greatest_up_to p k))
  unfolding greatest_up_to
  greatest_case k = go (p (suc k)) refl
    where
      go : (b : Bool) → p (suc k) ≡ b
          → ((p (suc k) ≡ true) × (greatest_up_to p (suc k) ≡ suc k)) ⊎ ((p (suc k) ≡ false) × (greatest_up_to p (suc k) ≡ greatest_up_to p k))
      go true e = inl (e, ap (λ (b : Bool). elim b [ true ↦ suc k | false ↦ greatest_up_to p k ]) e)
      go false e = inr (e, ap (λ (b : Bool). elim b [ true ↦ suc k | false ↦ greatest_up_to p k ]) e)

  greatest_zero : greatest_up_to p 0 ≡ 0
  unfolding greatest_up_to
  greatest_zero = refl

  pub greatest_within : (k : ℕ) → greatest_up_to p k ≤ k
  greatest_within zero = subst (λ (n : ℕ). n ≤ 0) (sym greatest_zero) (le_refl 0)
  greatest_within (suc k) =
      ⊎_elim
      (λ c. subst (λ (n : ℕ). n ≤ suc k) (sym c.1) (le_refl (suc k)))
      (λ c. subst (λ (n : ℕ). n ≤ suc k) (sym c.1) (le_step (greatest_within k)))
      (greatest_case k)

  pub greatest_passes : (k : ℕ) → 0 < greatest_up_to p k → p (greatest_up_to p k) ≡ true
  greatest_passes zero h = absurd (not-suc-le-zero (subst (λ (n : ℕ). 0 < n) greatest_zero h))
  greatest_passes (suc k) h =
      ⊎_elim
      (λ c. ap p c.1 ∙ c.0)
      (λ c. ap p c.1 ∙ greatest_passes k (subst (λ (n : ℕ). 0 < n) c.1 h))
      (greatest_case k)

  pub greatest_last : (k M : ℕ) → greatest_up_to p k < M → M ≤ k → p M ≡ false
  greatest_last zero M h l = absurd (not-suc-le-zero (le_trans h l))
  greatest_last (suc k) M h l =
      ⊎_elim
      (λ c. absurd (not-le_of_lt (subst (λ (n : ℕ). n < M) c.1 h) l))
      (λ c. ⊎_elim
      (λ e. subst (λ (n : ℕ). p n ≡ false) (sym e) c.0)
      (λ s. greatest_last k M (subst (λ (n : ℕ). n < M) c.1 h) (le_of_suc-le-suc s))
      (eq-or-lt_of_le l))
      (greatest_case k)

  -- where nothing above k meets what the test tests, it is the greatest of all
  pub greatest_is : (P : ℕ → Type 0) (k : ℕ)
      → ((M : ℕ) → p M ≡ true → P M)
      → ((M : ℕ) → p M ≡ false → P M → ⊥)
      → ((M : ℕ) → k < M → P M → ⊥)
      → (0 < greatest_up_to p k → P (greatest_up_to p k)) × ((M : ℕ) → greatest_up_to p k < M → P M → ⊥)
  greatest_is P k passed failed above = (
    λ h. passed (greatest_up_to p k) (greatest_passes k h),
    λ M h m. elim (dec_le M k) [ yes l ↦ failed M (greatest_last k M h l) m | no n ↦ above M (lt_of_not-le n) m ],
  )

-- ---- the limit

-- the computed limit is what rule 7.7 asks for
pub limit_is : (t : Tally) (z : ℕ) → 0 < t.n → IsLimit t z (limit_of t z)
unfolding limit_of
limit_is t z p =
    let found =
    greatest_is (meets t z) (Meets t z) (mean_of t) (λ M. meets_true t z M p) (λ M. meets_false t z M p) (λ M. above_mean t z M p) in
    record { reached = found.0; greatest = found.1 }

-- a number that meets what is asked, or 0, is at most M if nothing above M meets it
pub no_more : (P : ℕ → Type 0) (L M : ℕ) → (0 < L → P L) → ((K : ℕ) → M < K → P K → ⊥) → L ≤ M
no_more P L M reached greatest =
    elim (dec_le L M) [
      | yes l ↦ l
      | no n ↦ absurd (greatest L (lt_of_not-le n) (reached (lt_of_le_of_lt (zero-le) (lt_of_not-le n))))
    ]

-- there is one limit
pub limit_unique : (t : Tally) (z L M : ℕ) → IsLimit t z L → IsLimit t z M → L ≡ M
limit_unique t z L M x y =
    le_antisymm (no_more (Meets t z) L M x.reached y.greatest) (no_more (Meets t z) M L y.reached x.greatest)

-- whatever is a limit is the computed one
pub limit_of_lem : (t : Tally) (z L : ℕ) → 0 < t.n → IsLimit t z L → L ≡ limit_of t z
limit_of_lem t z L p x = limit_unique t z L (limit_of t z) x (limit_is t z p)

-- ---- bounds of a replacement

pub mean_most : (t : Tally) (b : ℕ) → t.sum ≤ t.n * b → mean_of t ≤ b
unfolding mean_of
mean_most t b h = div-le_of_le-mul t.n h

pub limit_mean : (t : Tally) (z : ℕ) → limit_of t z ≤ mean_of t
unfolding limit_of
limit_mean t z = greatest_within (meets t z) (mean_of t)

pub limit_most : (t : Tally) (z b : ℕ) → t.sum ≤ t.n * b → limit_of t z ≤ b
limit_most t z b h = le_trans (limit_mean t z) (mean_most t b h)

-- values of at most b, and a replacement of at most b
pub windows_mean_most : (b : ℕ) (before after : List ℕ) → Low b before → Low b after → mean_of (tally_of (before ++ after)) ≤ b
windows_mean_most b before after l m =
    mean_most (tally_of (before ++ after)) b (tally_most b (before ++ after) (low_append b before after l m))

pub windows_limit_most : (b z : ℕ) (before after : List ℕ) → Low b before → Low b after → limit_of (tally_of (before ++ after)) z ≤ b
windows_limit_most b z before after l m =
    le_trans (limit_mean (tally_of (before ++ after)) z) (windows_mean_most b before after l m)
