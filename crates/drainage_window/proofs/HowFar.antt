-- How far below the earlier limit (proofs/Earlier.antt) the limit of the same window can be: at most 5 for a flow and 2 for a
-- CH4 content at 90 %, 2 and 1 at 95 %.
-- Assumes nothing.
use Prim.Native.Nat.{ℕ, ◌+◌, ◌-◌, ◌*◌, ◌≤◌, ◌<◌}
use mathlib.Core.Path.{◌≡◌, refl, sym, ap, ◌∙◌, subst}
use mathlib.Core.List.{List, [], ◌∷◌, ◌++◌, map}
use native.Mathlib.Nat.{le_of_lt, le_trans, add-le-add, le_refl, mul-le-mul_left, mul-le-mul, lt_of_not-le}
use native.Mathlib.Decide.{dec_le}
use native.Mathlib.Omega.{arith}
use lib.ListN.{length, replicate}
use Rattle.rows.specs.Rows.{total}
use Rattle.protocol.specs.Ranges.{flow_most, content_most}
use Rattle.drainage_window.specs.declared.Tally.{Tally}
use Rattle.drainage_window.specs.Window.{tally_of, mean_of, Meets, IsLimit, spread_of, meets, greatest_up_to, limit_of, z90, z95, width90, width95}
use Rattle.drainage_window.specs.Sizes.{Low}
use Rattle.drainage_window.proofs.Laws.{low_head, low_tail, total_most, tally_count, moved_meets, no_more, limit_is}
use Rattle.drainage_window.proofs.Earlier.{MetEarlier, IsEarlierLimit, earlier_limit_of, earlier_moved, earlier_is}

-- values of at most b, with m for n - 1: they cannot lower the limit by more than k
abbrev pub LowersAtMost : ℕ → ℕ → ℕ → ℕ → Type 0
LowersAtMost m b z k = z * (b * b) ≤ 1600 * (k * k * (m * m * m))

rest : {x y : ℕ} → x ≤ y → x + (y - x) ≡ y
rest h = omega arith

-- 4xy is at most (x + y)²
four_apart : (x e : ℕ) → 4 * (x * (x + e)) ≤ (x + (x + e)) * (x + (x + e))
four_apart x e = omega arith

four_times : (x y : ℕ) → 4 * (x * y) ≤ (x + y) * (x + y)
four_times x y =
    elim (dec_le x y) [
      | yes l ↦ subst (λ (w : ℕ). 4 * (x * w) ≤ (x + w) * (x + w)) (rest l) (four_apart x (y - x))
      | no n ↦ let h = subst (λ (w : ℕ). 4 * (y * w) ≤ (y + w) * (y + w)) (rest (le_of_lt (lt_of_not-le n))) (four_apart y (x - y)) in omega arith
    ]

-- values of at most b: 4 × (n × Q2 - S²) is at most (n × b)²
spread_most : (n s q b : ℕ) → q ≤ b * s → s ≤ n * b → 4 * (n * q) ≤ 4 * (s * s) + n * b * (n * b)
spread_most n s q b hq hs =
    let whole : s + (n * b - s) ≡ n * b = rest hs in
    let h : n * q ≤ n * (b * s) = mul-le-mul_left n hq in
    let g : 4 * (s * (n * b - s)) ≤ n * b * (n * b) = subst (λ (w : ℕ). 4 * (s * (n * b - s)) ≤ w * w) whole (four_times s (n * b - s)) in
    let e : (s + (n * b - s)) * s ≡ n * b * s = ap (λ (w : ℕ). w * s) whole in
    omega (arith, h, g, e)

-- n × d² against (n - 1) × (d + nk)², with m for n - 1, where d is not above 2k × n × (n - 1)
near : (m k d : ℕ) → d ≤ 2 * (k * ((m + 1) * m)) → (m + 1) * (d * d) ≤ m * ((d + (m + 1) * k) * (d + (m + 1) * k))
near m k d h = let g : d * d ≤ 2 * (k * ((m + 1) * m)) * d = mul-le-mul h (le_refl d) in omega arith

-- above it, what b allows is enough
far : (n m s q b z k d : ℕ) → q ≤ b * s → s ≤ n * b → LowersAtMost m b z k → 2 * (k * (n * m)) ≤ d
    → z * (n * q) ≤ z * (s * s) + 100 * (m * (d * d))
far n m s q b z k d hq hs hz hd =
    let a : z * (4 * (n * q)) ≤ z * (4 * (s * s) + n * b * (n * b)) = mul-le-mul_left z (spread_most n s q b hq hs) in
    let e : n * n * (z * (b * b)) ≤ n * n * (1600 * (k * k * (m * m * m))) = mul-le-mul_left (n * n) hz in
    let g : m * (2 * (k * (n * m)) * (2 * (k * (n * m)))) ≤ m * (d * d) = mul-le-mul_left m (mul-le-mul hd hd) in
    omega (arith, a, e, g)

-- so what d met with the divisor n, d + nk meets with n - 1
widened : (n m s q b z k d : ℕ) → m + 1 ≡ n → q ≤ b * s → s ≤ n * b → LowersAtMost m b z k
    → z * (n * q) ≤ z * (s * s) + 100 * (n * (d * d)) → z * (n * q) ≤ z * (s * s) + 100 * (m * ((d + n * k) * (d + n * k)))
widened n m s q b z k d e hq hs hz met =
    elim (dec_le d (2 * (k * (n * m)))) [
      | yes l ↦ le_trans met (add-le-add (le_refl (z * (s * s))) (mul-le-mul_left 100 (subst Near e (near m k d) l)))
      | no f ↦ far n m s q b z k (d + n * k) hq hs hz (let l : 2 * (k * (n * m)) < d = lt_of_not-le f in omega (arith, l))
    ]
  where
    Near : ℕ → Type 0
    Near w = d ≤ 2 * (k * (w * m)) → w * (d * d) ≤ m * ((d + w * k) * (d + w * k))

-- values of at most b, in what this needs of them
pub record UpTo (b : ℕ) (t : Tally) : Type 0 where
  pub some : 0 < t.n
  pub sum : t.sum ≤ t.n * b
  pub squares : t.squares ≤ b * t.sum

-- k below what met the earlier conditions, these are met
met_below : (t : Tally) (z b k M : ℕ) → UpTo b t → LowersAtMost (t.n - 1) b z k
    → MetEarlier t z (M + k) → Meets t z M
met_below t z b k M w h c =
    let e = earlier_moved t z (M + k) c in
    moved_meets t z M w.some
    (record {
      room = le_trans (mul-le-mul_left t.n (let l : M ≤ M + k = omega arith in l)) e.room;
      spread =
          subst (λ (d : ℕ). spread_of t z ≤ z * (t.sum * t.sum) + 100 * ((t.n - 1) * (d * d))) (further t.n t.sum e.room)
          (widened t.n (t.n - 1) t.sum t.squares b z k (t.sum - t.n * (M + k)) (one_more w.some) w.squares w.sum h e.spread);
    })
  where
    further : (n s : ℕ) → n * (M + k) ≤ s → s - n * (M + k) + n * k ≡ s - n * M
    further n s r = omega arith

    one_more : {n : ℕ} → 0 < n → n - 1 + 1 ≡ n
    one_more l = omega arith

-- the limit is at most k below the earlier one
pub never_far : (t : Tally) (z b k L M : ℕ) → UpTo b t → LowersAtMost (t.n - 1) b z k
    → IsLimit t z L → IsEarlierLimit t z M → M ≤ L + k
never_far t z b k L M w h x y =
    no_more (MetEarlier t z) M (L + k) y.reached
    (λ K l m. x.greatest (K - k) (omega arith) (met_below t z b k (K - k) w h (subst (MetEarlier t z) (let e : K ≡ K - k + k = omega arith in e) m)))

-- of the values themselves
squares_sum : (b : ℕ) (xs : List ℕ) → Low b xs → total (map (λ v. v * v) xs) ≤ b * total xs
squares_sum b [] l = let z : 0 ≤ b * 0 = omega arith in z
squares_sum b (x ∷ xs) l =
    let h : total (map (λ v. v * v) xs) ≤ b * total xs = squares_sum b xs (low_tail b x xs l) in
    let g : x * x ≤ b * x = mul-le-mul (low_head b x xs l) (le_refl x) in
    omega arith

up_to : (b : ℕ) (xs : List ℕ) → 0 < length xs → Low b xs → UpTo b (tally_of xs)
unfolding tally_of
up_to b xs p l = record { some = p; sum = total_most b xs l; squares = squares_sum b xs l }

-- n values of at most b
lower : (n b z k : ℕ) (xs : List ℕ) → length xs ≡ n → 0 < n → Low b xs → LowersAtMost (n - 1) b z k
    → earlier_limit_of (tally_of xs) z ≤ limit_of (tally_of xs) z + k
lower n b z k xs e p l h =
    let count : n ≡ (tally_of xs).n = sym (tally_count xs ∙ e) in
    let w = up_to b xs (subst (λ (m : ℕ). 0 < m) (sym e) p) l in
    never_far (tally_of xs) z b k (limit_of (tally_of xs) z) (earlier_limit_of (tally_of xs) z) w
    (subst (λ (m : ℕ). LowersAtMost (m - 1) b z k) count h)
    (limit_is (tally_of xs) z w.some)
    (earlier_is (tally_of xs) z w.some)

-- the four that there are: flow and CH4, 90 % and 95 %
pub flow_90 : (xs : List ℕ) → length xs ≡ 2 * width90 → Low flow_most xs → earlier_limit_of (tally_of xs) z90 ≤ limit_of (tally_of xs) z90 + 5
flow_90 xs e l = lower 192 flow_most z90 5 xs e (omega arith) l (omega arith)

pub flow_95 : (xs : List ℕ) → length xs ≡ 2 * width95 → Low flow_most xs → earlier_limit_of (tally_of xs) z95 ≤ limit_of (tally_of xs) z95 + 2
flow_95 xs e l = lower 576 flow_most z95 2 xs e (omega arith) l (omega arith)

pub content_90 : (xs : List ℕ) → length xs ≡ 2 * width90 → Low content_most xs → earlier_limit_of (tally_of xs) z90 ≤ limit_of (tally_of xs) z90 + 2
content_90 xs e l = lower 192 content_most z90 2 xs e (omega arith) l (omega arith)

pub content_95 : (xs : List ℕ) → length xs ≡ 2 * width95 → Low content_most xs → earlier_limit_of (tally_of xs) z95 ≤ limit_of (tally_of xs) z95 + 1
content_95 xs e l = lower 576 content_most z95 1 xs e (omega arith) l (omega arith)

-- ---- Examples: each of the four is reached
abbrev fallen : ℕ → List ℕ → ℕ
fallen z xs = earlier_limit_of (tally_of xs) z - limit_of (tally_of xs) z

reached : (fallen z90 (replicate 88 0 ++ replicate 104 30000) ≡ 5) × (fallen z95 (2000 ∷ replicate 282 0 ++ replicate 293 30000) ≡ 2)
    × (fallen z90 (replicate 89 0 ++ replicate 103 10000) ≡ 2) × (fallen z95 (replicate 280 0 ++ replicate 296 10000) ≡ 1)
unfolding earlier_limit_of limit_of mean_of tally_of meets greatest_up_to
reached = (refl, refl, refl, refl)
