-- Signed numbers carried over to naturals, where `omega` reads them: z is p - m, for two naturals p and m.
-- Assumes nothing.
use Prim.Native.Nat.{ℕ, zero, suc, ◌+◌, ◌-◌, ◌*◌, ◌≤◌, ◌<◌}
use mathlib.Core.Path.{◌≡◌, refl, sym, ap, subst}
use mathlib.Core.Bool.{Bool, cond}
use native.Mathlib.Nat.{lt_of_not-le, mul-div-le, lt-mul-div-succ}
use native.Mathlib.Decide.{dec_le}
use native.Mathlib.Omega.{arith}
use lib.Dec.{leb→le, le→leb, lt→ltb}
use lib.IntN.{ℤ, pos, negsuc, neg_ℤ, sub_ℕ, ◌+ℤ◌, ◌-ℤ◌, ◌*ℤ◌}
use lib.Signed.{◌≤ℤ◌, ◌<ℤ◌, shr_z, mag}
use borrow.Author.Tests.{lt-ltb, le-ltb}

-- z is what it has above 0 less what it has below 0
abbrev pub above : ℤ → ℕ
above (pos n) = n
above (negsuc n) = 0

abbrev pub below : ℤ → ℕ
below (pos n) = 0
below (negsuc n) = suc n

pub record Is (z : ℤ) (p m : ℕ) : Type 0 where
  pub is : p + below z ≡ m + above z

pub is_self : (z : ℤ) → Is z (above z) (below z)
is_self (pos n) = record { is = omega arith }
is_self (negsuc n) = record { is = omega arith }

pub is_pos : (n : ℕ) → Is (pos n) n 0
is_pos n = record { is = omega arith }

is_neg_pos : (n : ℕ) → Is (neg_ℤ (pos n)) 0 n
is_neg_pos zero = record { is = refl }
is_neg_pos (suc n) = record { is = omega arith }

pub sub_le : (a b : ℕ) → b ≤ a → sub_ℕ a b ≡ pos (a - b)
sub_le a b h = ap (λ (t : Bool). cond t (negsuc (b - suc a)) (pos (a - b))) (le-ltb a b h)

pub sub_lt : (a b : ℕ) → a < b → sub_ℕ a b ≡ negsuc (b - suc a)
sub_lt a b h = ap (λ (t : Bool). cond t (negsuc (b - suc a)) (pos (a - b))) (lt-ltb a b h)

-- by the order of two naturals
pub by_order {ℓ} : {X : Type ℓ} (a b : ℕ) → (a ≤ b → X) → (b < a → X) → X
by_order a b f g = elim (dec_le a b) [ yes h ↦ f h | no n ↦ g (lt_of_not-le n) ]

pub is_sub : (a b : ℕ) → Is (sub_ℕ a b) a b
is_sub a b =
    by_order b a
    (λ h. subst (λ (z : ℤ). Is z a b) (sym (sub_le a b h)) (record { is = omega arith }))
    (λ h. subst (λ (z : ℤ). Is z a b) (sym (sub_lt a b h)) (record { is = omega arith }))

pub is_add : (z w : ℤ) {p m q n : ℕ} → Is z p m → Is w q n → Is (z +ℤ w) (p + q) (m + n)
is_add (pos a) (pos b) x y = record { is = let e = x.is in let f = y.is in omega arith }
is_add (pos a) (negsuc b) x y =
    record { is = let e = x.is in let f = y.is in let g = (is_sub a (suc b)).is in omega arith }
is_add (negsuc a) (pos b) x y =
    record { is = let e = x.is in let f = y.is in let g = (is_sub b (suc a)).is in omega arith }
is_add (negsuc a) (negsuc b) x y = record { is = let e = x.is in let f = y.is in omega arith }

pub is_neg : (z : ℤ) {p m : ℕ} → Is z p m → Is (neg_ℤ z) m p
is_neg (pos zero) x = record { is = let e = x.is in omega arith }
is_neg (pos (suc n)) x = record { is = let e = x.is in omega arith }
is_neg (negsuc n) x = record { is = let e = x.is in omega arith }

pub is_minus : (z w : ℤ) {p m q n : ℕ} → Is z p m → Is w q n → Is (z -ℤ w) (p + n) (m + q)
is_minus z w x y = is_add z (neg_ℤ w) x (is_neg w y)

pub is_times : (z : ℤ) (k : ℕ) {p m : ℕ} → Is z p m → Is (z *ℤ pos k) (p * k) (m * k)
is_times (pos a) k x = record { is = let e = ap (λ (n : ℕ). n * k) x.is in omega arith }
is_times (negsuc a) k x =
    record { is = let e = ap (λ (n : ℕ). n * k) x.is in let f = (is_neg_pos (suc a * k)).is in omega arith }

-- a difference is no larger than what it is made of
pub is_mag : (z : ℤ) {p m : ℕ} → Is z p m → mag z ≤ p + m
is_mag (pos n) x = let e = x.is in omega arith
is_mag (negsuc n) x = let e = x.is in omega arith

-- ---- equality and order

pub is_same : (z w : ℤ) {p m q n : ℕ} → Is z p m → Is w q n → p + n ≡ q + m → z ≡ w
is_same (pos a) (pos b) x y h = ap pos (let e = x.is in let f = y.is in omega arith)
is_same (pos a) (negsuc b) x y h = absurd (let e = x.is in let f = y.is in let w : ⊥ = omega arith in w)
is_same (negsuc a) (pos b) x y h = absurd (let e = x.is in let f = y.is in let w : ⊥ = omega arith in w)
is_same (negsuc a) (negsuc b) x y h = ap negsuc (let e = x.is in let f = y.is in omega arith)

pub is_le : (z w : ℤ) {p m q n : ℕ} → Is z p m → Is w q n → p + n ≤ q + m → z ≤ℤ w
is_le (pos a) (pos b) x y h = record { le = le→leb a b (let e = x.is in let f = y.is in omega arith) }
is_le (pos a) (negsuc b) x y h = absurd (let e = x.is in let f = y.is in let w : ⊥ = omega arith in w)
is_le (negsuc a) (pos b) x y h = record { le = tt }
is_le (negsuc a) (negsuc b) x y h = record { le = le→leb b a (let e = x.is in let f = y.is in omega arith) }

pub le_is : (z w : ℤ) {p m q n : ℕ} → Is z p m → Is w q n → z ≤ℤ w → p + n ≤ q + m
le_is (pos a) (pos b) x y h = let e = x.is in let f = y.is in let g = leb→le a b h.le in omega arith
le_is (pos a) (negsuc b) x y h = absurd h.le
le_is (negsuc a) (pos b) x y h = let e = x.is in let f = y.is in omega arith
le_is (negsuc a) (negsuc b) x y h = let e = x.is in let f = y.is in let g = leb→le b a h.le in omega arith

pub is_lt : (z w : ℤ) {p m q n : ℕ} → Is z p m → Is w q n → p + n < q + m → z <ℤ w
is_lt (pos a) (pos b) x y h = record { lt = lt→ltb a b (let e = x.is in let f = y.is in omega arith) }
is_lt (pos a) (negsuc b) x y h = absurd (let e = x.is in let f = y.is in let w : ⊥ = omega arith in w)
is_lt (negsuc a) (pos b) x y h = record { lt = tt }
is_lt (negsuc a) (negsuc b) x y h = record { lt = lt→ltb b a (let e = x.is in let f = y.is in omega arith) }

-- ---- rounded towards minus infinity

-- t is the greatest whole number with t * k at most p - m
pub record Floor (t : ℤ) (p m k : ℕ) : Type 0 where
  pub low : above t * k + m ≤ below t * k + p
  pub high : below t * k + p < above t * k + m + k

pub is_floor : (z : ℤ) (k : ℕ) {p m : ℕ} → 0 < k → Is z p m → Floor (shr_z z k) p m k
is_floor (pos a) k h x =
    let e = x.is in
    let f = mul-div-le a k in
    let g = lt-mul-div-succ a h in
    record { low = omega arith; high = omega arith }
is_floor (negsuc a) k h x =
    let e = x.is in
    let f = mul-div-le a k in
    let g = lt-mul-div-succ a h in
    record { low = omega arith; high = omega arith }
