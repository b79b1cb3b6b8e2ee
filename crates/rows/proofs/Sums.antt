-- Laws of sums and counts over an index function.
-- Assumes nothing.
use Prim.Native.Nat.{ℕ, zero, suc, ◌+◌, ◌*◌, ◌≤◌, ◌<◌}
use mathlib.Core.Path.{◌≡◌, refl, sym, ap, ap₂, ◌∙◌, subst}
use mathlib.Core.Bool.{Bool, true, false}
use lib.Dec.{eqb}
use native.Mathlib.Nat.{le_refl, le_step, lt-suc_self, mul-add, mul-zero, zero-mul, suc-mul, not-suc-le-zero, le_of_suc-le-suc, add-le-add, eq-or-lt_of_le}
use native.Mathlib.Omega.{arith}
use mathlib.Core.Logic.{⊎_elim}
use borrow.Author.Tests.{eq-eqb, ne_eqb}
use Rattle.rows.specs.Rows.{sum_to, count_of, hit, pick}

-- equal entries, equal sums
pub sum_to_ext : (n : ℕ) (f g : ℕ → ℕ) → ((k : ℕ) → k < n → f k ≡ g k) → sum_to n f ≡ sum_to n g
sum_to_ext zero f g h = refl
sum_to_ext (suc n) f g h = ap₂ ◌+◌ (sum_to_ext n f g (λ k l. h k (le_step l))) (h n (lt-suc_self n))

-- entries that are no larger, a sum that is no larger
pub sum_to_le : (n : ℕ) (f g : ℕ → ℕ) → ((k : ℕ) → k < n → f k ≤ g k) → sum_to n f ≤ sum_to n g
sum_to_le zero f g h = le_refl 0
sum_to_le (suc n) f g h = add-le-add (sum_to_le n f g (λ k l. h k (le_step l))) (h n (lt-suc_self n))

pub sum_to_zero : (n : ℕ) → sum_to n (λ k. 0) ≡ 0
sum_to_zero zero = refl
sum_to_zero (suc n) = let h : sum_to n (λ k. 0) ≡ 0 = sum_to_zero n in omega arith

pub sum_to_const : (n b : ℕ) → sum_to n (λ k. b) ≡ n * b
sum_to_const zero b = sym (zero-mul b)
sum_to_const (suc n) b = ap (λ (s : ℕ). s + b) (sum_to_const n b) ∙ sym (suc-mul n b)

-- n entries of at most b
pub sum_to_bound : (n b : ℕ) (f : ℕ → ℕ) → ((k : ℕ) → k < n → f k ≤ b) → sum_to n f ≤ n * b
sum_to_bound n b f h = subst (λ (m : ℕ). sum_to n f ≤ m) (sum_to_const n b) (sum_to_le n f (λ k. b) h)

pub sum_to_add : (n : ℕ) (f g : ℕ → ℕ) → sum_to n (λ k. f k + g k) ≡ sum_to n f + sum_to n g
sum_to_add zero f g = refl
sum_to_add (suc n) f g = let h : sum_to n (λ k. f k + g k) ≡ sum_to n f + sum_to n g = sum_to_add n f g in omega arith

pub sum_to_mul : (n c : ℕ) (f : ℕ → ℕ) → sum_to n (λ k. c * f k) ≡ c * sum_to n f
sum_to_mul zero c f = sym (mul-zero c)
sum_to_mul (suc n) c f = ap (λ (s : ℕ). s + c * f n) (sum_to_mul n c f) ∙ sym (mul-add c (sum_to n f) (f n))

-- a sum over two indices may be taken in either order
pub sum_to_swap : (n m : ℕ) (f : ℕ → ℕ → ℕ) → sum_to n (λ i. sum_to m (f i)) ≡ sum_to m (λ j. sum_to n (λ i. f i j))
sum_to_swap zero m f = sym (sum_to_zero m)
sum_to_swap (suc n) m f =
    ap (λ (s : ℕ). s + sum_to m (f n)) (sum_to_swap n m f) ∙ sym (sum_to_add m (λ j. sum_to n (λ i. f i j)) (f n))

-- an entry is no larger than the sum
pub sum_to_entry : (n : ℕ) (f : ℕ → ℕ) (k : ℕ) → k < n → f k ≤ sum_to n f
sum_to_entry zero f k h = absurd (not-suc-le-zero h)
sum_to_entry (suc n) f k h =
    ⊎_elim
    (λ e. subst (λ (m : ℕ). f m ≤ sum_to n f + f n) (sym e) (let z : f n ≤ sum_to n f + f n = omega arith in z))
    (λ l. let z : f k ≤ sum_to n f = sum_to_entry n f k l in omega arith)
    (eq-or-lt_of_le (le_of_suc-le-suc h))

-- ---- counts

pub hit_same : (j : ℕ) → hit j j ≡ 1
hit_same j = ap (λ (b : Bool). pick b 1 0) (eq-eqb j j refl)

pub hit_other : (x j : ℕ) → (x ≡ j → ⊥) → hit x j ≡ 0
hit_other x j h = ap (λ (b : Bool). pick b 1 0) (ne_eqb x j h)

-- below x there is no hit of x
hits_below : (m x : ℕ) → m ≤ x → sum_to m (hit x) ≡ 0
hits_below zero x h = refl
hits_below (suc m) x h =
    let a : sum_to m (hit x) ≡ 0 = hits_below m x (omega arith) in
    let b : hit x m ≡ 0 = hit_other x m (λ e. omega arith) in
    omega arith

-- a value below m is hit once among 0 .. m - 1
pub hits_once : (m x : ℕ) → x < m → sum_to m (hit x) ≡ 1
hits_once zero x h = absurd (not-suc-le-zero h)
hits_once (suc m) x h =
    ⊎_elim
    (λ e. let a : sum_to m (hit x) ≡ 0 = hits_below m x (omega arith) in
    let b : hit x m ≡ 1 = subst (λ (y : ℕ). hit x y ≡ 1) e (hit_same x) in
    omega arith)
    (λ l. let a : sum_to m (hit x) ≡ 1 = hits_once m x l in
    let b : hit x m ≡ 0 = hit_other x m (λ e. omega arith) in
    omega arith)
    (eq-or-lt_of_le (le_of_suc-le-suc h))

-- the counts of all values add to the number of entries
pub counts_add : (n m : ℕ) (f : ℕ → ℕ) → ((k : ℕ) → k < n → f k < m) → sum_to m (count_of n f) ≡ n
counts_add n m f h =
    sym (sum_to_swap n m (λ k. hit (f k)))
    ∙ sum_to_ext n (λ k. sum_to m (hit (f k))) (λ k. 1) (λ k l. hits_once m (f k) (h k l))
    ∙ sum_to_const n 1
    ∙ (let z : n * 1 ≡ n = omega arith in z)

pub count_most : (n : ℕ) (f : ℕ → ℕ) (j : ℕ) → count_of n f j ≤ n
count_most n f j = let h : count_of n f j ≤ n * 1 = sum_to_bound n 1 (λ k. hit (f k) j) (λ k z. one (eqb (f k) j)) in omega arith
  where
    one : (b : Bool) → pick b 1 0 ≤ 1
    one true = omega arith
    one false = omega arith
