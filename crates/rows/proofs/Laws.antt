-- Laws of rows: built, joined, cut and put back; the first offender.
-- Assumes nothing.
use Prim.Native.Nat.{ℕ, zero, suc, ◌+◌, ◌*◌, ◌-◌, ◌≤◌, ◌<◌}
use mathlib.Core.Path.{◌≡◌, refl, sym, ap, ap₂, ◌∙◌, subst}
use mathlib.Core.Bool.{Bool, true, false}
use mathlib.Core.Logic.{⊎_elim}
use mathlib.Core.List.{List, [], ◌∷◌, ◌++◌, append_assoc, append-nil}
use native.Mathlib.Nat.{le_refl, le_step, lt-suc_self, suc-mul, zero-mul, not-suc-le-zero, le_of_suc-le-suc, eq-or-lt_of_le, mul-le-mul_right, le_antisymm}
use native.Mathlib.Nat.{lt_irrefl, add-sub_cancel_left, lt_of_not-le}
use native.Mathlib.Numerals.{add-one}
use native.Mathlib.Decide.{dec_le}
use native.Mathlib.Omega.{arith}
use lib.Dec.{eqb}
use lib.ListN.{length, take, drop, get_or, set, length-append, length-take, length-drop, get_or-append}
use lib.Seq.{take_at, drop_at, get_or-append-add, get_or_at, set_at, drop-cons, drop-drop, drop-length, ext_get_or}
use borrow.Author.Tests.{eq-eqb, ne_eqb}
use Rattle.rows.proofs.Truth.{clash}
use Rattle.rows.specs.Rows.{pick, both, build, join, cut, put, every, first, FirstOf}

module _ {A : Type 0} where
  pub length-build : (n : ℕ) (f : ℕ → A) → length (build n f) ≡ n
  length-build zero f = refl
  length-build (suc n) f = length-append (build n f) (f n ∷ []) ∙ ap (λ (k : ℕ). k + 1) (length-build n f) ∙ add-one n

  pub get_or-build : (n : ℕ) (f : ℕ → A) (k : ℕ) (d : A) → k < n → get_or (build n f) k d ≡ f k
  get_or-build zero f k d h = absurd (not-suc-le-zero h)
  get_or-build (suc n) f k d h =
      ⊎_elim
      (λ e. subst (λ (m : ℕ). get_or (build n f ++ (f n ∷ [])) m d ≡ f m) (sym e) (get_or_at (build n f) (f n) [] d n (length-build n f)))
      (λ l. get_or-append (build n f) (f n ∷ []) d k (subst (λ (m : ℕ). k < m) (sym (length-build n f)) l) ∙ get_or-build n f k d l)
      (eq-or-lt_of_le (le_of_suc-le-suc h))

  pub build_ext : (n : ℕ) (f g : ℕ → A) → ((k : ℕ) → k < n → f k ≡ g k) → build n f ≡ build n g
  build_ext zero f g h = refl
  build_ext (suc n) f g h =
      ap₂ (λ (xs : List A) (x : A). xs ++ (x ∷ [])) (build_ext n f g (λ k l. h k (le_step l))) (h n (lt-suc_self n))

  -- inside a row, what stands for an absent entry does not matter
  pub get_or_inside : (xs : List A) (i : ℕ) (d e : A) → i < length xs → get_or xs i d ≡ get_or xs i e
  get_or_inside [] i d e h = absurd (not-suc-le-zero h)
  get_or_inside (x ∷ xs) zero d e h = refl
  get_or_inside (x ∷ xs) (suc i) d e h = get_or_inside xs i d e (le_of_suc-le-suc h)

  -- a row is built of its own entries
  pub build-get_or : (xs : List A) (d : A) → build (length xs) (λ k. get_or xs k d) ≡ xs
  build-get_or xs d =
      ext_get_or d (build (length xs) (λ k. get_or xs k d)) xs (length-build (length xs) (λ k. get_or xs k d))
      (λ i h. get_or-build (length xs) (λ k. get_or xs k d) i d (subst (λ (m : ℕ). i < m) (length-build (length xs) (λ k. get_or xs k d)) h))

  -- a store at i lengthens what is built by one entry
  pub build_step : (i : ℕ) (f : ℕ → A) (old : List A) → i < length old
      → set (build i f ++ drop i old) i (f i) ≡ build (suc i) f ++ drop (suc i) old
  build_step i f old h =
      ap (λ (t : List A). set (build i f ++ t) i (f i)) (drop-cons old i (f i) h)
      ∙ set_at (build i f) (get_or old i (f i)) (drop (suc i) old) (f i) i (length-build i f)
      ∙ sym (append_assoc (build i f) (f i ∷ []) (drop (suc i) old))

  -- a row that is built to its end leaves nothing of the old one
  pub build_done : (n : ℕ) (f : ℕ → A) (old : List A) → length old ≡ n → build n f ++ drop n old ≡ build n f
  build_done n f old e =
      ap (λ (t : List A). build n f ++ t) (ap (λ (m : ℕ). drop m old) (sym e) ∙ drop-length old) ∙ append-nil (build n f)

  -- ---- joined rows

  pub length-join : (n d : ℕ) (g : ℕ → List A) → ((k : ℕ) → k < d → length (g k) ≡ n) → length (join d g) ≡ d * n
  length-join n zero g h = sym (zero-mul n)
  length-join n (suc d) g h =
      length-append (join d g) (g d)
      ∙ ap₂ ◌+◌ (length-join n d g (λ k l. h k (le_step l))) (h d (lt-suc_self d))
      ∙ sym (suc-mul d n)

  pub join_ext : (d : ℕ) (f g : ℕ → List A) → ((k : ℕ) → k < d → f k ≡ g k) → join d f ≡ join d g
  join_ext zero f g h = refl
  join_ext (suc d) f g h = ap₂ ◌++◌ (join_ext d f g (λ k l. h k (le_step l))) (h d (lt-suc_self d))

-- device k of d has its whole row of n inside d * n
pub room : (n k d : ℕ) → k < d → k * n + n ≤ d * n
room n k d h = subst (λ (m : ℕ). m ≤ d * n) (suc-mul k n) (mul-le-mul_right n h)

module _ {A : Type 0} where
  -- entry i of joined row k
  pub get_or-join : (n d : ℕ) (g : ℕ → List A) (e : A) → ((k : ℕ) → k < d → length (g k) ≡ n)
      → (k i : ℕ) → k < d → i < n → get_or (join d g) (k * n + i) e ≡ get_or (g k) i e
  get_or-join n zero g e h k i l m = absurd (not-suc-le-zero l)
  get_or-join n (suc d) g e h k i l m =
      ⊎_elim
      (λ q. subst (λ (r : ℕ). get_or (join d g ++ g d) (r * n + i) e ≡ get_or (g r) i e) (sym q)
      (ap (λ (s : ℕ). get_or (join d g ++ g d) (s + i) e) (sym len) ∙ get_or-append-add (join d g) (g d) i e))
      (λ s. get_or-append (join d g) (g d) e (k * n + i)
      (subst (λ (r : ℕ). k * n + i < r) (sym len) (let z : k * n + n ≤ d * n = room n k d s in omega arith))
      ∙ get_or-join n d g e below k i s m)
      (eq-or-lt_of_le (le_of_suc-le-suc l))
    where
      below : (j : ℕ) → j < d → length (g j) ≡ n
      below j z = h j (le_step z)

      len : length (join d g) ≡ d * n
      len = length-join n d g below

  -- ---- parts

  pub length-cut : (xs : List A) (a e : ℕ) → a ≤ e → e ≤ length xs → length (cut xs a e) ≡ e - a
  length-cut xs a e h l = simp (length-take, length-drop) (omega arith)

  pub get_or-cut : (xs : List A) (a e i : ℕ) (d : A) → i < e - a → get_or (cut xs a e) i d ≡ get_or xs (a + i) d
  get_or-cut xs a e i d h = lib.Seq.get_or-take (e - a) (drop a xs) i d h ∙ lib.Seq.get_or-drop a xs i d

  pub length-put : (xs : List A) (a e : ℕ) (ys : List A) → a ≤ e → e ≤ length xs → length ys ≡ e - a → length (put xs a e ys) ≡ length xs
  length-put xs a e ys h l m = simp (length-append, length-take, length-drop) (omega arith)

  -- device k's part of a row that is joined up to k: the next row joins on
  pub join_step : (n k d : ℕ) (g : ℕ → List A) (old : List A)
      → ((j : ℕ) → j ≤ k → length (g j) ≡ n) → k < d → length old ≡ d * n
      → put (join k g ++ drop (k * n) old) (k * n) (k * n + n) (g k) ≡ join (suc k) g ++ drop (suc k * n) old
  join_step n k d g old h l e =
      ap₂ (λ (xs ys : List A). xs ++ (g k ++ ys))
      (take_at (join k g) (drop (k * n) old) (k * n) len)
      (ap (λ (m : ℕ). drop m (drop (k * n) (join k g ++ drop (k * n) old))) (add-sub_cancel_left (k * n) n)
      ∙ ap (drop n) (drop_at (join k g) (drop (k * n) old) (k * n) len)
      ∙ drop-drop n (k * n) old
      ∙ ap (λ (m : ℕ). drop m old) (sym (suc-mul k n)))
      ∙ sym (append_assoc (join k g) (g k) (drop (suc k * n) old))
    where
      len : length (join k g) ≡ k * n
      len = length-join n k g (λ j z. h j (omega arith))

  -- what is not yet joined is still as it was: device k's part
  pub join_rest : (n k d : ℕ) (g : ℕ → List A) (old : List A)
      → ((j : ℕ) → j < k → length (g j) ≡ n) → cut (join k g ++ drop (k * n) old) (k * n) (k * n + n) ≡ cut old (k * n) (k * n + n)
  join_rest n k d g old h = ap (take (k * n + n - k * n)) (drop_at (join k g) (drop (k * n) old) (k * n) (length-join n k g h))

  pub join_done : (n d : ℕ) (g : ℕ → List A) (old : List A) → length old ≡ d * n → join d g ++ drop (d * n) old ≡ join d g
  join_done n d g old e =
      ap (λ (t : List A). join d g ++ t) (ap (λ (m : ℕ). drop m old) (sym e) ∙ drop-length old) ∙ append-nil (join d g)

-- ---- tests over indices

zero_is_one : ◌≡◌ {A = ℕ} 0 1 → ⊥
zero_is_one z = omega arith

pub both_true : (a b : Bool) → both a b ≡ true → (a ≡ true) × (b ≡ true)
both_true true b e = (refl, e)
both_true false b e = let z : ◌≡◌ {A = ℕ} 0 1 = cc in absurd (zero_is_one z)

pub every_at : (n : ℕ) (p : ℕ → Bool) → every n p ≡ true → (k : ℕ) → k < n → p k ≡ true
every_at zero p e k h = absurd (not-suc-le-zero h)
every_at (suc n) p e k h =
    ⊎_elim
    (λ q. subst (λ (m : ℕ). p m ≡ true) (sym q) (both_true (every n p) (p n) e).1)
    (λ l. every_at n p (both_true (every n p) (p n) e).0 k l)
    (eq-or-lt_of_le (le_of_suc-le-suc h))

pub every_all : (n : ℕ) (p : ℕ → Bool) → ((k : ℕ) → k < n → p k ≡ true) → every n p ≡ true
every_all zero p h = refl
every_all (suc n) p h = ap₂ both (every_all n p (λ k l. h k (le_step l))) (h n (lt-suc_self n))

-- one that fails, and the test over all fails
pub every_fails : (n : ℕ) (p : ℕ → Bool) (k : ℕ) → k < n → p k ≡ false → every n p ≡ false
every_fails n p k h e = go (every n p) refl
  where
    go : (b : Bool) → every n p ≡ b → every n p ≡ false
    go false q = q
    go true q = let z : p k ≡ true = every_at n p q k h in cc

-- ---- the first offender

-- an order from the absurdity of its contrary
le_unless : (r s : ℕ) → (s < r → ⊥) → r ≤ s
le_unless r s f = elim (dec_le r s) [ yes h ↦ h | no n ↦ absurd (f (lt_of_not-le n)) ]

no_later : (n : ℕ) (p : ℕ → Bool) (r s : ℕ) → FirstOf n p r → FirstOf n p s → r ≤ s
no_later n p r s x y =
    le_unless r s (λ l. clash (y.found (let z : r ≤ n = x.within in omega arith)) (x.before s l))

-- the first offender is one and the same
pub first_unique : (n : ℕ) (p : ℕ → Bool) (r s : ℕ) → FirstOf n p r → FirstOf n p s → r ≡ s
first_unique n p r s x y = le_antisymm (no_later n p r s x y) (no_later n p s r y x)

-- the computed first index is the first offender
pub first_is : (n : ℕ) (p : ℕ → Bool) → FirstOf n p (first n p)
first_is zero p =
    record { within = le_refl 0; before = λ k h. absurd (not-suc-le-zero h); found = λ h. absurd (not-suc-le-zero h) }
first_is (suc n) p = step (first n p) (first_is n p) (p n) refl
  where
    shown : (r q : ℕ) → q ≡ pick (eqb r n) (pick (p n) n (suc n)) r → FirstOf (suc n) p q → FirstOf (suc n) p (pick (eqb r n) (pick (p n) n (suc n)) r)
    shown r q e f = subst (FirstOf (suc n) p) e f

    step : (r : ℕ) → FirstOf n p r → (b : Bool) → p n ≡ b → FirstOf (suc n) p (pick (eqb r n) (pick (p n) n (suc n)) r)
    step r x b e =
        ⊎_elim
        (λ q. at_end r x b e q)
        (λ l. shown r r (sym (ap (λ (t : Bool). pick t (pick (p n) n (suc n)) r) (ne_eqb r n (λ q. omega arith))))
        (record { within = le_step x.within; before = x.before; found = λ h. x.found l }))
        (eq-or-lt_of_le x.within)
      where
        chosen : (r : ℕ) (b : Bool) → p n ≡ b → r ≡ n → pick b n (suc n) ≡ pick (eqb r n) (pick (p n) n (suc n)) r
        chosen r b e q =
            ap (λ (t : Bool). pick t n (suc n)) (sym e) ∙ sym (ap (λ (t : Bool). pick t (pick (p n) n (suc n)) r) (eq-eqb r n q))

        at_end : (r : ℕ) → FirstOf n p r → (b : Bool) → p n ≡ b → r ≡ n → FirstOf (suc n) p (pick (eqb r n) (pick (p n) n (suc n)) r)
        at_end r x true e q =
            shown r n (chosen r true e q)
            (record { within = omega arith; before = λ k h. x.before k (omega arith); found = λ h. e })
        at_end r x false e q =
            shown r (suc n) (chosen r false e q)
            (record {
              within = le_refl (suc n);
              before = λ k h. ⊎_elim (λ z. subst (λ (m : ℕ). p m ≡ false) (sym z) e) (λ z. x.before k (omega arith)) (eq-or-lt_of_le (le_of_suc-le-suc h));
              found = λ h. absurd (lt_irrefl (suc n) h);
            })

-- whatever is a first offender is the computed one
pub first_of : (n : ℕ) (p : ℕ → Bool) (r : ℕ) → FirstOf n p r → r ≡ first n p
first_of n p r x = first_unique n p r (first n p) x (first_is n p)

-- nothing offends below n exactly if the first offender is n
pub first_none : (n : ℕ) (p : ℕ → Bool) → FirstOf n p n → (k : ℕ) → k < n → p k ≡ false
first_none n p x k h = x.before k h
