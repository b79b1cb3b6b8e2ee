-- The laws of decimals: a number is told by its digits, and what may follow a number's digits in a longer number.
-- Assumes nothing.
use Prim.Native.Nat.{ℕ, zero, suc, ◌+◌, ◌*◌, ◌-◌, ◌/◌, ◌%◌, ◌≤◌, ◌<◌}
use mathlib.Core.Path.{◌≡◌, refl, sym, ap, ◌∙◌}
use mathlib.Core.Bool.{Bool, true, false}
use mathlib.Core.List.{List, [], ◌∷◌, ◌++◌}
use mathlib.Core.Logic.{◌⊎◌, inl, inr, ⊎_elim}
use native.Mathlib.Omega.{arith}
use lib.Dec.{ltb}
use lib.ListN.{length, get_or, take, length-append, get_or-append}
use lib.Seq.{get_or_at, get_or-append_seam, take-suc, take-append_seam, take-append-le}
use borrow.Author.Tests.{lt-ltb, le-ltb, ltb-false}
use Rattle.std.proofs.lemmas.Bool.{cases_lt, cases_order}
use Rattle.text.specs.Decimal.{dec, digits_by}

-- Fuel that is enough is enough.
same : (f g : ℕ) (b : Bool) (v : ℕ) → ltb v 10 ≡ b → v < f → v < g → digits_by f b v ≡ digits_by g b v
same zero g b v e hf hg = absurd (omega arith)
same (suc f) zero b v e hf hg = absurd (omega arith)
same (suc f) (suc g) true v e hf hg = refl
same (suc f) (suc g) false v e hf hg =
    let big : 10 ≤ v = ltb-false v 10 e in
    ap (λ (l : List ℕ). l ++ ((48 + v % 10) ∷ [])) (same f g (ltb (v / 10) 10) (v / 10) refl (omega arith) (omega arith))

pub dec_one : (v : ℕ) → v < 10 → dec v ≡ (48 + v) ∷ []
unfolding dec
dec_one v h = ap (λ (b : Bool). digits_by (suc v) b v) (lt-ltb v 10 h)

pub dec_more : (v : ℕ) → 10 ≤ v → dec v ≡ dec (v / 10) ++ ((48 + v % 10) ∷ [])
unfolding dec
dec_more v h =
    ap (λ (b : Bool). digits_by (suc v) b v) (le-ltb v 10 h)
    ∙ ap (λ (l : List ℕ). l ++ ((48 + v % 10) ∷ [])) (same v (suc (v / 10)) (ltb (v / 10) 10) (v / 10) refl (omega arith) (omega arith))

-- One digit more.
pub dec_ten : (v d : ℕ) → 0 < v → d < 10 → dec (10 * v + d) ≡ dec v ++ ((48 + d) ∷ [])
dec_ten v d hv hd =
    let q : (10 * v + d) / 10 ≡ v = omega arith in
    let r : (10 * v + d) % 10 ≡ d = omega arith in
    dec_more (10 * v + d) (omega arith) ∙ ap (λ (n : ℕ). dec n ++ ((48 + (10 * v + d) % 10) ∷ [])) q
    ∙ ap (λ (n : ℕ). dec v ++ ((48 + n) ∷ [])) r

ind_by : (P : ℕ → Type 0) → ((v : ℕ) → v < 10 → P v) → ((v : ℕ) → 10 ≤ v → P (v / 10) → P v) → (f v : ℕ) → v < f → P v
ind_by P one more zero v h = absurd (omega arith)
ind_by P one more (suc f) v h =
    ⊎_elim (λ s. one v s) (λ b. more v b (ind_by P one more f (v / 10) (omega arith))) (cases_lt v 10)

-- Induction over the digits.
pub dec_ind : (P : ℕ → Type 0) → ((v : ℕ) → v < 10 → P v) → ((v : ℕ) → 10 ≤ v → P (v / 10) → P v) → (v : ℕ) → P v
dec_ind P one more v = ind_by P one more (suc v) v (omega arith)

-- The value of digits read from the left, after the value a.
abbrev pub value : ℕ → List ℕ → ℕ
value a [] = a
value a (c ∷ cs) = value (10 * a + (c - 48)) cs

value_append : (a : ℕ) (xs ys : List ℕ) → value a (xs ++ ys) ≡ value (value a xs) ys
value_append a [] ys = refl
value_append a (x ∷ xs) ys = value_append (10 * a + (x - 48)) xs ys

value_grows : (a : ℕ) (xs : List ℕ) → a ≤ value a xs
value_grows a [] = omega arith
value_grows a (x ∷ xs) = omega (arith, value_grows (10 * a + (x - 48)) xs)

pub value_take : (n a : ℕ) (xs : List ℕ) → value a (take n xs) ≤ value a xs
value_take zero a xs = value_grows a xs
value_take (suc n) a [] = omega arith
value_take (suc n) a (x ∷ xs) = value_take n (10 * a + (x - 48)) xs

pub value_dec : (v : ℕ) → value 0 (dec v) ≡ v
value_dec =
    dec_ind (λ (v : ℕ). value 0 (dec v) ≡ v) (λ v h. ap (value 0) (dec_one v h) ∙ omega arith)
    (λ v h p. ap (value 0) (dec_more v h) ∙ value_append 0 (dec (v / 10)) _ ∙ ap (λ (n : ℕ). 10 * n + (48 + v % 10 - 48)) p ∙ omega arith)

pub dec_inj : (v w : ℕ) → dec v ≡ dec w → v ≡ w
dec_inj v w e = sym (value_dec v) ∙ ap (value 0) e ∙ value_dec w

pub record Digit (c : ℕ) : Type 0 where
  pub low : 48 ≤ c
  pub high : c ≤ 57

-- The digits of v: there is one, each is a digit, and a first digit 0 is that of 0 alone.
pub record Digits (v : ℕ) : Type 0 where
  pub some : 0 < length (dec v)
  pub each : (i : ℕ) → i < length (dec v) → Digit (get_or (dec v) i 0)
  pub first : get_or (dec v) 0 0 ≡ 48 → v ≡ 0

digits_one : (v : ℕ) → v < 10 → Digits v
digits_one v h = record {
  some = rw (dec_one v h) (omega arith);
  each = λ i hi. at i (rw (dec_one v h) at hi);
  first = λ e. omega (arith, rw (dec_one v h) at e);
}
  where
    at : (i : ℕ) → i < 1 → Digit (get_or (dec v) i 0)
    at zero hi = rw (dec_one v h) (record { low = omega arith; high = omega arith })
    at (suc i) hi = absurd (omega arith)

digits_more : (v : ℕ) → 10 ≤ v → Digits (v / 10) → Digits v
digits_more v h p = record {
  some = rw (dec_more v h, length-append) (omega (arith, p.some));
  each = λ i hi. rw (dec_more v h) (at i (rw (dec_more v h, length-append) at hi));
  first = λ e. zero_not (p.first (sym (get_or-append (dec (v / 10)) _ 0 0 p.some) ∙ (rw (dec_more v h) at e)));
}
  where
    zero_not : v / 10 ≡ 0 → v ≡ 0
    zero_not e = absurd (omega arith)

    at : (i : ℕ) → i < length (dec (v / 10)) + 1 → Digit (get_or (dec (v / 10) ++ ((48 + v % 10) ∷ [])) i 0)
    at i hi =
        ⊎_elim (λ s. rw (get_or-append (dec (v / 10)) ((48 + v % 10) ∷ []) 0 i s) (p.each i s))
        (λ s. rw (get_or_at (dec (v / 10)) (48 + v % 10) [] 0 i (omega arith)) (record { low = omega arith; high = omega arith }))
        (cases_lt i (length (dec (v / 10))))

pub digits : (v : ℕ) → Digits v
digits = dec_ind Digits digits_one digits_more

-- A number's digits are followed in a text by a byte that is no digit: so what stands behind the digits of v in such a text of w
-- is that byte and w is v, or it is a digit more of a larger w.
abbrev pub Follows : (w v c e : ℕ) → Type 0
Follows w v c e = ((w ≡ v) × (c ≡ e)) ⊎ (Digit c × (0 < v) × (10 * v + (c - 48) ≤ w))

module _ (w v c e : ℕ) (r s : List ℕ) (he : e < 48) (eq : dec w ++ (e ∷ s) ≡ dec v ++ (c ∷ r)) where
  in_left : (i : ℕ) → i < length (dec w) → get_or (dec w) i 0 ≡ get_or (dec v ++ (c ∷ r)) i 0
  in_left i h = sym (get_or-append (dec w) (e ∷ s) 0 i h) ∙ ap (λ (l : List ℕ). get_or l i 0) eq

  shorter : length (dec w) < length (dec v) → ⊥
  shorter h =
      let d : Digit (get_or (dec v) (length (dec w)) 0) = (digits v).each _ h in
      let k : get_or (dec v) (length (dec w)) 0 ≡ e =
      sym (get_or-append (dec v) (c ∷ r) 0 _ h) ∙ ap (λ (l : List ℕ). get_or l (length (dec w)) 0) (sym eq) ∙ get_or-append_seam (dec w) e s 0
      in omega arith

  equal : length (dec v) ≡ length (dec w) → (w ≡ v) × (c ≡ e)
  equal h = (
    dec_inj w v
        (sym (take-append_seam (dec w) (e ∷ s)) ∙ ap (λ (n : ℕ). take n (dec w ++ (e ∷ s))) (sym h)
        ∙ ap (take (length (dec v))) eq ∙ take-append_seam (dec v) (c ∷ r)),
    sym (get_or-append_seam (dec v) c r 0) ∙ ap (λ (l : List ℕ). get_or l (length (dec v)) 0) (sym eq) ∙ get_or_at (dec w) e s 0 _ (sym h),
  )

  longer : length (dec v) < length (dec w) → Digit c × (0 < v) × (10 * v + (c - 48) ≤ w)
  longer h =
      let there : get_or (dec w) (length (dec v)) 0 ≡ c = in_left _ h ∙ get_or-append_seam (dec v) c r 0 in
      let head : take (length (dec v)) (dec w) ≡ dec v =
      sym (take-append-le (length (dec v)) (dec w) (e ∷ s) (omega arith)) ∙ ap (take (length (dec v))) eq ∙ take-append_seam (dec v) (c ∷ r)
      in
      let more : take (suc (length (dec v))) (dec w) ≡ dec v ++ (c ∷ []) =
      take-suc (dec w) (length (dec v)) 0 h ∙ ap (λ (l : List ℕ). l ++ (get_or (dec w) (length (dec v)) 0 ∷ [])) head
      ∙ ap (λ (x : ℕ). dec v ++ (x ∷ [])) there
      in
      let total : 10 * v + (c - 48) ≤ w =
      omega (
        arith,
        value_take (suc (length (dec v))) 0 (dec w),
        ap (value 0) more,
        value_append 0 (dec v) (c ∷ []),
        value_dec v,
        value_dec w,
        ap (λ (n : ℕ). 10 * n + (c - 48)) (value_dec v),
      )
      in
      (rw there at ((digits w).each _ h), positive h, total)
    where
      positive : length (dec v) < length (dec w) → 0 < v
      positive h = ⊎_elim (λ p. p) (λ z. absurd (not_zero (omega arith))) (cases_lt 0 v)
        where
          not_zero : v ≡ 0 → ⊥
          not_zero z =
              let one : dec v ≡ 48 ∷ [] = ap dec z ∙ dec_one 0 (omega arith) in
              let w0 : w ≡ 0 =
              (digits w).first (in_left 0 (digits w).some ∙ ap (λ (l : List ℕ). get_or (l ++ (c ∷ r)) 0 0) one)
              in
              let both : length (dec w) ≡ length (dec v) = ap length (ap dec (w0 ∙ sym z)) in
              omega arith

  pub follows : Follows w v c e
  follows = ⊎_elim (λ h. inl (equal h)) (⊎_elim (λ h. inr (longer h)) (λ h. absurd (shorter h))) (cases_order (length (dec v)) (length (dec w)))

abbrev pub tens : ℕ → ℕ
tens zero = 1
tens (suc k) = 10 * tens k

-- A number below 10 ^ (k + 1) has at most k + 1 digits.
pub dec_length : (k v : ℕ) → v < tens (suc k) → length (dec v) ≤ suc k
dec_length zero v h = rw (dec_one v h) (omega arith)
dec_length (suc k) v h =
    ⊎_elim (λ s. rw (dec_one v s) (omega arith))
    (λ b. rw (dec_more v b, length-append) (omega (arith, dec_length k (v / 10) (omega arith))))
    (cases_lt v 10)

-- No 64-bit number has more than 20 digits.
pub dec_20 : (v : ℕ) → v < 18446744073709551616 → length (dec v) ≤ 20
dec_20 v h = dec_length 19 v (omega arith)
