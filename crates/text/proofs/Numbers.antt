-- What the readers of numbers and lines rest on: numbers and lines do not begin one another, and where each of them breaks.
-- Assumes nothing.
use Prim.Native.Nat.{ℕ, suc, ◌+◌, ◌*◌, ◌-◌, ◌≤◌, ◌<◌}
use mathlib.Core.Path.{◌≡◌, refl, sym, ap, ◌∙◌, subst}
use mathlib.Core.List.{List, [], ◌∷◌, ◌++◌, append_assoc, append-nil}
use mathlib.Core.Logic.{◌⊎◌, inl, inr, ⊎_elim}
use native.Mathlib.Omega.{arith}
use native.Mathlib.Nat.{add-zero}
use native.Mathlib.Numerals.{add-one}
use lib.ListN.{length, get_or, take, drop, get_or-append}
use lib.Seq.{drop-cons, length-take-le, take-suc}
use lib.IntN.{ℤ, pos, negsuc}
use Rattle.std.proofs.lemmas.List.{append_cancel_left}
use Rattle.text.specs.Form.{Of, Begun, Started, Stands, Broken}
use Rattle.text.specs.Decimal.{dec, decimal, Range, Fit, number, plain, signed}
use Rattle.text.specs.Line.{line}
use Rattle.text.proofs.Decimals.{Digit, digits, dec_one, follows, Follows, value, value_dec, value_take, dec_ten}
use Rattle.text.proofs.Forms.{Free, stands_none, stands_one, stands_join}

-- ---- the first byte of a number

-- A list that is not empty is its first entry and the others.
pub first_of : (l : List ℕ) → 0 < length l → l ≡ get_or l 0 0 ∷ drop 1 l
first_of l h = drop-cons l 0 0 h

head : List ℕ → ℕ
head l = get_or l 0 0

pub record First (w c : ℕ) : Type 0 where
  pub digit : Digit c
  pub zero_alone : c ≡ 48 → w ≡ 0
  pub most : c - 48 ≤ w

pub first : (w c e : ℕ) (r s : List ℕ) → dec w ++ (e ∷ s) ≡ c ∷ r → First w c
first w c e r s eq =
    let is : get_or (dec w) 0 0 ≡ c = sym (get_or-append (dec w) (e ∷ s) 0 0 (digits w).some) ∙ ap (λ (l : List ℕ). get_or l 0 0) eq in
    let one : take 1 (dec w) ≡ c ∷ [] =
    ap (take 1) (first_of (dec w) (digits w).some) ∙ ap (λ (x : ℕ). x ∷ []) is
    in
    record {
      digit = rw is at ((digits w).each 0 (digits w).some);
      zero_alone = λ z. (digits w).first (is ∙ z);
      most = omega (arith, value_take 1 0 (dec w), ap (value 0) one, value_dec w);
    }

-- ---- numbers do not begin one another

number_apart : (e : ℕ) → e < 48 → (y z : ℤ) (r s : List ℕ) → decimal y ++ (e ∷ r) ≡ decimal z ++ (e ∷ s) → y ≡ z
number_apart e he (pos w) (pos v) r s eq = ap pos (same (follows w v e e s r he eq))
  where
    same : Follows w v e e → w ≡ v
    same (inl p) = p.0
    same (inr q) = absurd (omega (arith, q.0.low))
number_apart e he (pos w) (negsuc n) r s eq = absurd (omega (arith, (first w 45 e (dec (suc n) ++ (e ∷ s)) r eq).digit.low))
number_apart e he (negsuc n) (pos w) r s eq = absurd (omega (arith, (first w 45 e (dec (suc n) ++ (e ∷ r)) s (sym eq)).digit.low))
number_apart e he (negsuc m) (negsuc n) r s eq = ap negsuc (same (follows (suc m) (suc n) e e s r he (ap (drop 1) eq)))
  where
    same : Follows (suc m) (suc n) e e → m ≡ n
    same (inl p) = omega (arith, p.0)
    same (inr q) = absurd (omega (arith, q.0.low))

pub number_free : (r : Range) (e : ℕ) → e < 48 → Free (number r e)
number_free r e he = record {
  apart = λ y z p q hy hz eq. number_apart e he y z p q (sym (append_assoc (decimal y) (e ∷ []) p) ∙ eq ∙ append_assoc (decimal z) (e ∷ []) q);
}

pub line_free : (key : List ℕ) (r : Range) → Free (line key r)
line_free key r = record {
  apart = λ y z p q hy hz eq.
      (number_free r 10 (omega arith)).apart y z p q hy hz
      (append_cancel_left key _ _ (sym (append_assoc key (decimal y ++ (10 ∷ [])) p) ∙ eq ∙ append_assoc key (decimal z ++ (10 ∷ [])) q));
}

-- ---- where an unsigned number breaks

-- The value of a text of plain numbers.
plain_value : (least most e : ℕ) (p : List ℕ) → Of (number (plain least most) e) p → (w : ℕ) × (least ≤ w) × (w ≤ most) × (p ≡ dec w ++ (e ∷ []))
plain_value least most e p o = by o.value o.taken o.is
  where
    by : (z : ℤ) → Fit (plain least most) z → p ≡ decimal z ++ (e ∷ []) → (w : ℕ) × (least ≤ w) × (w ≤ most) × (p ≡ dec w ++ (e ∷ []))
    by (pos w) h q = (w, h.0, h.1, q)
    by (negsuc n) h q = absurd (omega arith)

-- At the first byte: it is no digit, or a digit with which no number of the range begins.
pub broken_first : (t : List ℕ) (i least most e : ℕ) → least ≤ most → least ≤ 1 → i ≤ length t
    → (i < length t → Digit (get_or t i 0) → (get_or t i 0 - 48 < least) ⊎ (most < get_or t i 0 - 48))
    → Broken (Of (number (plain least most) e)) t i i
broken_first t i least most e lm l1 h bad = record {
  read = [];
  stands = stands_none t i h;
  begins = record {
    next = get_or (dec most) 0 0;
    rest = drop 1 (dec most) ++ (e ∷ []);
    belongs = record { value = pos most; taken = (lm, omega arith); is = sym (ap (λ (l : List ℕ). l ++ (e ∷ [])) (first_of (dec most) (digits most).some)) };
  };
  ends = never;
}
  where
    never : i < length t → Begun (Of (number (plain least most) e)) (get_or t i 0 ∷ []) → ⊥
    never inside b =
        let v : (w : ℕ) × (least ≤ w) × (w ≤ most) × (get_or t i 0 ∷ b.rest ≡ dec w ++ (e ∷ [])) = plain_value least most e _ b.belongs in
        let f : First v.0 (get_or t i 0) = first v.0 (get_or t i 0) e b.rest [] (sym v.3) in
        ⊎_elim
        (λ g. let z : v.0 ≡ 0 = f.zero_alone (omega (arith, f.digit.low)) in omega (arith, v.1))
        (λ g. omega (arith, f.most, v.2))
        (bad inside f.digit)

-- After the digits of v: the byte is neither the end nor a digit more.
pub broken_later : (t : List ℕ) (i k v least most e : ℕ) → e < 48 → least ≤ v → v ≤ most → Stands t i k (dec v)
    → (k < length t → get_or t k 0 ≡ e → ⊥)
    → (k < length t → Digit (get_or t k 0) → 0 < v → most < 10 * v + (get_or t k 0 - 48))
    → Broken (Of (number (plain least most) e)) t i k
broken_later t i k v least most e he lv vm s other over = record {
  read = dec v;
  stands = s;
  begins = record { next = e; rest = []; belongs = record { value = pos v; taken = (lv, vm); is = refl } };
  ends = never;
}
  where
    never : k < length t → Begun (Of (number (plain least most) e)) (dec v ++ (get_or t k 0 ∷ [])) → ⊥
    never inside b =
        let x : (w : ℕ) × (least ≤ w) × (w ≤ most) × ((dec v ++ (get_or t k 0 ∷ [])) ++ b.rest ≡ dec w ++ (e ∷ [])) = plain_value least most e _ b.belongs in
        ⊎_elim (λ g. other inside g.1) (λ g. omega (arith, over inside g.0 g.1, g.2, x.2))
        (follows x.0 v (get_or t k 0) e b.rest [] he (sym x.3 ∙ append_assoc (dec v) (get_or t k 0 ∷ []) b.rest))

pub first_digit : (t : List ℕ) (i d : ℕ) → i < length t → d < 10 → get_or t i 0 ≡ 48 + d → Stands t i (i + 1) (dec d)
first_digit t i d h hd e =
    let s : Stands t i (suc i) (get_or t i 0 ∷ []) = stands_one t i i [] (stands_none t i (omega arith)) h in
    rw (add-one i, dec_one d hd) (subst (λ (c : ℕ). Stands t i (suc i) (c ∷ [])) e s)

pub next_digit : (t : List ℕ) (i k v d : ℕ) → k < length t → 0 < v → d < 10 → get_or t k 0 ≡ 48 + d → Stands t i k (dec v) → Stands t i (k + 1) (dec (10 * v + d))
next_digit t i k v d h hv hd e s =
    rw (add-one k, dec_ten v d hv hd) (subst (λ (c : ℕ). Stands t i (suc k) (dec v ++ (c ∷ []))) e (stands_one t i k (dec v) s h))

pub number_ends : (t : List ℕ) (i k e : ℕ) (w : List ℕ) → k < length t → get_or t k 0 ≡ e → Stands t i k w → Stands t i (k + 1) (w ++ (e ∷ []))
number_ends t i k e w h eq s = rw (add-one k) (subst (λ (c : ℕ). Stands t i (suc k) (w ++ (c ∷ []))) eq (stands_one t i k w s h))

-- ---- signed numbers

plus_of : (below most e : ℕ) (p : List ℕ) → Of (number (plain 0 most) e) p → Of (number (signed below most) e) p
plus_of below most e p o =
    let v : (w : ℕ) × (0 ≤ w) × (w ≤ most) × (p ≡ dec w ++ (e ∷ [])) = plain_value 0 most e p o in
    record { value = pos v.0; taken = (v.1, v.2); is = v.3 }

pub plus_broken : (t : List ℕ) (i k below most e : ℕ) → (i < length t → get_or t i 0 ≡ 45 → ⊥) → i ≤ length t
    → Broken (Of (number (plain 0 most) e)) t i k → Broken (Of (number (signed below most) e)) t i k
plus_broken t i k below most e other h b = record {
  read = b.read;
  stands = b.stands;
  begins = record { next = b.begins.next; rest = b.begins.rest; belongs = plus_of below most e _ b.begins.belongs };
  ends = never b.read b.stands b.begins b.ends;
}
  where
    never : (p : List ℕ) → Stands t i k p → Started (Of (number (plain 0 most) e)) p
        → (k < length t → Begun (Of (number (plain 0 most) e)) (p ++ (get_or t k 0 ∷ [])) → ⊥)
        → k < length t → Begun (Of (number (signed below most) e)) (p ++ (get_or t k 0 ∷ [])) → ⊥
    never p s st ends inside x = by x.belongs.value x.belongs.taken x.belongs.is
      where
        by : (z : ℤ) → Fit (signed below most) z → (p ++ (get_or t k 0 ∷ [])) ++ x.rest ≡ decimal z ++ (e ∷ []) → ⊥
        by (pos w) hz q = ends inside (record { rest = x.rest; belongs = record { value = pos w; taken = hz; is = q } })
        by (negsuc n) hz q = minus p s st q
          where
            minus : (p : List ℕ) → Stands t i k p → Started (Of (number (plain 0 most) e)) p → (p ++ (get_or t k 0 ∷ [])) ++ x.rest ≡ 45 ∷
                (dec (suc n) ++ (e ∷ [])) → ⊥
            minus [] s st q =
                let place : k ≡ i = at s in
                other (omega arith) (ap (λ (j : ℕ). get_or t j 0) (sym place) ∙ ap (λ (l : List ℕ). get_or l 0 0) q)
              where
                at : Stands t i k [] → k ≡ i
                at s = sym (length-take-le k t s.within) ∙ ap length (s.is ∙ append-nil (take i t)) ∙ length-take-le i t h
            minus (c ∷ cs) s st q =
                let v : (w : ℕ) × (0 ≤ w) × (w ≤ most) × ((c ∷ cs) ++ (st.next ∷ st.rest) ≡ dec w ++ (e ∷ [])) = plain_value 0 most e _ st.belongs in
                let is : c ≡ 45 = ap (λ (l : List ℕ). get_or l 0 0) q in
                omega (arith, (first v.0 c e (cs ++ (st.next ∷ st.rest)) [] (sym v.3)).digit.low)

-- The minus before a number of at least 1.
minus_stands : (t : List ℕ) (i : ℕ) → i < length t → get_or t i 0 ≡ 45 → Stands t i (i + 1) (45 ∷ [])
minus_stands t i h e =
    let s : Stands t i (suc i) ([] ++ (get_or t i 0 ∷ [])) = stands_one t i i [] (stands_none t i (omega arith)) h in
    rw (add-one i) (subst (λ (c : ℕ). Stands t i (suc i) (c ∷ [])) e s)

minus_of : (below most e : ℕ) (p : List ℕ) → Of (number (plain 1 below) e) p → Of (number (signed below most) e) (45 ∷ p)
minus_of below most e p o =
    let v : (w : ℕ) × (1 ≤ w) × (w ≤ below) × (p ≡ dec w ++ (e ∷ [])) = plain_value 1 below e p o in
    let back : suc (v.0 - 1) ≡ v.0 = omega (arith, v.1) in
    record {
      value = negsuc (v.0 - 1);
      taken = omega (arith, v.1, v.2);
      is = ap (λ (l : List ℕ). 45 ∷ l) v.3 ∙ ap (λ (n : ℕ). 45 ∷ (dec n ++ (e ∷ []))) (sym back);
    }

pub minus_broken : (t : List ℕ) (i k below most e : ℕ) → i < length t → get_or t i 0 ≡ 45
    → Broken (Of (number (plain 1 below) e)) t (i + 1) k → Broken (Of (number (signed below most) e)) t i k
minus_broken t i k below most e h c b = record {
  read = 45 ∷ b.read;
  stands = stands_join t i (i + 1) k (45 ∷ []) b.read (minus_stands t i h c) b.stands;
  begins = record { next = b.begins.next; rest = b.begins.rest; belongs = minus_of below most e _ b.begins.belongs };
  ends = never;
}
  where
    never : k < length t → Begun (Of (number (signed below most) e)) (45 ∷ (b.read ++ (get_or t k 0 ∷ []))) → ⊥
    never inside x = by x.belongs.value x.belongs.taken x.belongs.is
      where
        by : (z : ℤ) → Fit (signed below most) z → 45 ∷ ((b.read ++ (get_or t k 0 ∷ [])) ++ x.rest) ≡ decimal z ++ (e ∷ []) → ⊥
        by (pos w) hz q = omega (arith, (first w 45 e _ [] (sym q)).digit.low)
        by (negsuc n) hz q =
            b.ends inside
            (record { rest = x.rest; belongs = record { value = pos (suc n); taken = (omega arith, hz); is = ap (drop 1) q } })

-- ---- lines

pub key_start : (t key : List ℕ) (i : ℕ) → i ≤ length t → Stands t i (i + 0) (take 0 key)
key_start t key i h = rw (add-zero i) (stands_none t i h)

pub key_step : (t key : List ℕ) (i n : ℕ) → n < length key → i + n < length t → get_or t (i + n) 0 ≡ get_or key n 0
    → Stands t i (i + n) (take n key) → Stands t i (i + (n + 1)) (take (n + 1) key)
key_step t key i n hk ht e s =
    let place : suc (i + n) ≡ i + (n + 1) = omega arith in
    let text : take n key ++ (get_or t (i + n) 0 ∷ []) ≡ take (n + 1) key =
    ap (λ (c : ℕ). take n key ++ (c ∷ [])) e ∙ sym (take-suc key n 0 hk) ∙ ap (λ (k : ℕ). take k key) (sym (add-one n))
    in
    rw (← place, ← text) (stands_one t i (i + n) (take n key) s ht)
