-- The laws of forms and of refusals: in a form whose texts do not begin one another, what is read and where a text breaks
-- is settled. Assumes nothing.
use Prim.Native.Nat.{ℕ, suc, ◌+◌, ◌≤◌, ◌<◌}
use mathlib.Core.Path.{◌≡◌, refl, sym, ap, ◌∙◌, subst}
use mathlib.Core.List.{List, [], ◌∷◌, ◌++◌, append_assoc, append-nil}
use mathlib.Core.Logic.{⊎_elim}
use native.Mathlib.Omega.{arith}
use lib.ListN.{length, get_or, take, drop, length-append, take-append-drop}
use Rattle.std.proofs.lemmas.List.{append_cancel_left}
use Rattle.std.proofs.lemmas.Bool.{cases_lt, cases_order}
use lib.Seq.{take-suc, take-append_seam, take-append-le, drop-append_seam, drop-append-le, length-take-le, take-take, get_or-take, get_or-append-add}
use Rattle.text.specs.Form.{Form, Of, Begun, Started, Stands, ReadAs, Broken, RefusedAt}

-- ---- lists

-- Of two texts that agree, the longer begins with the shorter.
pub splits : (a b p q : List ℕ) → a ++ b ≡ p ++ q → length p ≤ length a → (m : List ℕ) × (a ≡ p ++ m) × (m ++ b ≡ q)
splits a b p q e h =
    let front : take (length p) a ≡ p =
    sym (take-append-le (length p) a b h) ∙ ap (take (length p)) e ∙ take-append_seam p q
    in (
      drop (length p) a,
      sym (take-append-drop (length p) a) ∙ ap (λ (l : List ℕ). l ++ drop (length p) a) front,
      sym (drop-append-le (length p) a b h) ∙ ap (drop (length p)) e ∙ drop-append_seam p q,
    )

pub take_grows : (t : List ℕ) (j k : ℕ) → j ≤ k → (m : List ℕ) × (take k t ≡ take j t ++ m)
take_grows t j k h =
    (drop j (take k t), sym (take-append-drop j (take k t)) ∙ ap (λ (l : List ℕ). l ++ drop j (take k t)) (take-take j k t h))

pub rest_of : (t : List ℕ) (k : ℕ) → t ≡ take k t ++ drop k t
rest_of t k = sym (take-append-drop k t)

nonempty : (m : List ℕ) (c : ℕ) (r : List ℕ) → m ++ (c ∷ r) ≡ [] → ⊥
nonempty m c r e = omega (arith, ap length e, length-append m (c ∷ r))

-- ---- what stands in a text

pub stands_more : (t : List ℕ) (i k : ℕ) (w : List ℕ) → Stands t i k w → k < length t → take (suc k) t ≡ take i t ++ (w ++ (get_or t k 0 ∷ []))
stands_more t i k w s h =
    take-suc t k 0 h ∙ ap (λ (l : List ℕ). l ++ (get_or t k 0 ∷ [])) s.is ∙ append_assoc (take i t) w (get_or t k 0 ∷ [])

-- Nothing stands between a place and itself.
pub stands_none : (t : List ℕ) (i : ℕ) → i ≤ length t → Stands t i i []
stands_none t i h = record { within = h; is = sym (append-nil (take i t)) }

pub stands_one : (t : List ℕ) (i k : ℕ) (w : List ℕ) → Stands t i k w → k < length t → Stands t i (suc k) (w ++ (get_or t k 0 ∷ []))
stands_one t i k w s h = record { within = h; is = stands_more t i k w s h }

pub stands_join : (t : List ℕ) (i j k : ℕ) (v w : List ℕ) → Stands t i j v → Stands t j k w → Stands t i k (v ++ w)
stands_join t i j k v w s r =
    record { within = r.within; is = r.is ∙ ap (λ (l : List ℕ). l ++ w) s.is ∙ append_assoc (take i t) v w }

-- Of two parts from one place, the one that stops later begins with the other.
pub stands_grows : (t : List ℕ) (i j k : ℕ) (v w : List ℕ) → Stands t i j v → Stands t i k w → j ≤ k → (m : List ℕ) × (w ≡ v ++ m)
stands_grows t i j k v w s r h =
    let g : (m : List ℕ) × (take k t ≡ take j t ++ m) = take_grows t j k h in (
      g.0,
      append_cancel_left (take i t) w (v ++ g.0)
          (sym r.is ∙ g.1 ∙ ap (λ (l : List ℕ). l ++ g.0) s.is ∙ append_assoc (take i t) v g.0),
    )

pub stands_length : (t : List ℕ) (i k : ℕ) (w : List ℕ) → Stands t i k w → i ≤ length t → k ≡ i + length w
stands_length t i k w s h =
    sym (length-take-le k t s.within) ∙ ap length s.is ∙ length-append (take i t) w ∙ ap (λ (n : ℕ). n + length w) (length-take-le i t h)

-- byte j of a part
pub stands_at : (t : List ℕ) (i k j : ℕ) (w : List ℕ) → Stands t i k w → i ≤ length t → j < length w → get_or t (i + j) 0 ≡ get_or w j 0
stands_at t i k j w s h less =
    let long : k ≡ i + length w = stands_length t i k w s h in
    sym (get_or-take k t (i + j) 0 (omega arith)) ∙ ap (λ (l : List ℕ). get_or l (i + j) 0) s.is
    ∙ ap (λ (n : ℕ). get_or (take i t ++ w) (n + j) 0) (sym (length-take-le i t h)) ∙ get_or-append-add (take i t) w j 0

-- ---- forms whose texts do not begin one another

pub record Free {A : Type 0} (f : Form A) : Type 0 where
  pub apart : (a b : A) (r s : List ℕ) → f.takes a → f.takes b → f.text a ++ r ≡ f.text b ++ s → a ≡ b

module _ {A : Type 0} (f : Form A) (free : Free f) where
  -- A text of the form is not begun further.
  pub started_past : (p q m : List ℕ) → Started (Of f) p → Of f q → p ≡ q ++ m → ⊥
  started_past p q m s o e =
      let w : Of f (p ++ (s.next ∷ s.rest)) = s.belongs in
      let long : q ++ (m ++ (s.next ∷ s.rest)) ≡ f.text w.value =
      sym (append_assoc q m (s.next ∷ s.rest)) ∙ ap (λ (l : List ℕ). l ++ (s.next ∷ s.rest)) (sym e) ∙ w.is
      in
      let same : o.value ≡ w.value =
      free.apart o.value w.value (m ++ (s.next ∷ s.rest)) [] o.taken w.taken
      (ap (λ (l : List ℕ). l ++ (m ++ (s.next ∷ s.rest))) (sym o.is) ∙ long ∙ sym (append-nil (f.text w.value)))
      in
      nonempty m s.next s.rest
      (append_cancel_left q (m ++ (s.next ∷ s.rest)) [] (long ∙ ap f.text (sym same) ∙ sym o.is ∙ sym (append-nil q)))

  pub broken_not_read : (t : List ℕ) (i k stop : ℕ) (a : A) → Broken (Of f) t i k → ReadAs f t i stop a → ⊥
  broken_not_read t i k stop a b r = ⊎_elim past before (cases_lt k stop)
    where
      o : Of f (f.text a)
      o = record { value = a; taken = r.taken; is = refl }

      before : stop ≤ k → ⊥
      before h =
          let g : (m : List ℕ) × (b.read ≡ f.text a ++ m) = stands_grows t i stop k (f.text a) b.read r.stands b.stands h in
          started_past b.read (f.text a) g.0 b.begins o g.1

      past : k < stop → ⊥
      past h =
          let inside : k < length t = omega (arith, r.stands.within) in
          let g : (m : List ℕ) × (f.text a ≡ (b.read ++ (get_or t k 0 ∷ [])) ++ m) =
          stands_grows t i (suc k) stop (b.read ++ (get_or t k 0 ∷ [])) (f.text a) (stands_one t i k b.read b.stands inside) r.stands h
          in
          b.ends inside (record { rest = g.0; belongs = subst (Of f) g.1 o })

  pub read_once : (t : List ℕ) (i p q : ℕ) (a b : A) → i ≤ length t → ReadAs f t i p a → ReadAs f t i q b → (a ≡ b) × (p ≡ q)
  read_once t i p q a b h r s =
      let e : f.text a ++ drop p t ≡ f.text b ++ drop q t =
      append_cancel_left (take i t) (f.text a ++ drop p t) (f.text b ++ drop q t)
      (sym (append_assoc (take i t) (f.text a) (drop p t)) ∙ ap (λ (l : List ℕ). l ++ drop p t) (sym r.stands.is)
      ∙ take-append-drop p t ∙ rest_of t q ∙ ap (λ (l : List ℕ). l ++ drop q t) s.stands.is
      ∙ append_assoc (take i t) (f.text b) (drop q t))
      in
      let same : a ≡ b = free.apart a b (drop p t) (drop q t) r.taken s.taken e in (
        same,
        stands_length t i p (f.text a) r.stands h ∙ ap (λ (c : A). i + length (f.text c)) same
            ∙ sym (stands_length t i q (f.text b) s.stands h),
      )

-- A text breaks at one place only.
broken_before : (L : List ℕ → Type 0) (t : List ℕ) (i j k : ℕ) → Broken L t i j → Broken L t i k → j < k → ⊥
broken_before L t i j k b d h =
    let inside : j < length t = omega (arith, d.stands.within) in
    let g : (m : List ℕ) × (d.read ≡ (b.read ++ (get_or t j 0 ∷ [])) ++ m) =
    stands_grows t i (suc j) k (b.read ++ (get_or t j 0 ∷ [])) d.read (stands_one t i j b.read b.stands inside) d.stands h
    in
    let w : L ((b.read ++ (get_or t j 0 ∷ [])) ++ (g.0 ++ (d.begins.next ∷ d.begins.rest))) =
    subst L
    (ap (λ (l : List ℕ). l ++ (d.begins.next ∷ d.begins.rest)) g.1
    ∙ append_assoc (b.read ++ (get_or t j 0 ∷ [])) g.0 (d.begins.next ∷ d.begins.rest))
    d.begins.belongs
    in
    b.ends inside (record { rest = g.0 ++ (d.begins.next ∷ d.begins.rest); belongs = w })

pub broken_once : (L : List ℕ → Type 0) (t : List ℕ) (i j k : ℕ) → Broken L t i j → Broken L t i k → j ≡ k
broken_once L t i j k b d =
    ⊎_elim (λ e. e)
    (⊎_elim (λ h. absurd (broken_before L t i j k b d h)) (λ h. absurd (broken_before L t i k j d b h)))
    (cases_order j k)

-- ---- whole texts

pub begun_less : (L : List ℕ → Type 0) (p m : List ℕ) → Begun L (p ++ m) → Begun L p
begun_less L p m b = record { rest = m ++ b.rest; belongs = subst L (append_assoc p m b.rest) b.belongs }

refused_before : (L : List ℕ → Type 0) (t : List ℕ) (j k : ℕ) → RefusedAt L t j → RefusedAt L t k → j < k → ⊥
refused_before L t j k a b h =
    let g : (m : List ℕ) × (take k t ≡ take (suc j) t ++ m) = take_grows t (suc j) k h in
    a.ends (omega (arith, b.within)) (begun_less L (take (suc j) t) g.0 (subst (Begun L) g.1 b.begins))

-- The offset of a refusal is unique.
pub refused_once : (L : List ℕ → Type 0) (t : List ℕ) (j k : ℕ) → RefusedAt L t j → RefusedAt L t k → j ≡ k
refused_once L t j k a b =
    ⊎_elim (λ e. e)
    (⊎_elim (λ h. absurd (refused_before L t j k a b h)) (λ h. absurd (refused_before L t k j b a h)))
    (cases_order j k)

-- Two languages with the same texts refuse alike.
pub refused_alike : (L M : List ℕ → Type 0) → ((p : List ℕ) → L p → M p) → ((p : List ℕ) → M p → L p)
    → (t : List ℕ) (k : ℕ) → RefusedAt L t k → RefusedAt M t k
refused_alike L M there back t k r = record {
  within = r.within;
  begins = record { rest = r.begins.rest; belongs = there _ r.begins.belongs };
  ends = λ inside b. r.ends inside (record { rest = b.rest; belongs = back _ b.belongs });
  none = λ x. r.none (back t x);
}
