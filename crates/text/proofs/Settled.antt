-- The answers of the readers are settled by their contracts, and reading is the inverse of printing. Assumes nothing.
use Prim.Native.Nat.{ℕ, ◌+◌, ◌≤◌, ◌<◌}
use mathlib.Core.Path.{◌≡◌, refl, sym, ap, ◌∙◌}
use mathlib.Core.Bool.{Bool, true, false}
use mathlib.Core.List.{List, [], ◌∷◌, ◌++◌}
use native.Mathlib.Omega.{arith}
use mathlib.Core.Logic.{⊎_elim}
use lib.ListN.{length, get_or, take, length-append}
use lib.Seq.{take-append-add, take-append_seam, length-take-le, get_or-take}
use lib.IntN.{ℤ, pos}
use Rattle.std.proofs.Common.{Result, Ok, Err}
use Rattle.std.proofs.lemmas.Bool.{cases_order}
use Rattle.text.specs.declared.Wrong.{Wrong}
use Rattle.text.specs.Form.{Form, Stands}
use Rattle.text.specs.Decimal.{decimal, Range, Fit, number}
use Rattle.text.specs.Answer.{ReadIn, NaturalIn, SignedIn, Matched, Put}
use Rattle.text.specs.Inner.{SameKey}
use Rattle.text.proofs.Forms.{Free, stands_at, read_once, broken_not_read, broken_once}
use Rattle.text.proofs.Numbers.{number_free}

-- A text in the middle of another stands there.
pub stands_in : (before w after : List ℕ) → Stands (before ++ (w ++ after)) (length before) (length before + length w) w
stands_in before w after = record {
  within = omega (arith, length-append before (w ++ after), length-append w after);
  is = take-append-add before (w ++ after) (length w) ∙ ap (λ (l : List ℕ). before ++ l) (take-append_seam w after)
      ∙ ap (λ (l : List ℕ). l ++ w) (sym (take-append_seam before (w ++ after)));
}

module _ (f : Form ℤ) (free : Free f) (t : List ℕ) (i : ℕ) (h : i ≤ length t) where
  -- Where different values are different numbers.
  pub answer_settled : {A : Type 0} (of : A → ℤ) → ((v w : A) → of v ≡ of w → v ≡ w) → (a b : Result (A × ℕ) Wrong) → ReadIn of f t i a → ReadIn of f t i b → a ≡ b
  answer_settled of apart (Ok (v, p)) (Ok (w, q)) r s =
      let e : (of v ≡ of w) × (p ≡ q) = read_once f free t i p q (of v) (of w) h r s in
      let same : v ≡ w = apart v w e.0 in
      cc (same, e.1)
  answer_settled of apart (Ok (v, p)) (Err w) r s = absurd (broken_not_read f free t i w.place p (of v) s r)
  answer_settled of apart (Err w) (Ok (v, p)) r s = absurd (broken_not_read f free t i w.place p (of v) r s)
  answer_settled of apart (Err v) (Err w) r s = ap (λ (k : ℕ). Err (record { place = k })) (broken_once _ t i v.place w.place r s)

  pub natural_settled : (a b : Result (ℕ × ℕ) Wrong) → NaturalIn f t i a → NaturalIn f t i b → a ≡ b
  natural_settled = answer_settled pos (λ v w e. cc e)

  pub signed_settled : (a b : Result (ℤ × ℕ) Wrong) → SignedIn f t i a → SignedIn f t i b → a ≡ b
  signed_settled = answer_settled (λ z. z) (λ y z e. e)

-- What is printed is read back as the number, wherever it stands.
module _ (r : Range) (e : ℕ) (he : e < 48) (before after : List ℕ) where
  text_of : ℤ → List ℕ
  text_of z = before ++ ((decimal z ++ (e ∷ [])) ++ after)

  inside : (z : ℤ) → length before ≤ length (text_of z)
  unfolding text_of
  inside z = omega (arith, length-append before ((decimal z ++ (e ∷ [])) ++ after))

  pub natural_back : (v : ℕ) → Fit r (pos v) → (a : Result (ℕ × ℕ) Wrong) → NaturalIn (number r e) (before ++ ((decimal (pos v) ++ (e ∷ [])) ++ after)) (length before) a
      → a ≡ Ok (v, length before + length (decimal (pos v) ++ (e ∷ [])))
  unfolding text_of
  natural_back v fit a p =
      natural_settled (number r e) (number_free r e he) _ (length before) (inside (pos v)) a _ p
      (record { taken = fit; stands = stands_in before (decimal (pos v) ++ (e ∷ [])) after })

  pub signed_text_back : (z : ℤ) → Fit r z → (a : Result (ℤ × ℕ) Wrong) → SignedIn (number r e) (before ++ ((decimal z ++ (e ∷ [])) ++ after)) (length before) a
      → a ≡ Ok (z, length before + length (decimal z ++ (e ∷ [])))
  unfolding text_of
  signed_text_back z fit a p =
      signed_settled (number r e) (number_free r e he) _ (length before) (inside z) a _ p
      (record { taken = fit; stands = stands_in before (decimal z ++ (e ∷ [])) after })

-- ---- the smaller answers are settled too

matched_more : (t : List ℕ) (i m n : ℕ) (key : List ℕ) → i ≤ length t → Matched t i key m → Matched t i key n → m < n → ⊥
matched_more t i m n key h a b less =
    let there : get_or t (i + m) 0 ≡ get_or key m 0 =
    stands_at t i (i + n) m (take n key) b.stands h (omega (arith, length-take-le n key b.most)) ∙ get_or-take n key m 0 less
    in
    a.ends (omega (arith, b.most)) (omega (arith, b.stands.within)) there

pub matched_settled : (t : List ℕ) (i m n : ℕ) (key : List ℕ) → i ≤ length t → Matched t i key m → Matched t i key n → m ≡ n
matched_settled t i m n key h a b =
    ⊎_elim (λ e. e) (⊎_elim (λ l. absurd (matched_more t i m n key h a b l)) (λ l. absurd (matched_more t i n m key h b a l))) (cases_order m n)

pub same_settled : (t : List ℕ) (i : ℕ) (key : List ℕ) (r s : Bool) → SameKey t i key r → SameKey t i key s → r ≡ s
same_settled t i key true true a b = refl
same_settled t i key true false a b = absurd (b.other refl (a.same refl))
same_settled t i key false true a b = absurd (a.other refl (b.same refl))
same_settled t i key false false a b = refl

pub put_settled : (old w new other : List ℕ) (i p q : ℕ) → Put old i w new p → Put old i w other q → (new ≡ other) × (p ≡ q)
put_settled old w new other i p q a b = (a.is ∙ sym b.is, a.stops ∙ sym b.stops)
