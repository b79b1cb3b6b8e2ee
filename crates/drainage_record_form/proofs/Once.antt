-- Along one plan, from one place of a text, there is one way to go: where a part ends or breaks off and what it leaves is settled.
-- Assumes nothing.
use Prim.Native.Nat.{ℕ, ◌+◌, ◌≤◌, ◌<◌}
use mathlib.Core.Path.{◌≡◌, refl, sym, ap, ◌∙◌, subst}
use mathlib.Core.List.{List, [], ◌∷◌, ◌++◌, append_assoc, append-nil}
use mathlib.Core.Logic.{⊎_elim}
use native.Mathlib.Omega.{arith}
use lib.IntN.{ℤ}
use lib.ListN.{length, take, drop, take-append-drop}
use lib.Seq.{length-take-le}
use Rattle.std.proofs.lemmas.Bool.{cases_lt}
use Rattle.std.proofs.lemmas.List.{append_cancel_left}
use Rattle.text.specs.Form.{Of, Stands, Broken}
use Rattle.text.proofs.Forms.{broken_not_read, broken_once}
use Rattle.text.proofs.Settled.{stands_in}
use Rattle.columns.specs.Series.{series_of, checks_of, fuel_of}
use Rattle.drainage_record_form.specs.Field.{Field, line_form, line_text}
use Rattle.drainage_record_form.specs.Plan.{Line, Plan, done, ask, After, text_of}
use Rattle.drainage_record_form.specs.Rows.{Rows, stored}
use Rattle.drainage_record_form.specs.Walk.{Went, Stopped}
use Rattle.drainage_record_form.proofs.Fields.{line_free}
use Rattle.drainage_record_form.proofs.Walking.{text_append}
use Rattle.drainage_record_form.proofs.Following.{after_split, agree, done_not_ask}

-- rows for laws that ask for some
abbrev pub no_rows : Rows
no_rows = record { fuel = fuel_of [] []; kinds = []; checks = checks_of [] [] []; series = series_of [] [] [] [] [] }

-- ---- texts from one place

module _ (t : List ℕ) (i p q : ℕ) (v w : List ℕ) (a : Stands t i p v) (b : Stands t i q w) where
  alike : v ++ drop p t ≡ w ++ drop q t
  alike =
      append_cancel_left (take i t) (v ++ drop p t) (w ++ drop q t)
      (sym (append_assoc (take i t) v (drop p t)) ∙ ap (λ (l : List ℕ). l ++ drop p t) (sym a.is) ∙ take-append-drop p t
      ∙ sym (take-append-drop q t) ∙ ap (λ (l : List ℕ). l ++ drop q t) b.is ∙ append_assoc (take i t) w (drop q t))

  -- Equal texts end at one place.
  end_once : v ≡ w → p ≡ q
  end_once e =
      sym (length-take-le p t a.within) ∙ ap length a.is ∙ ap (λ (l : List ℕ). length (take i t ++ l)) e ∙ sym (ap length b.is)
      ∙ length-take-le q t b.within

-- What comes next stands behind what came first.
stands_next : (t : List ℕ) (i p q : ℕ) (v w u : List ℕ) → Stands t i p v → Stands t i q (v ++ (w ++ u)) → Stands t p (p + length w) w
stands_next t i p q v w u a b =
    let rest : drop p t ≡ w ++ (u ++ drop q t) =
    append_cancel_left v (drop p t) (w ++ (u ++ drop q t))
    (alike t i p q v (v ++ (w ++ u)) a b ∙ append_assoc v (w ++ u) (drop q t) ∙ ap (λ (l : List ℕ). v ++ l) (append_assoc w u (drop q t)))
    in
    let joined : take p t ++ (w ++ (u ++ drop q t)) ≡ t = ap (λ (l : List ℕ). take p t ++ l) (sym rest) ∙ take-append-drop p t in
    subst (λ (n : ℕ). Stands t n (n + length w) w) (length-take-le p t a.within)
    (subst (λ (l : List ℕ). Stands l (length (take p t)) (length (take p t) + length w) w) joined (stands_in (take p t) w (u ++ drop q t)))

-- ---- lines along one plan

ended : (ls : List Line) → After done ls done → ls ≡ []
ended [] h = refl
ended (l ∷ ls) h = absurd h

not_ask : (f : Field) (next : ℤ → Plan) (ls : List Line) → After done ls (ask f next) → ⊥
not_ask f next [] h = done_not_ask f next h
not_ask f next (l ∷ ls) h = h

none_more : (xs ys more : List Line) → ys ≡ xs ++ more → more ≡ [] → ys ≡ xs
none_more xs ys more e n = e ∙ ap (λ (l : List Line). xs ++ l) n ∙ append-nil xs

field_in : Plan → Field
field_in done = Field.mine
field_in (ask f next) = f

field_once : (f g : Field) (m n : ℤ → Plan) → ask f m ≡ ask g n → f ≡ g
unfolding field_in
field_once f g m n e = ap field_in e

module _ {from : Plan → Plan} {t : List ℕ} {i : ℕ} {b : Rows → Rows} where
  -- ---- a part that is read twice

  module _ {p q : ℕ} {a c : Rows → Rows} (x : Went from (λ r. r) t i p b a) (y : Went from (λ r. r) t i q b c) where
    went_lines : length x.lines ≤ length y.lines → y.lines ≡ x.lines
    went_lines h =
        let m : (more : List Line) × (y.lines ≡ x.lines ++ more) =
        agree (from done) done done x.lines y.lines (drop p t) (drop q t) (x.way done) (y.way done)
        (alike t i p q (text_of x.lines) (text_of y.lines) x.stands y.stands) h
        in
        none_more x.lines y.lines m.0 m.1
        (ended m.0
        (after_split (from done) done done x.lines m.0 (x.way done) (subst (λ (ls : List Line). After (from done) ls done) m.1 (y.way done))))

  pub went_once : {p q : ℕ} {a c : Rows → Rows} → Went from (λ r. r) t i p b a → Went from (λ r. r) t i q b c → (p ≡ q) × ((o : Rows) → a o ≡ c o)
  went_once {p} {q} x y =
      let e : x.lines ≡ y.lines =
      ⊎_elim (λ h. sym (went_lines x y (omega arith))) (λ h. went_lines y x h) (cases_lt (length x.lines) (length y.lines))
      in (
        end_once t i p q (text_of x.lines) (text_of y.lines) x.stands y.stands (ap text_of e),
        λ o. sym (x.leaves o) ∙ ap (λ (ls : List Line). stored ls (b o)) e ∙ y.leaves o,
      )

  -- ---- a part that breaks off

  module _ {k : ℕ} {a : Rows → Rows} (x : Stopped from t i k b a) where
    -- No line stands where it breaks off.
    stop_last : (q : ℕ) (r : Plan) (ys : List Line) → After (from done) ys r → Stands t i q (text_of ys)
        → (more : List Line) → ys ≡ x.lines ++ more → more ≡ []
    stop_last q r ys way stands [] e = refl
    stop_last q r ys way stands (l ∷ more) e =
        let step : After (ask x.field (x.next done)) (l ∷ more) r =
        after_split (from done) (ask x.field (x.next done)) r x.lines (l ∷ more) (x.way done) (subst (λ (ls : List Line). After (from done) ls r) e way)
        in
        let text : text_of ys ≡ text_of x.lines ++ (line_text x.field l.value ++ text_of more) =
        ap text_of e ∙ text_append x.lines (l ∷ more)
        ∙ ap (λ (f : Field). text_of x.lines ++ (line_text f l.value ++ text_of more)) step.0
        in
        absurd
        (broken_not_read (line_form x.field) (line_free x.field) t x.place k (x.place + length (line_text x.field l.value)) l.value x.broken
        (record {
          taken = step.1;
          stands = stands_next t i x.place q (text_of x.lines) (line_text x.field l.value) (text_of more) x.stands
              (subst (Stands t i q) text stands);
        }))

    -- So no lines that go along the plan are more.
    stop_lines : (q : ℕ) (r : Plan) (ys : List Line) → After (from done) ys r → Stands t i q (text_of ys) → length x.lines ≤ length ys → ys ≡ x.lines
    stop_lines q r ys way stands h =
        let m : (more : List Line) × (ys ≡ x.lines ++ more) =
        agree (from done) (ask x.field (x.next done)) r x.lines ys (drop x.place t) (drop q t) (x.way done) way
        (alike t i x.place q (text_of x.lines) (text_of ys) x.stands stands) h
        in
        none_more x.lines ys m.0 m.1 (stop_last q r ys way stands m.0 m.1)

    -- A plan that still asks for a line here is what any equal lines lead to.
    stop_plan : (r : Plan) (ys : List Line) → After (from done) ys r → ys ≡ x.lines → ask x.field (x.next done) ≡ r
    stop_plan r ys way e =
        after_split (from done) (ask x.field (x.next done)) r x.lines [] (x.way done)
        (subst (λ (ls : List Line). After (from done) ls r) (e ∙ sym (append-nil x.lines)) way)

  -- What is read to its end does not break off.
  pub went_not_stopped : {p k : ℕ} {a c : Rows → Rows} → Went from (λ r. r) t i p b a → Stopped from t i k b c → ⊥
  went_not_stopped {p} y x = ⊎_elim (λ h. fewer h) (λ h. more h) (cases_lt (length y.lines) (length x.lines))
    where
      fewer : length y.lines < length x.lines → ⊥
      fewer h =
          let m : (more : List Line) × (x.lines ≡ y.lines ++ more) =
          agree (from done) done (ask x.field (x.next done)) y.lines x.lines (drop p t) (drop x.place t) (y.way done) (x.way done)
          (alike t i p x.place (text_of y.lines) (text_of x.lines) y.stands x.stands) (omega arith)
          in
          not_ask x.field (x.next done) m.0
          (after_split (from done) done (ask x.field (x.next done)) y.lines m.0 (y.way done)
          (subst (λ (ls : List Line). After (from done) ls (ask x.field (x.next done))) m.1 (x.way done)))

      more : length x.lines ≤ length y.lines → ⊥
      more h =
          done_not_ask x.field (x.next done)
          (sym (stop_plan x done y.lines (y.way done) (stop_lines x p done y.lines (y.way done) y.stands h)))

  pub stopped_once : {j k : ℕ} {a c : Rows → Rows} → Stopped from t i j b a → Stopped from t i k b c → (j ≡ k) × ((o : Rows) → a o ≡ c o)
  stopped_once {j} {k} x y =
      let e : y.lines ≡ x.lines =
      ⊎_elim (λ h. stop_lines x y.place (ask y.field (y.next done)) y.lines (y.way done) y.stands (omega arith))
      (λ h. sym (stop_lines y x.place (ask x.field (x.next done)) x.lines (x.way done) x.stands h))
      (cases_lt (length x.lines) (length y.lines))
      in
      let field : x.field ≡ y.field =
      field_once x.field y.field (x.next done) (y.next done) (stop_plan x (ask y.field (y.next done)) y.lines (y.way done) e)
      in
      let place : x.place ≡ y.place =
      end_once t i x.place y.place (text_of x.lines) (text_of y.lines) x.stands y.stands (ap text_of (sym e))
      in
      let broken : Broken (Of (line_form x.field)) t x.place k =
      subst (λ (f : Field). Broken (Of (line_form f)) t x.place k) (sym field)
      (subst (λ (n : ℕ). Broken (Of (line_form y.field)) t n k) (sym place) y.broken)
      in (
        broken_once (Of (line_form x.field)) t x.place j k x.broken broken,
        λ o. sym (x.leaves o) ∙ ap (λ (ls : List Line). stored ls (b o)) (sym e) ∙ y.leaves o,
      )
