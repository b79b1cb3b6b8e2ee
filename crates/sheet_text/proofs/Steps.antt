-- The sheet line by line, over its table: the laws of `text` at the table `schema`, whatever the line. Assumes nothing.
use Prim.Native.Nat.{ℕ, zero, suc, ◌+◌, ◌^◌, ◌≤◌, ◌<◌}
use mathlib.Core.Path.{◌≡◌, refl, sym, ap, ◌∙◌, subst}
use mathlib.Core.List.{List, [], ◌∷◌, ◌++◌}
use native.Mathlib.Omega.{arith}
use lib.ListN.{length, get_or, take, drop, length-append}
use lib.Seq.{sets, length-sets, take-suc, take_all, split_at}
use lib.IntN.{ℤ, pos, negsuc}
use lib.Signed.{mag}
use mir.Syntax.{w64}
use mir.Val.{SFits, to_z, of_z}
use mir.ValLaws.{to_z-of_z}
use Rattle.std.specs.Prelude.{Result, Ok, Err}
use Rattle.std.specs.Result.{IsErrAnd}
use Rattle.text.specs.declared.Wrong.{Wrong}
use Rattle.text.specs.Form.{Of, ReadAs, Broken, RefusedAt}
use Rattle.text.specs.Decimal.{Range, Fit, plain}
use Rattle.text.specs.Line.{Entry, line_of, line, lines_of, AllFit, lines}
use Rattle.text.specs.Answer.{Put}
use Rattle.text.proofs.Forms.{refused_alike}
use Rattle.text.proofs.Writing.{put_leads}
use Rattle.text.proofs.Tables.{lines_read, lines_broken, lines_past, lines_all, lines_longest, lines_snoc, Wide, longest}
use Rattle.writing.specs.declared.Writer.{Writer}
use Rattle.writing.specs.Wrote.{Wrote}
use Rattle.writing.proofs.Parts.{join}
use Rattle.figures.specs.declared.Figures.{Figures}
use Rattle.sheet_text.specs.Sheet.{schema, values_of, text_of, sheet_most, InRange, IsSheet, unsigned64, signed64}
use Rattle.sheet_text.specs.Read.{SheetOf}
use Rattle.sheet_text.specs.Head.{ReadOr}
use Rattle.sheet_text.specs.Write.{Done, Short}

abbrev blank : Entry
blank = record { key = []; range = plain 0 0 }

-- The line at a place of the table, and the value there.
abbrev pub entry_at : ℕ → Entry
entry_at i = get_or schema i blank

abbrev pub value_at : Figures → ℕ → ℤ
value_at f i = get_or (values_of f) i (pos 0)

schema_length : length schema ≡ 15
unfolding schema
schema_length = refl

values_length : (f : Figures) → length (values_of f) ≡ 15
unfolding values_of
values_length f = refl

-- ---- lists of values that fit

fit_take : (n : ℕ) (es : List Entry) (zs : List ℤ) → AllFit es zs → AllFit (take n es) (take n zs)
fit_take zero es zs h = tt
fit_take (suc n) [] [] h = tt
fit_take (suc n) [] (z ∷ zs) h = absurd h
fit_take (suc n) (e ∷ es) [] h = absurd h
fit_take (suc n) (e ∷ es) (z ∷ zs) h = (h.0, fit_take n es zs h.1)

fit_drop : (n : ℕ) (es : List Entry) (zs : List ℤ) → AllFit es zs → AllFit (drop n es) (drop n zs)
fit_drop zero es zs h = h
fit_drop (suc n) [] [] h = tt
fit_drop (suc n) [] (z ∷ zs) h = absurd h
fit_drop (suc n) (e ∷ es) [] h = absurd h
fit_drop (suc n) (e ∷ es) (z ∷ zs) h = fit_drop n es zs h.1

fit_at : (es : List Entry) (zs : List ℤ) (i : ℕ) → AllFit es zs → i < length es → Fit (get_or es i blank).range (get_or zs i (pos 0))
fit_at [] zs i h l = absurd (omega arith)
fit_at (e ∷ es) [] i h l = absurd h
fit_at (e ∷ es) (z ∷ zs) zero h l = h.0
fit_at (e ∷ es) (z ∷ zs) (suc i) h l = fit_at es zs i h.1 (omega arith)

fit_length : (es : List Entry) (zs : List ℤ) → AllFit es zs → length zs ≡ length es
fit_length [] [] h = refl
fit_length [] (z ∷ zs) h = absurd h
fit_length (e ∷ es) [] h = absurd h
fit_length (e ∷ es) (z ∷ zs) h = ap suc (fit_length es zs h.1)

wide_take : (n : ℕ) (es : List Entry) → Wide es → Wide (take n es)
wide_take zero es w = tt
wide_take (suc n) [] w = tt
wide_take (suc n) (e ∷ es) w = (w.0, wide_take n es w.1)

longest_take : (n : ℕ) (es : List Entry) → longest (take n es) ≤ longest es
longest_take zero es = omega arith
longest_take (suc n) [] = omega arith
longest_take (suc n) (e ∷ es) = omega (arith, longest_take n es)

-- No sheet has more than sheet_most bytes.
schema_wide : Wide schema
unfolding schema
schema_wide = omega arith

schema_longest : longest schema ≡ sheet_most
unfolding schema
schema_longest = refl

-- The sheet of zeros: some sheet goes on with any lines.
abbrev zeros : List ℤ
zeros =
    pos 0 ∷
    pos 0 ∷
    pos 0 ∷
    pos 0 ∷
    pos 0 ∷
    pos 0 ∷
    pos 0 ∷
    pos 0 ∷
    pos 0 ∷
    pos 0 ∷
    pos 0 ∷
    pos 0 ∷
    pos 0 ∷
    pos 0 ∷
    pos 0 ∷
    []

zeros_fit : AllFit schema zeros
unfolding schema
zeros_fit = omega arith

-- ---- a sheet's text is the table's

abbrev pub nat : ℤ → ℕ
nat (pos n) = n
nat (negsuc n) = 0

figures_of : List ℤ → Figures
figures_of zs = record {
  «intervals» = nat (get_or zs 0 (pos 0));
  «devices» = nat (get_or zs 1 (pos 0));
  «counted» = nat (get_or zs 2 (pos 0));
  «replaced» = nat (get_or zs 3 (pos 0));
  «excluded» = nat (get_or zs 4 (pos 0));
  methane_l = nat (get_or zs 5 (pos 0));
  destroyed_l = nat (get_or zs 6 (pos 0));
  uncombusted_l = nat (get_or zs 7 (pos 0));
  baseline_mg = nat (get_or zs 8 (pos 0));
  co2_mg = nat (get_or zs 9 (pos 0));
  uncombusted_mg = nat (get_or zs 10 (pos 0));
  fuel_mg = nat (get_or zs 11 (pos 0));
  reduction_mg = get_or zs 12 (pos 0);
  «tonnes» = get_or zs 13 (pos 0);
  «credits» = nat (get_or zs 14 (pos 0));
}

unsigned_is : (z : ℤ) → Fit unsigned64 z → pos (nat z) ≡ z
unsigned_is (pos n) h = refl
unsigned_is (negsuc n) h = absurd (omega arith)

-- The first n values of an index function.
tab : ℕ → (ℕ → ℤ) → List ℤ
tab zero f = []
tab (suc n) f = f 0 ∷ tab n (λ i. f (suc i))

listed : (zs : List ℤ) → zs ≡ tab (length zs) (λ i. get_or zs i (pos 0))
unfolding tab
listed [] = refl
listed (z ∷ zs) = ap (λ (l : List ℤ). z ∷ l) (listed zs)

pub signed_fit : (z : ℤ) → SFits w64 z → Fit signed64 z
signed_fit (pos n) h = (omega arith, omega (arith, h.sfits))
signed_fit (negsuc n) h = h.sfits

-- Figures of 64 bits are in range.
abbrev pub Sized : Figures → Type 0
Sized f = (f.«intervals» < 2 ^ 64) × (f.«devices» < 2 ^ 64) × (f.«counted» < 2 ^ 64) × (f.«replaced» < 2 ^ 64) × (f.«excluded» < 2 ^ 64) × (f.methane_l < 2 ^ 64) × (f.destroyed_l < 2 ^ 64) × (f.uncombusted_l < 2 ^ 64) × (f.baseline_mg < 2 ^ 64) × (f.co2_mg < 2 ^ 64) × (f.uncombusted_mg < 2 ^ 64) × (f.fuel_mg < 2 ^ 64) × (mag f.reduction_mg < 2 ^ 63) × (mag f.«tonnes» < 2 ^ 63) × (f.«credits» < 2 ^ 64)

pub in_range : (f : Figures) → Sized f → InRange f
unfolding InRange schema values_of
in_range f h = ((omega arith, omega arith), ((omega arith, omega arith), ((omega arith, omega arith), ((omega arith, omega arith), ((omega arith, omega arith), ((omega arith, omega arith), ((omega arith, omega arith), ((omega arith, omega arith), ((omega arith, omega arith), ((omega arith, omega arith), ((omega arith, omega arith), ((omega arith, omega arith), (signed_fit f.reduction_mg (record { sfits = omega arith }), (signed_fit f.«tonnes» (record { sfits = omega arith }), ((omega arith, omega arith), tt)))))))))))))))

back_values : (zs : List ℤ) → AllFit schema zs → values_of (figures_of zs) ≡ zs
unfolding schema values_of figures_of tab
back_values zs h =
    let e : zs ≡ tab 15 (λ i. get_or zs i (pos 0)) = listed zs ∙ ap (λ (n : ℕ). tab n (λ i. get_or zs i (pos 0))) (fit_length schema zs h) in
    let u0 : pos (nat (get_or zs 0 (pos 0))) ≡ get_or zs 0 (pos 0) = unsigned_is (get_or zs 0 (pos 0)) (fit_at schema zs 0 h (omega arith)) in
    let u1 : pos (nat (get_or zs 1 (pos 0))) ≡ get_or zs 1 (pos 0) = unsigned_is (get_or zs 1 (pos 0)) (fit_at schema zs 1 h (omega arith)) in
    let u2 : pos (nat (get_or zs 2 (pos 0))) ≡ get_or zs 2 (pos 0) = unsigned_is (get_or zs 2 (pos 0)) (fit_at schema zs 2 h (omega arith)) in
    let u3 : pos (nat (get_or zs 3 (pos 0))) ≡ get_or zs 3 (pos 0) = unsigned_is (get_or zs 3 (pos 0)) (fit_at schema zs 3 h (omega arith)) in
    let u4 : pos (nat (get_or zs 4 (pos 0))) ≡ get_or zs 4 (pos 0) = unsigned_is (get_or zs 4 (pos 0)) (fit_at schema zs 4 h (omega arith)) in
    let u5 : pos (nat (get_or zs 5 (pos 0))) ≡ get_or zs 5 (pos 0) = unsigned_is (get_or zs 5 (pos 0)) (fit_at schema zs 5 h (omega arith)) in
    let u6 : pos (nat (get_or zs 6 (pos 0))) ≡ get_or zs 6 (pos 0) = unsigned_is (get_or zs 6 (pos 0)) (fit_at schema zs 6 h (omega arith)) in
    let u7 : pos (nat (get_or zs 7 (pos 0))) ≡ get_or zs 7 (pos 0) = unsigned_is (get_or zs 7 (pos 0)) (fit_at schema zs 7 h (omega arith)) in
    let u8 : pos (nat (get_or zs 8 (pos 0))) ≡ get_or zs 8 (pos 0) = unsigned_is (get_or zs 8 (pos 0)) (fit_at schema zs 8 h (omega arith)) in
    let u9 : pos (nat (get_or zs 9 (pos 0))) ≡ get_or zs 9 (pos 0) = unsigned_is (get_or zs 9 (pos 0)) (fit_at schema zs 9 h (omega arith)) in
    let u10 : pos (nat (get_or zs 10 (pos 0))) ≡ get_or zs 10 (pos 0) = unsigned_is (get_or zs 10 (pos 0)) (fit_at schema zs 10 h (omega arith)) in
    let u11 : pos (nat (get_or zs 11 (pos 0))) ≡ get_or zs 11 (pos 0) = unsigned_is (get_or zs 11 (pos 0)) (fit_at schema zs 11 h (omega arith)) in
    let u14 : pos (nat (get_or zs 14 (pos 0))) ≡ get_or zs 14 (pos 0) = unsigned_is (get_or zs 14 (pos 0)) (fit_at schema zs 14 h (omega arith)) in
    cc

there : (p : List ℕ) → Of (lines schema) p → IsSheet p
unfolding text_of InRange
there p o =
    record {
      value = figures_of o.value;
      taken = subst (AllFit schema) (sym (back_values o.value o.taken)) o.taken;
      is = o.is ∙ ap (lines_of schema) (sym (back_values o.value o.taken));
    }

back : (p : List ℕ) → IsSheet p → Of (lines schema) p
unfolding text_of InRange
back p o = record { value = values_of o.value; taken = o.taken; is = o.is }

pub sheet_refused : (t : List ℕ) (k : ℕ) → RefusedAt (Of (lines schema)) t k → RefusedAt IsSheet t k
sheet_refused = refused_alike (Of (lines schema)) IsSheet there back

-- ---- reading

module _ {t : List ℕ} {zs : List ℤ} {p : ℕ} (i : ℕ) (h : i < 15) (a : ReadAs (lines (take i schema)) t 0 p zs) where
  pub line_step : {z : ℤ} {q : ℕ} → ReadAs (line (entry_at i).key (entry_at i).range) t p q z → ReadAs (lines (take (suc i) schema)) t 0 q (zs ++ (z ∷ []))
  line_step {z} {q} b =
      subst (λ (es : List Entry). ReadAs (lines es) t 0 q (zs ++ (z ∷ []))) (sym (take-suc schema i blank (omega (arith, schema_length))))
      (lines_read (take i schema) (entry_at i) zs z t 0 p q a b)

  pub line_refused : {k : ℕ} → Broken (Of (line (entry_at i).key (entry_at i).range)) t p k → RefusedAt IsSheet t k
  line_refused {k} b =
      sheet_refused t k
      (subst (λ (es : List Entry). RefusedAt (Of (lines es)) t k) (sym (split_at schema i blank (omega (arith, schema_length))))
      (lines_broken (take i schema) t p zs a (entry_at i) (drop (suc i) schema) k b (drop (suc i) zeros) (fit_drop (suc i) schema zeros zeros_fit)))

-- A wrong place that `?` gives on.
pub given_on : {A : Type 0} (right : A → Type 0) {t : List ℕ} {w : Wrong} (r : Result A Wrong) → IsErrAnd r (λ (v : Wrong). v ≡ w)
    → RefusedAt IsSheet t w.place → ReadOr right t r
given_on right (Ok x) e b = absurd e
given_on right {t} (Err v) e b = subst (λ (x : Wrong). RefusedAt IsSheet t x.place) (sym e) b

module _ {t : List ℕ} {zs : List ℤ} {p : ℕ} (a : ReadAs (lines (take 15 schema)) t 0 p zs) where
  all_lines : take 15 schema ≡ schema
  all_lines = take_all 15 schema (omega (arith, schema_length))

  pub read_past : p < length t → RefusedAt IsSheet t p
  read_past h = sheet_refused t p (subst (λ (es : List Entry). RefusedAt (Of (lines es)) t p) all_lines (lines_past (take 15 schema) t p zs a h))

  pub read_all : length t ≤ p → (f : Figures) → values_of f ≡ zs → SheetOf t f
  unfolding text_of InRange
  read_all h f e = record {
    in_range = subst (AllFit schema) (sym e) (subst (λ (es : List Entry). AllFit es zs) all_lines a.taken);
    is = lines_all (take 15 schema) t p zs a h ∙ ap (λ (es : List Entry). lines_of es zs) all_lines ∙ ap (lines_of schema) (sym e);
  }

-- ---- writing

pub signed_back : (z : ℤ) → Fit signed64 z → to_z w64 (of_z w64 z) ≡ z
signed_back z h = to_z-of_z w64 z (fits z h)
  where
    fits : (y : ℤ) → Fit signed64 y → SFits w64 y
    fits (pos n) g = record { sfits = omega (arith, g.1) }
    fits (negsuc n) g = record { sfits = g }

-- The lines up to place i are written by a writer that began at 0.
module _ (f : Figures) (fit : InRange f) (i : ℕ) (h : i < 15) {a b : Writer} (w : Wrote a (lines_of (take i schema) (take i (values_of f))) b) where
  text_is : lines_of (take (suc i) schema) (take (suc i) (values_of f)) ≡ lines_of (take i schema) (take i (values_of f)) ++ line_of (entry_at i).key
      (value_at f i)
  unfolding InRange
  text_is =
      rw (take-suc schema i blank (omega (arith, schema_length)), take-suc (values_of f) i (pos 0) (omega (arith, values_length f)))
      (lines_snoc (take i schema) (entry_at i) (take i (values_of f)) (value_at f i) (fit_take i schema (values_of f) fit))

  pub put_step : {c : Writer} → Wrote b (line_of (entry_at i).key (value_at f i)) c → Wrote a (lines_of (take (suc i) schema) (take (suc i) (values_of f))) c
  put_step {c} x = subst (λ (v : List ℕ). Wrote a v c) (sym text_is) (join w x)

  pub put_room : a.at ≡ 0 → b.at + length (line_of (entry_at i).key (value_at f i)) < 2 ^ 64
  unfolding InRange
  put_room start =
      omega (
        arith,
        w.put.stops,
        ap length text_is,
        length-append (lines_of (take i schema) (take i (values_of f))) (line_of (entry_at i).key (value_at f i)),
        lines_longest (take (suc i) schema) (take (suc i) (values_of f)) (wide_take (suc i) schema schema_wide) (fit_take (suc i) schema (values_of f) fit),
        longest_take (suc i) schema,
        schema_longest,
      )

  -- The same of a signed line, whose value went through its 64 bits.
  module _ (r : (entry_at i).range ≡ signed64) where
    same : to_z w64 (of_z w64 (value_at f i)) ≡ value_at f i
    unfolding InRange
    same = signed_back (value_at f i) (subst (λ (x : Range). Fit x (value_at f i)) r (fit_at schema (values_of f) i fit (omega (arith, schema_length))))

    pub put_signed_step : {c : Writer} → Wrote b (line_of (entry_at i).key (to_z w64 (of_z w64 (value_at f i)))) c
        → Wrote a (lines_of (take (suc i) schema) (take (suc i) (values_of f))) c
    put_signed_step {c} x = put_step (subst (λ (z : ℤ). Wrote b (line_of (entry_at i).key z) c) same x)

    pub put_signed_room : a.at ≡ 0 → b.at + length (line_of (entry_at i).key (to_z w64 (of_z w64 (value_at f i)))) < 2 ^ 64
    put_signed_room start = subst (λ (z : ℤ). b.at + length (line_of (entry_at i).key z) < 2 ^ 64) (sym same) (put_room start)

pub sheet_longest : (f : Figures) → InRange f → length (text_of f) ≤ sheet_most
unfolding text_of InRange
sheet_longest f fit = omega (arith, lines_longest schema (values_of f) schema_wide fit, schema_longest)

pub put_none : (f : Figures) (a : Writer) → Wrote a (lines_of (take 0 schema) (take 0 (values_of f))) a
put_none f a = record { same = refl; put = record { stops = omega arith; is = refl } }

pub put_all : (f : Figures) {a b : Writer} → Wrote a (lines_of (take 15 schema) (take 15 (values_of f))) b → Wrote a (text_of f) b
unfolding text_of
put_all f {a} {b} w =
    subst (λ (v : List ℕ). Wrote a v b)
    (ap (λ (es : List Entry). lines_of es (take 15 (values_of f))) (take_all 15 schema (omega (arith, schema_length)))
    ∙ ap (lines_of schema) (take_all 15 (values_of f) (omega (arith, values_length f)))) w

-- A run over no buffer writes nothing.
pub nothing : (x w : List ℕ) → x ≡ sets [] 0 w → x ≡ []
nothing x w e = none x (ap length e ∙ length-sets [] 0 w)
  where
    none : (y : List ℕ) → length y ≡ 0 → y ≡ []
    none [] h = refl
    none (c ∷ y) h = absurd (omega arith)

pub put_done : (f : Figures) (old mid new : List ℕ) (n m : ℕ) → mid ≡ old → n ≡ 0 + length (text_of f) → n ≤ length mid → Put mid 0 (text_of f) new m → Done f old
    new m
put_done f old mid new n m same size room a =
    put_leads (text_of f) old new m (subst (λ (l : List ℕ). Put l 0 (text_of f) new m) same a) (omega (arith, size, ap length same))

pub put_short : (f : Figures) (old mid : List ℕ) (n : ℕ) → mid ≡ old → n ≡ 0 + length (text_of f) → length mid < n → length (text_of f) ≤ sheet_most → Short f old
    mid n
put_short f old mid n same size short most = record {
  needed = omega (arith, size);
  short = omega (arith, ap length same);
  most = omega (arith, size, most);
  is = same;
}
