-- The laws of tables of lines, by one induction over the table whatever its lines: tables do not begin one another, they are
-- read and written line by line, and a line that breaks is where the whole text is refused. Assumes nothing.
use Prim.Native.Nat.{ℕ, suc, ◌+◌, ◌^◌, ◌≤◌, ◌<◌}
use mathlib.Core.Path.{◌≡◌, refl, sym, ap, ◌∙◌, subst}
use mathlib.Core.List.{List, [], ◌∷◌, ◌++◌, append_assoc, append-nil}
use mathlib.Core.Logic.{⊎_elim}
use native.Mathlib.Omega.{arith}
use lib.ListN.{length, get_or, take, drop, length-append, take-append-drop}
use lib.Seq.{take_all}
use lib.IntN.{ℤ, pos, negsuc}
use Rattle.std.proofs.lemmas.List.{append_cancel_left}
use Rattle.text.specs.Form.{Of, Begun, Stands, ReadAs, Broken, RefusedAt}
use Rattle.text.specs.Decimal.{Fit, Range, decimal}
use Rattle.text.specs.Line.{Entry, line_of, line, lines_of, AllFit, lines}
use Rattle.std.proofs.lemmas.Bool.{cases_lt}
use Rattle.text.proofs.Decimals.{dec_20, dec_length}
use Rattle.text.proofs.Forms.{splits, started_past, stands_one, stands_join, stands_none}
use Rattle.text.proofs.Numbers.{line_free}
use Rattle.text.proofs.Writing.{line_length}

lines_apart : (es : List Entry) (xs ys : List ℤ) (r s : List ℕ) → AllFit es xs → AllFit es ys → lines_of es xs ++ r ≡ lines_of es ys ++ s → xs ≡ ys
lines_apart [] [] [] r s hx hy eq = refl
lines_apart [] [] (y ∷ ys) r s hx hy eq = absurd hy
lines_apart [] (x ∷ xs) ys r s hx hy eq = absurd hx
lines_apart (e ∷ es) [] ys r s hx hy eq = absurd hx
lines_apart (e ∷ es) (x ∷ xs) [] r s hx hy eq = absurd hy
lines_apart (e ∷ es) (x ∷ xs) (y ∷ ys) r s hx hy eq =
    let q : line_of e.key x ++ (lines_of es xs ++ r) ≡ line_of e.key y ++ (lines_of es ys ++ s) =
    sym (append_assoc (line_of e.key x) (lines_of es xs) r) ∙ eq ∙ append_assoc (line_of e.key y) (lines_of es ys) s
    in
    let same : x ≡ y = (line_free e.key e.range).apart x y (lines_of es xs ++ r) (lines_of es ys ++ s) hx.0 hy.0 q in
    let more : xs ≡ ys =
    lines_apart es xs ys r s hx.1 hy.1
    (append_cancel_left (line_of e.key x) (lines_of es xs ++ r) (lines_of es ys ++ s)
    (q ∙ ap (λ (z : ℤ). line_of e.key z ++ (lines_of es ys ++ s)) (sym same)))
    in cc

-- Two texts of one table are equal only if their values are.
pub lines_inj : (es : List Entry) (xs ys : List ℤ) → AllFit es xs → AllFit es ys → lines_of es xs ≡ lines_of es ys → xs ≡ ys
lines_inj es xs ys hx hy e = lines_apart es xs ys [] [] hx hy (ap (λ (l : List ℕ). l ++ []) e)

pub lines_append : (a b : List Entry) (xs ys : List ℤ) → AllFit a xs → lines_of (a ++ b) (xs ++ ys) ≡ lines_of a xs ++ lines_of b ys
lines_append [] b [] ys h = refl
lines_append [] b (x ∷ xs) ys h = absurd h
lines_append (e ∷ a) b [] ys h = absurd h
lines_append (e ∷ a) b (x ∷ xs) ys h =
    ap (λ (l : List ℕ). line_of e.key x ++ l) (lines_append a b xs ys h.1) ∙ sym (append_assoc (line_of e.key x) (lines_of a xs) (lines_of b ys))

pub fit_append : (a b : List Entry) (xs ys : List ℤ) → AllFit a xs → AllFit b ys → AllFit (a ++ b) (xs ++ ys)
fit_append [] b [] ys h g = g
fit_append [] b (x ∷ xs) ys h g = absurd h
fit_append (e ∷ a) b [] ys h g = absurd h
fit_append (e ∷ a) b (x ∷ xs) ys h g = (h.0, fit_append a b xs ys h.1 g)

fit_split : (a b : List Entry) (zs : List ℤ) → AllFit (a ++ b) zs → (xs : List ℤ) × (ys : List ℤ) × (zs ≡ xs ++ ys) × AllFit a xs × AllFit b ys
fit_split [] b zs h = ([], zs, refl, tt, h)
fit_split (e ∷ a) b [] h = absurd h
fit_split (e ∷ a) b (z ∷ zs) h =
    let s : (xs : List ℤ) × (ys : List ℤ) × (zs ≡ xs ++ ys) × AllFit a xs × AllFit b ys = fit_split a b zs h.1 in
    (z ∷ s.0, s.1, ap (λ (l : List ℤ). z ∷ l) s.2, (h.0, s.3), s.4)

-- One line more, as a text.
pub lines_snoc : (es : List Entry) (e : Entry) (zs : List ℤ) (z : ℤ) → AllFit es zs → lines_of (es ++ (e ∷ [])) (zs ++ (z ∷ [])) ≡ lines_of es zs ++ line_of
    e.key z
lines_snoc es e zs z h = lines_append es (e ∷ []) zs (z ∷ []) h ∙ ap (λ (l : List ℕ). lines_of es zs ++ l) (append-nil (line_of e.key z))

-- ---- writing line by line

-- ---- reading line by line

pub lines_none : (t : List ℕ) (i : ℕ) → i ≤ length t → ReadAs (lines []) t i i []
lines_none t i h = record { taken = tt; stands = stands_none t i h }

pub lines_read : (es : List Entry) (e : Entry) (zs : List ℤ) (z : ℤ) (t : List ℕ) (i p q : ℕ) → ReadAs (lines es) t i p zs → ReadAs (line e.key e.range) t
    p q z
    → ReadAs (lines (es ++ (e ∷ []))) t i q (zs ++ (z ∷ []))
lines_read es e zs z t i p q a b = record {
  taken = fit_append es (e ∷ []) zs (z ∷ []) a.taken (b.taken, tt);
  stands = subst (Stands t i q) (sym (lines_snoc es e zs z a.taken)) (stands_join t i p q (lines_of es zs) (line_of e.key z) a.stands b.stands);
}

module _ (es : List Entry) (t : List ℕ) (p : ℕ) (zs : List ℤ) (a : ReadAs (lines es) t 0 p zs) where
  -- The whole text was read.
  pub lines_all : length t ≤ p → t ≡ lines_of es zs
  lines_all h = sym (take_all p t h) ∙ a.stands.is

  -- Something stands behind the last line.
  pub lines_past : p < length t → RefusedAt (Of (lines es)) t p
  lines_past h = record {
    within = a.stands.within;
    begins = record { rest = []; belongs = record { value = zs; taken = a.taken; is = append-nil (take p t) ∙ a.stands.is } };
    ends = λ inside b. longer b;
    none = λ o.
        longer
        (record { rest = drop (suc p) t; belongs = subst (Of (lines es)) (sym (take-append-drop (suc p) t)) o });
  }
    where
      longer : Begun (Of (lines es)) (take (suc p) t) → ⊥
      longer b =
          let o : Of (lines es) (take (suc p) t ++ b.rest) = b.belongs in
          let is : lines_of es zs ++ (get_or t p 0 ∷ b.rest) ≡ lines_of es o.value =
          sym (append_assoc (lines_of es zs) (get_or t p 0 ∷ []) b.rest)
          ∙ ap (λ (l : List ℕ). l ++ b.rest) (sym (stands_one t 0 p (lines_of es zs) a.stands h).is) ∙ o.is
          in
          let same : zs ≡ o.value =
          lines_apart es zs o.value (get_or t p 0 ∷ b.rest) [] a.taken o.taken (is ∙ sym (append-nil (lines_of es o.value)))
          in
          let nil : get_or t p 0 ∷ b.rest ≡ [] =
          append_cancel_left (lines_of es zs) (get_or t p 0 ∷ b.rest) [] (is ∙ ap (lines_of es) (sym same) ∙ sym (append-nil (lines_of es zs)))
          in
          omega (arith, ap length nil)

  -- A line breaks: the whole text is refused there, whatever lines would follow.
  module _ (e : Entry) (rest : List Entry) (k : ℕ) (b : Broken (Of (line e.key e.range)) t p k) where
    -- What a text of the table has behind the lines that were read.
    behind : (w : List ℕ) → Of (lines (es ++ (e ∷ rest))) (lines_of es zs ++ w) → (y : ℤ) × (m : List ℕ) × Fit e.range y × (w ≡ line_of e.key y ++ m)
    behind w o =
        let s : (xs : List ℤ) × (ys : List ℤ) × (o.value ≡ xs ++ ys) × AllFit es xs × AllFit (e ∷ rest) ys = fit_split es (e ∷ rest) o.value o.taken in
        let is : lines_of es zs ++ w ≡ lines_of es s.0 ++ lines_of (e ∷ rest) s.1 =
        o.is ∙ ap (lines_of (es ++ (e ∷ rest))) s.2 ∙ lines_append es (e ∷ rest) s.0 s.1 s.3
        in
        let same : zs ≡ s.0 = lines_apart es zs s.0 w (lines_of (e ∷ rest) s.1) a.taken s.3 is in
        first s.1 s.4 (append_cancel_left (lines_of es zs) w (lines_of (e ∷ rest) s.1)
        (is ∙ ap (λ (l : List ℤ). lines_of es l ++ lines_of (e ∷ rest) s.1) (sym same)))
      where
        first : (ys : List ℤ) → AllFit (e ∷ rest) ys → w ≡ lines_of (e ∷ rest) ys → (y : ℤ) × (m : List ℕ) × Fit e.range y × (w ≡ line_of e.key y ++ m)
        first [] h q = absurd h
        first (y ∷ ys) h q = (y, lines_of rest ys, h.0, q)

    -- No text of the table goes on with the bytes that were read and the byte at k; nor is it over there.
    never : (w : List ℕ) (m : List ℕ) (y : ℤ) → Fit e.range y → w ≡ line_of e.key y ++ m → length (line_of e.key y) ≤ length b.read → (x : List ℕ) →
        w ≡ b.read ++ x → ⊥
    never w m y fit q short x r =
        let s : (n : List ℕ) × (b.read ≡ line_of e.key y ++ n) × (n ++ x ≡ m) = splits b.read x (line_of e.key y) m (sym r ∙ q) short in
        started_past (line e.key e.range) (line_free e.key e.range) b.read (line_of e.key y) s.0 b.begins
        (record { value = y; taken = fit; is = refl }) s.1

    longer : k < length t → Begun (Of (lines (es ++ (e ∷ rest)))) (take (suc k) t) → ⊥
    longer inside g =
        let c : List ℕ = get_or t k 0 ∷ [] in
        let text : take (suc k) t ++ g.rest ≡ lines_of es zs ++ ((b.read ++ (get_or t k 0 ∷ [])) ++ g.rest) =
        ap (λ (l : List ℕ). l ++ g.rest)
        (stands_join t 0 p (suc k) (lines_of es zs) (b.read ++ (get_or t k 0 ∷ [])) a.stands (stands_one t p k b.read b.stands inside)).is
        ∙ append_assoc (lines_of es zs) (b.read ++ (get_or t k 0 ∷ [])) g.rest
        in
        let v : (y : ℤ) × (m : List ℕ) × Fit e.range y × ((b.read ++ (get_or t k 0 ∷ [])) ++ g.rest ≡ line_of e.key y ++ m) =
        behind ((b.read ++ (get_or t k 0 ∷ [])) ++ g.rest) (subst (Of (lines (es ++ (e ∷ rest)))) text g.belongs)
        in
        ⊎_elim
        (λ h. goes_on inside g.rest v.0 v.1 v.2 v.3 (omega (arith, length-append b.read (get_or t k 0 ∷ []))))
        (λ h.
        never ((b.read ++ (get_or t k 0 ∷ [])) ++ g.rest) v.1 v.0 v.2 v.3 h ((get_or t k 0 ∷ []) ++ g.rest)
        (append_assoc b.read (get_or t k 0 ∷ []) g.rest))
        (cases_lt (length b.read) (length (line_of e.key v.0)))
      where
        goes_on : k < length t → (x : List ℕ) (y : ℤ) (m : List ℕ) → Fit e.range y → (b.read ++ (get_or t k 0 ∷ [])) ++ x ≡ line_of e.key y ++ m
            → length (b.read ++ (get_or t k 0 ∷ [])) ≤ length (line_of e.key y) → ⊥
        goes_on inside x y m fit q h =
            let s : (n : List ℕ) × (line_of e.key y ≡ (b.read ++ (get_or t k 0 ∷ [])) ++ n) × (n ++ m ≡ x) =
            splits (line_of e.key y) m (b.read ++ (get_or t k 0 ∷ [])) x (sym q) h
            in
            b.ends inside (record { rest = s.0; belongs = record { value = y; taken = fit; is = sym s.1 } })

    pub lines_broken : (ws : List ℤ) → AllFit rest ws → RefusedAt (Of (lines (es ++ (e ∷ rest)))) t k
    lines_broken ws fit = record {
      within = b.stands.within;
      begins =
          record {
            rest = (b.begins.next ∷ b.begins.rest) ++ lines_of rest ws;
            belongs =
                record { value = zs ++ (o.value ∷ ws); taken = fit_append es (e ∷ rest) zs (o.value ∷ ws) a.taken (o.taken, fit); is = text_is_all };
          };
      ends = longer;
      none =
          λ x. ⊎_elim (λ h. longer h (record { rest = drop (suc k) t; belongs = subst (Of (lines (es ++ (e ∷ rest)))) (sym (take-append-drop (suc k) t)) x }))
          (λ h. at_end h x) (cases_lt k (length t));
    }
      where
        o : Of (line e.key e.range) (b.read ++ (b.begins.next ∷ b.begins.rest))
        o = b.begins.belongs

        upto : take k t ≡ lines_of es zs ++ b.read
        upto = (stands_join t 0 p k (lines_of es zs) b.read a.stands b.stands).is

        text_is_all : take k t ++ ((b.begins.next ∷ b.begins.rest) ++ lines_of rest ws) ≡ lines_of (es ++ (e ∷ rest)) (zs ++ (o.value ∷ ws))
        text_is_all =
            ap (λ (l : List ℕ). l ++ ((b.begins.next ∷ b.begins.rest) ++ lines_of rest ws)) upto
            ∙ append_assoc (lines_of es zs) b.read ((b.begins.next ∷ b.begins.rest) ++ lines_of rest ws)
            ∙ ap (λ (l : List ℕ). lines_of es zs ++ l) (sym (append_assoc b.read (b.begins.next ∷ b.begins.rest) (lines_of rest ws)) ∙ ap
            (λ (l : List ℕ). l ++ lines_of rest ws) o.is)
            ∙ sym (lines_append es (e ∷ rest) zs (o.value ∷ ws) a.taken)

        at_end : length t ≤ k → Of (lines (es ++ (e ∷ rest))) t → ⊥
        at_end h x =
            let text : t ≡ lines_of es zs ++ b.read = sym (take_all k t h) ∙ upto in
            let v : (y : ℤ) × (m : List ℕ) × Fit e.range y × (b.read ≡ line_of e.key y ++ m) = behind b.read
            (subst (Of (lines (es ++ (e ∷ rest)))) text x) in
            never b.read v.1 v.0 v.2 v.3 (omega (arith, ap length v.3, length-append (line_of e.key v.0) v.1)) []
            (sym (append-nil b.read))

-- ---- how long a text can get

-- Every range lies within 64 bits.
abbrev pub Wide : List Entry → Type 0
Wide [] = Unit {0}
Wide (e ∷ es) = ((e.range.most < 2 ^ 64) × (e.range.below ≤ 2 ^ 63)) × Wide es

abbrev pub longest : List Entry → ℕ
longest [] = 0
longest (e ∷ es) = length e.key + 21 + longest es

pub decimal_20 : (r : Range) (z : ℤ) → r.most < 2 ^ 64 → r.below ≤ 2 ^ 63 → Fit r z → length (decimal z) ≤ 20
decimal_20 r (pos n) hm hb h = dec_20 n (omega (arith, h.1))
decimal_20 r (negsuc n) hm hb h = omega (arith, dec_length 18 (suc n) (omega arith))

pub lines_longest : (es : List Entry) (zs : List ℤ) → Wide es → AllFit es zs → length (lines_of es zs) ≤ longest es
lines_longest [] [] w h = omega arith
lines_longest [] (z ∷ zs) w h = absurd h
lines_longest (e ∷ es) [] w h = absurd h
lines_longest (e ∷ es) (z ∷ zs) w h =
    omega (
      arith,
      length-append (line_of e.key z) (lines_of es zs),
      line_length e.key z,
      decimal_20 e.range z w.0.0 w.0.1 h.0,
      lines_longest es zs w.1 h.1,
    )
