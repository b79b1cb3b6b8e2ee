-- Laws of replacement: windows of measured values only, so that gaps that are filled already disturb none; bounds.
-- Assumes nothing.
use Prim.Native.Nat.{ℕ, zero, suc, ◌+◌, ◌-◌, ◌*◌, ◌≤◌, ◌<◌}
use mathlib.Core.Path.{◌≡◌, refl, sym, ap, ap₂, ◌∙◌, subst}
use mathlib.Core.Bool.{Bool, true, false}
use mathlib.Core.List.{List, ◌++◌}
use native.Mathlib.Omega.{arith}
use lib.Dec.{leb}
use Rattle.std.proofs.Common.{Option, Some, None}
use lib.ListN.{length, get_or}
use lib.Seq.{ext_get_or}
use Rattle.rows.specs.Rows.{pick, cut}
use Rattle.rows.proofs.Laws.{length-cut, get_or-cut, get_or_inside}
use Rattle.protocol.specs.Ranges.{mark, flow_most, intervals_most}
use Rattle.drainage_window.specs.Window.{tally_of, mean_of, limit_of, mean_width, width90, width95, z90, z95}
use Rattle.drainage_window.specs.Sizes.{Low, Windows}
use Rattle.drainage_window.specs.declared.Tally.{Tally}
use Rattle.drainage_window.proofs.Laws.{tally_most, mean_most, limit_most, low_append}
use Rattle.drainage_runs.specs.Runs.{missing_at, gap_start, gap_end, whole, too_long, not_whole}
use Rattle.drainage_runs.specs.Private.{excluding}
use Rattle.drainage_runs.proofs.Laws.{whole_before, whole_after, start_least}
use Rattle.drainage_gaps.specs.Gaps.{Replaced, class_of, taken_by, window_values, replaced_in, replacement_of, replacement_at}
use Rattle.drainage_gaps.specs.Private.{held_for, Goes}
use Rattle.drainage_gaps.specs.declared.Rule.{Rule}
use Rattle.drainage_gaps.specs.declared.Rule.TheVariants.{Mean, Limit}

-- two rows of values agree wherever the reading is measured
pub record Agree (reading used corrected : List ℕ) : Type 0 where
  pub same_length : length used ≡ length corrected
  pub same : (k : ℕ) → missing_at reading k ≡ false → get_or used k mark ≡ get_or corrected k mark

-- ---- a whole window before and after a gap

module _ (reading : List ℕ) (a e w : ℕ) (h : whole reading a e w ≡ true) where
  pub reach_before : w ≤ a
  reach_before = go w refl
    where
      go : (v : ℕ) → v ≡ w → v ≤ a
      go zero q = omega arith
      go (suc k) q = (whole_before reading a e w h k (omega arith)).0

  pub reach_after : 0 < w → e + w ≤ length reading
  reach_after s = let z = (whole_after reading a e w h (w - 1) (omega arith)).0 in omega arith

  -- the entries of the two windows are measured
  pub measured_before : (i : ℕ) → i < a - (a - w) → missing_at reading (a - w + i) ≡ false
  measured_before i l =
      let r : w ≤ a = reach_before in
      subst (λ (k : ℕ). missing_at reading k ≡ false) (let z : a - (w - 1 - i + 1) ≡ a - w + i = omega arith in z)
      (whole_before reading a e w h (w - 1 - i) (omega arith)).1

  pub measured_after : (i : ℕ) → i < e + w - e → missing_at reading (e + i) ≡ false
  measured_after i l = (whole_after reading a e w h i (omega arith)).1

  -- what is read there of two rows that agree is the same
  module _ (used corrected : List ℕ) (s : 0 < w) (n : length corrected ≡ length reading) (r : a ≤ length reading) (g : Agree reading used corrected) where
    same_part : (b f : ℕ) → b ≤ f → f ≤ length reading → ((i : ℕ) → i < f - b → missing_at reading (b + i) ≡ false) → cut used b f ≡ cut corrected b f
    same_part b f l m q =
        ext_get_or mark (cut used b f) (cut corrected b f)
        (length-cut used b f l (omega (arith, g.same_length, n)) ∙ sym (length-cut corrected b f l (omega (arith, n))))
        (λ i z. let y : i < f - b = subst (λ (k : ℕ). i < k) (length-cut used b f l (omega (arith, g.same_length, n))) z in
        get_or-cut used b f i mark y ∙ g.same (b + i) (q i y) ∙ sym (get_or-cut corrected b f i mark y))

    pub same_windows : window_values used a e w ≡ window_values corrected a e w
    unfolding window_values
    same_windows =
        ap₂ ◌++◌
        (same_part (a - w) a (omega arith) r measured_before)
        (same_part e (e + w) (omega arith) (reach_after s) measured_after)

  -- the windows' values are no more than what measured values are
  module _ (corrected : List ℕ) (b : ℕ) (s : 0 < w) (r : a ≤ length reading) (g : Goes reading corrected b) where
    low_part : (p f : ℕ) → p ≤ f → f ≤ length reading → ((i : ℕ) → i < f - p → missing_at reading (p + i) ≡ false) → Low b (cut corrected p f)
    low_part p f l m q =
        record {
          low = λ k z.
              let len : length (cut corrected p f) ≡ f - p = length-cut corrected p f l (omega (arith, g.same_length)) in
              let y : k < f - p = subst (λ (x : ℕ). k < x) len z in
              subst (λ (x : ℕ). x ≤ b)
              (sym (get_or-cut corrected p f k mark y) ∙ get_or_inside (cut corrected p f) k mark 0 z)
              (g.most (p + k) (q k y));
        }

    pub low_before : Low b (cut corrected (a - w) a)
    low_before = low_part (a - w) a (omega arith) r measured_before

    pub low_after : Low b (cut corrected e (e + w))
    low_after = low_part e (e + w) (omega arith) (reach_after s) measured_after

-- ---- the lines of the table

abbrev pub line : ℕ → Rule → Option (ℕ × Rule)
line w rule = Some (w, rule)

pub record Fits (w : ℕ) (rule : Rule) : Type 0 where
  pub some : 0 < w
  pub few : w ≤ width95
  pub mean : rule ≡ Mean → w ≡ mean_width
  pub limit : (z : ℕ) → rule ≡ Limit z → z ≤ z95

-- a class is one width and one rule
line_is : {w v : ℕ} {rule other : Rule} → line w rule ≡ line v other → (w ≡ v) × (rule ≡ other)
line_is {w} {v} {rule} {other} e =
    let p : ◌≡◌ {A = ℕ × Rule} (w, rule) (v, other) = cc in
    (ap (λ (x : ℕ × Rule). x.0) p, ap (λ (x : ℕ × Rule). x.1) p)

not_limit : {z : ℕ} → Mean ≡ Limit z → ⊥
not_limit q = let x : ◌≡◌ {A = ℕ} 0 1 = cc in omega arith

pub class_fits : (gap w : ℕ) (rule : Rule) → line w rule ≡ class_of gap → Fits w rule
unfolding class_of
class_fits gap w rule e = go (leb gap 23) (leb gap 95) (leb gap 672) e
  where
    limited : (v y : ℕ) → 0 < v → v ≤ width95 → y ≤ z95 → line w rule ≡ line v (Limit y) → Fits w rule
    limited v y s f m q =
        let n = line_is q in
        record {
          some = omega arith;
          few = omega arith;
          mean = λ r. absurd (not_limit (sym r ∙ n.1));
          limit = λ z r. let t : Limit z ≡ Limit y = sym r ∙ n.1 in let x : z ≡ y = cc in omega arith;
        }

    go : (p q r : Bool)
        → line w rule ≡ pick p (line mean_width Mean) (pick q (line width90 (Limit z90)) (pick r (line width95 (Limit z95)) None)) → Fits w rule
    go true q r z =
        let n = line_is z in
        record {
          some = omega arith;
          few = omega arith;
          mean = λ y. n.0;
          limit = λ y f. absurd (not_limit (sym n.1 ∙ f));
        }
    go false true r z = limited width90 z90 (omega arith) (omega arith) (omega arith) z
    go false false true z = limited width95 z95 (omega arith) (omega arith) (omega arith) z
    go false false false z = let x : ◌≡◌ {A = ℕ} 0 1 = cc in absurd (let o : ⊥ = omega arith in o)

-- ---- the replacement

-- it is the same for rows that agree wherever a reading is measured
pub same_replacement : (reading used corrected : List ℕ) (a e : ℕ) → length corrected ≡ length reading → a ≤ length reading
    → Agree reading used corrected → replacement_of reading used a e ≡ replacement_of reading corrected a e
unfolding replacement_of
same_replacement reading used corrected a e n r g = go (class_of (e - a)) refl
  where
    found : (w : ℕ) (rule : Rule) → 0 < w → (b : Bool) → whole reading a e w ≡ b
        → pick b (Replaced.by (taken_by rule (tally_of (window_values used a e w)))) (Replaced.excluded not_whole)
        ≡ pick b (Replaced.by (taken_by rule (tally_of (window_values corrected a e w)))) (Replaced.excluded not_whole)
    found w rule s true q =
        ap (λ (xs : List ℕ). Replaced.by (taken_by rule (tally_of xs))) (same_windows reading a e w q used corrected s n r g)
    found w rule s false q = refl

    go : (c : Option (ℕ × Rule)) → c ≡ class_of (e - a) → replaced_in reading used a e c ≡ replaced_in reading corrected a e c
    go None q = refl
    go (Some (w, rule)) q = found w rule (class_fits (e - a) w rule q).some (whole reading a e w) refl

taken_most : (rule : Rule) (b : ℕ) (t : Tally) → t.sum ≤ t.n * b → taken_by rule t ≤ b
taken_most Mean b t h = mean_most t b h
taken_most (Limit z) b t h = limit_most t z b h

-- by the code's evidence of the rule
pub taken_mean : {rule : Rule} {r : ℕ} (t : Tally) → rule ≡ Mean → r ≡ mean_of t → r ≡ taken_by rule t
taken_mean t p q = q ∙ sym (ap (λ (x : Rule). taken_by x t) p)

pub taken_limit : {rule : Rule} {r z : ℕ} (t u : Tally) → rule ≡ Limit z → t ≡ u → r ≡ limit_of t z → r ≡ taken_by rule u
taken_limit {rule} {r} {z} t u p e q = q ∙ ap (λ (x : Tally). limit_of x z) e ∙ sym (ap (λ (x : Rule). taken_by x u) p)

-- a replacement is no more than what measured values are
pub value_most : (reading corrected : List ℕ) (a e w b : ℕ) (rule : Rule) → whole reading a e w ≡ true → 0 < w → a ≤ length reading
    → Goes reading corrected b → taken_by rule (tally_of (window_values corrected a e w)) ≤ b
unfolding window_values
value_most reading corrected a e w b rule h s r g =
    taken_most rule b (tally_of (cut corrected (a - w) a ++ cut corrected e (e + w)))
    (tally_most b (cut corrected (a - w) a ++ cut corrected e (e + w))
    (low_append b (cut corrected (a - w) a) (cut corrected e (e + w))
    (low_before reading a e w h corrected b s r g)
    (low_after reading a e w h corrected b s r g)))

-- ---- a gap whose windows are whole, as the code has it once it has looked at them

pub record Prepared (reading used : List ℕ) (a e w : ℕ) (rule : Rule) : Type 0 where
  pub order : a < e
  pub inside : e ≤ length reading
  pub goes : Goes reading used flow_most
  pub fits : Fits w rule
  pub is_whole : whole reading a e w ≡ true

-- as the code finds it
pub prepared : {reading used : List ℕ} {a e w : ℕ} {rule : Rule} {b : Bool}
    → (a < e) × (e ≤ length reading) × (length reading ≤ intervals_most) × Goes reading used flow_most × (line w rule ≡ class_of (e - a))
    → b ≡ whole reading a e w → b ≡ true → Prepared reading used a e w rule
prepared h r t =
    record { order = h.0; inside = h.1; goes = h.3; fits = class_fits _ _ _ h.4; is_whole = sym r ∙ t }

module _ {reading used : List ℕ} {a e w : ℕ} {rule : Rule} (d : Prepared reading used a e w rule) where
  pub ready_before : w ≤ a
  ready_before = reach_before reading a e w d.is_whole

  pub ready_after : e + w ≤ length used
  ready_after = let z : e + w ≤ length reading = reach_after reading a e w d.is_whole d.fits.some in omega (arith, d.goes.same_length)

  length_before : length (cut used (a - w) a) ≡ w
  length_before =
      let b : w ≤ a = ready_before in
      length-cut used (a - w) a (omega arith) (omega (arith, d.order, d.inside, d.goes.same_length)) ∙ (let z : a - (a - w) ≡ w = omega arith in z)

  length_after : length (cut used e (e + w)) ≡ w
  length_after = length-cut used e (e + w) (omega arith) ready_after ∙ (let z : e + w - e ≡ w = omega arith in z)

  -- what is asked of the two windows before they are summed
  pub ready_windows : Windows (cut used (a - w) a) (cut used e (e + w))
  ready_windows =
      record {
        some = omega (arith, length_before, d.fits.some);
        few_before = omega (arith, length_before, d.fits.few);
        few_after = omega (arith, length_after, d.fits.few);
        low_before = low_before reading a e w d.is_whole used flow_most d.fits.some (omega (arith, d.order, d.inside)) d.goes;
        low_after = low_after reading a e w d.is_whole used flow_most d.fits.some (omega (arith, d.order, d.inside)) d.goes;
      }

  -- and where their mean is taken
  pub ready_mean : rule ≡ Mean
      → (length (cut used (a - w) a) ≡ mean_width) × (length (cut used e (e + w)) ≡ mean_width)
      × Low flow_most (cut used (a - w) a) × Low flow_most (cut used e (e + w))
  ready_mean q =
      (length_before ∙ d.fits.mean q, length_after ∙ d.fits.mean q, ready_windows.low_before, ready_windows.low_after)

  -- what is taken of the windows is the replacement, and is in range
  pub ready_value : (r : ℕ) → r ≡ taken_by rule (tally_of (cut used (a - w) a ++ cut used e (e + w)))
      → (Some r ≡ pick (whole reading a e w) (Some (taken_by rule (tally_of (window_values used a e w)))) None) × (r ≤ flow_most)
  unfolding window_values
  ready_value r q = (
    ap Some q
        ∙ sym (ap (λ (b : Bool). pick b (Some (taken_by rule (tally_of (cut used (a - w) a ++ cut used e (e + w))))) None) d.is_whole),
    subst (λ (x : ℕ). x ≤ flow_most) (sym q)
        (value_most reading used a e w flow_most rule d.is_whole d.fits.some (omega (arith, d.order, d.inside)) d.goes),
  )

-- ---- what comes of an interval: a value in range, or one of two outcomes

pub record Bounded (b : ℕ) (r : Replaced) : Type 0 where
  pub value : (v : ℕ) → r ≡ Replaced.by v → v ≤ b
  pub outcome : (o : ℕ) → r ≡ Replaced.excluded o → (too_long ≤ o) × (o ≤ not_whole)

by_bounded : (b v : ℕ) → v ≤ b → Bounded b (Replaced.by v)
by_bounded b v l =
    record {
      value = λ x q. let z : v ≡ x = cc in omega arith;
      outcome = λ o q. let z : ◌≡◌ {A = ℕ} 0 1 = cc in absurd (let n : ⊥ = omega arith in n);
    }

excluded_bounded : (b k : ℕ) → too_long ≤ k → k ≤ not_whole → Bounded b (Replaced.excluded k)
excluded_bounded b k l m =
    record {
      value = λ v q. let z : ◌≡◌ {A = ℕ} 0 1 = cc in absurd (let n : ⊥ = omega arith in n);
      outcome = λ o q. let z : k ≡ o = cc in (omega arith, omega arith);
    }

pub replacement_bounded : (reading corrected : List ℕ) (i b : ℕ) → i < length reading → Goes reading corrected b
    → Bounded b (replacement_at reading corrected i)
unfolding replacement_at replacement_of
replacement_bounded reading corrected i b l g = go (class_of (y - x)) refl
  where
    x : ℕ
    x = gap_start reading i

    y : ℕ
    y = gap_end reading i

    found : (w : ℕ) (rule : Rule) → 0 < w → (q : Bool) → whole reading x y w ≡ q
        → Bounded b (pick q (Replaced.by (taken_by rule (tally_of (window_values corrected x y w)))) (Replaced.excluded not_whole))
    found w rule s true f =
        by_bounded b _ (value_most reading corrected x y w b rule f s (let n = start_least reading i in omega arith) g)
    found w rule s false f = excluded_bounded b not_whole (omega arith) (omega arith)

    go : (c : Option (ℕ × Rule)) → c ≡ class_of (y - x) → Bounded b (replaced_in reading corrected x y c)
    go None f = excluded_bounded b too_long (omega arith) (omega arith)
    go (Some (w, rule)) f = found w rule (class_fits (y - x) w rule f).some (whole reading x y w) refl

-- ---- the cases of the code

pub replaced_not : (b : Bool) (v : ℕ) → b ≡ false → None ≡ pick b (Some v) None
replaced_not b v q = sym (ap (λ (t : Bool). pick t (Some v) None) q)

module _ (reading corrected : List ℕ) (a e : ℕ) where
  pub held_long : None ≡ class_of (e - a) → excluding + too_long ≡ held_for (replacement_of reading corrected a e)
  unfolding held_for replacement_of
  held_long q = ap (λ (c : Option (ℕ × Rule)). held_for (replaced_in reading corrected a e c)) q

  module _ (w : ℕ) (rule : Rule) (q : line w rule ≡ class_of (e - a)) where
    held_by : held_for (replaced_in reading corrected a e (line w rule)) ≡ held_for (replacement_of reading corrected a e)
    unfolding replacement_of
    held_by = ap (λ (c : Option (ℕ × Rule)). held_for (replaced_in reading corrected a e c)) q

    pub held_not : None ≡ pick (whole reading a e w) (Some (taken_by rule (tally_of (window_values corrected a e w)))) None
        → excluding + not_whole ≡ held_for (replacement_of reading corrected a e)
    unfolding held_for
    held_not r = go (whole reading a e w) (taken_by rule (tally_of (window_values corrected a e w))) r ∙ held_by
      where
        go : (b : Bool) (x : ℕ) → None ≡ pick b (Some x) None → excluding + not_whole ≡ held_for (pick b (Replaced.by x) (Replaced.excluded not_whole))
        go true x z = let y : ◌≡◌ {A = ℕ} 0 1 = cc in absurd (let n : ⊥ = omega arith in n)
        go false x z = refl

    pub held_value : (v : ℕ) → Some v ≡ pick (whole reading a e w) (Some (taken_by rule (tally_of (window_values corrected a e w)))) None
        → v ≡ held_for (replacement_of reading corrected a e)
    unfolding held_for
    held_value v r = go (whole reading a e w) (taken_by rule (tally_of (window_values corrected a e w))) r ∙ held_by
      where
        go : (b : Bool) (x : ℕ) → Some v ≡ pick b (Some x) None → v ≡ held_for (pick b (Replaced.by x) (Replaced.excluded not_whole))
        go true x z = cc
        go false x z = let y : ◌≡◌ {A = ℕ} 0 1 = cc in absurd (let n : ⊥ = omega arith in n)
