-- The rule and its computing form are the same: an interval lies in one stretch, the drift taken out of it is the greatest of that
-- stretch's failed checks, and its corrected value is what the rule says, and nothing else.
-- Assumes nothing.
use Prim.Native.Nat.{ℕ, zero, suc, ◌+◌, ◌-◌, ◌≤◌, ◌<◌}
use mathlib.Core.Path.{◌≡◌, refl, sym, ap, ap₂, ◌∙◌, subst}
use mathlib.Core.Bool.{Bool, true, false, not}
use mathlib.Core.List.{List}
use mathlib.Core.Logic.{◌⊎◌, inl, inr, ⊎_elim}
use native.Mathlib.Nat.{lt_of_not-le, le_of_suc-le-suc, le_refl, le_antisymm, eq-or-lt_of_le, not-suc-le-zero}
use native.Mathlib.Decide.{dec_le}
use native.Mathlib.Omega.{arith}
use lib.Dec.{ltb, leb, leb→le, le→leb}
use lib.IntN.{ℤ, pos, negsuc}
use lib.ListN.{get_or}
use lib.Signed.{◌≤ℤ◌}
use borrow.Author.Tests.{ltb-true, leb-true, lt-ltb, le-ltb, le-leb, lt-leb}
use Rattle.rows.specs.Rows.{pick, both, either}
use Rattle.rows.proofs.Laws.{every_all, every_fails}
use Rattle.protocol.specs.Ranges.{raised, missing, mark}
use Rattle.drainage_drift.specs.Drift.{Instrument, position_of, drift_of, passes, Ordered, PassedAt, Stretch, FailedIn, Greatest, Becomes, Corrected}
use Rattle.drainage_drift.specs.Drift.{corrected, parts, together, excess, max_to, stretch_drift, corrected_at}
use Rattle.drainage_drift.proofs.Laws.{max_to_ext, max_to_most, max_to_met, excess_passed, pick_zero, corrected_none, at_missing, at_measured}
use Rattle.rows.proofs.Truth.{clash}

-- by how much a check of the stretch from s to t reads high
abbrev pub excess_in : Instrument → ℕ → ℕ → ℕ → ℕ
excess_in c s t j = pick (both (leb s (position_of c j)) (leb (position_of c j) t)) (excess c j) 0

-- ---- what a passed check parts

parts_after_lem : (p q i : ℕ) → q < p → p ≤ i → parts p q i ≡ true
parts_after_lem p q i l m = simp (lt-ltb q p l, le-leb p i m)

parts_before : (p q i : ℕ) → i < p → p < q → parts p q i ≡ true
parts_before p q i l m = simp (le-ltb q p (omega arith), lt-ltb i p l, lt-ltb p q m)

both_out : (a b : Bool) → (a ≡ true → b ≡ false) → both a b ≡ false
both_out true b h = h refl
both_out false b h = refl

parts_none : (p q i : ℕ) → (q < p → i < p) → (i < p → q ≤ p) → parts p q i ≡ false
parts_none p q i f g =
    ap₂ either
    (both_out (ltb q p) (leb p i) (λ e. lt-leb p i (f (ltb-true q p e))))
    (both_out (ltb i p) (ltb p q) (λ e. le-ltb p q (g (ltb-true i p e))))

-- an order from the absurdity of its contrary
lt_unless : (a b : ℕ) → (b ≤ a → ⊥) → a < b
lt_unless a b f = elim (dec_le b a) [ yes h ↦ absurd (f h) | no n ↦ lt_of_not-le n ]

-- ---- a stretch and the checks

module _ (c : Instrument) (n s t i : ℕ) (o : Ordered c n) (x : Stretch c n s t) (low : s ≤ i) (high : i < t) where
  -- each check from s to t belongs to it (rule 6.4)
  pub together_in : (j : ℕ) → s ≤ position_of c j → position_of c j ≤ t → together c j i ≡ true
  unfolding together
  together_in j a b =
      every_all c.count (λ m. not (both (passes c m) (parts (position_of c m) (position_of c j) i)))
      (λ m l. ap not (both_out (passes c m) (parts (position_of c m) (position_of c j) i)
      (λ e. parts_none (position_of c m) (position_of c j) i
      (λ z. lt_unless i (position_of c m) (λ y. x.uncut m l e (omega arith) (omega arith)))
      (λ z. le_of_suc-le-suc (lt_unless (position_of c j) (suc (position_of c m)) (λ y. x.uncut m l e (omega arith) (omega arith)))))))

  parted : (j : ℕ) (p : ℕ) (w : PassedAt c p) → parts p (position_of c j) i ≡ true → together c j i ≡ false
  unfolding together
  parted j p w e =
      every_fails c.count (λ m. not (both (passes c m) (parts (position_of c m) (position_of c j) i)))
      w.check w.counted
      (ap not (ap₂ both w.passed (ap (λ (r : ℕ). parts r (position_of c j) i) w.here ∙ e)))

  pub together_before : (j : ℕ) → position_of c j < s → together c j i ≡ false
  together_before j h =
      ⊎_elim
      (λ e. absurd (let w : ⊥ = omega arith in w))
      (λ w. parted j s w (parts_after_lem s (position_of c j) i h low))
      x.opens

  pub together_after : (j : ℕ) → j < c.count → t < position_of c j → together c j i ≡ false
  together_after j l h =
      ⊎_elim
      (λ e. absurd (let k = o.inside j l in let w : ⊥ = omega arith in w))
      (λ w. parted j t w (parts_before t (position_of c j) i high h))
      x.closes

  -- a check and an interval of the stretch lie together exactly if the check stands in the stretch
  pub together_is : (j : ℕ) → j < c.count → together c j i ≡ both (leb s (position_of c j)) (leb (position_of c j) t)
  together_is j l =
      elim (dec_le s (position_of c j)) [
        | yes a ↦ elim (dec_le (position_of c j) t) [
          | yes b ↦ together_in j a b ∙ sym (ap₂ both (le-leb s (position_of c j) a) (le-leb (position_of c j) t b))
          | no b ↦ together_after j l (lt_of_not-le b) ∙ sym (ap₂ both (le-leb s (position_of c j) a) (lt-leb (position_of c j) t (lt_of_not-le b)))
        ]
        | no a ↦ together_before j (lt_of_not-le a) ∙ sym (ap (λ (b : Bool). both b (leb (position_of c j) t)) (lt-leb s (position_of c j) (lt_of_not-le a)))
      ]

  pub stretch_drift_lem : stretch_drift c i ≡ max_to c.count (excess_in c s t)
  unfolding stretch_drift
  stretch_drift_lem =
      max_to_ext c.count (λ j. pick (together c j i) (excess c j) 0) (excess_in c s t)
      (λ j l. ap (λ (b : Bool). pick b (excess c j) 0) (together_is j l))

-- ---- the greatest drift of a stretch

-- d is what is taken out: the greatest drift of the failed checks, or 0 where that is not above 0
pub record Taken (c : Instrument) (s t d : ℕ) : Type 0 where
  pub most : (j : ℕ) → j < c.count → passes c j ≡ false → s ≤ position_of c j → position_of c j ≤ t → raised 0 (drift_of c j) ≤ d
  pub met : 0 < d → FailedIn c s t (pos d)

above_none : (z : ℤ) (d : ℕ) → raised 0 z ≡ d → 0 < d → z ≡ pos d
above_none (pos n) d e h = ap pos (let w : n ≡ d = omega arith in w)
above_none (negsuc n) d e h = absurd (let w : ⊥ = omega arith in w)

module _ (c : Instrument) (s t : ℕ) where
  excess_in_lem : (j : ℕ) → leb s (position_of c j) ≡ true → leb (position_of c j) t ≡ true → passes c j ≡ false
      → excess_in c s t j ≡ raised 0 (drift_of c j)
  excess_in_lem j a b f =
      ap₂ (λ (u v : Bool). pick (both u v) (excess c j) 0) a b ∙ ap (λ (u : Bool). pick u 0 (raised 0 (drift_of c j))) f

  -- an excess above 0 in the stretch is a failed check's
  failed_in : (j d : ℕ) → j < c.count → excess_in c s t j ≡ d → 0 < d → FailedIn c s t (pos d)
  failed_in j d l e h = go (leb s (position_of c j)) refl (leb (position_of c j) t) refl (passes c j) refl
    where
      go : (x : Bool) → leb s (position_of c j) ≡ x → (y : Bool) → leb (position_of c j) t ≡ y → (z : Bool) → passes c j ≡ z → FailedIn c s t (pos d)
      go true a true b false f =
          record {
            check = j;
            counted = l;
            failed = f;
            after = leb-true s (position_of c j) a;
            before = leb-true (position_of c j) t b;
            has = above_none (drift_of c j) d (sym (excess_in_lem j a b f) ∙ e) h;
          }
      go true a true b true f =
          let q = pick_zero (both (leb s (position_of c j)) (leb (position_of c j) t)) (excess c j) (excess_passed c j f) in
          absurd (let w : ⊥ = omega arith in w)
      go true a false b z f = absurd (let q = ap₂ (λ (u v : Bool). pick (both u v) (excess c j) 0) a b in let w : ⊥ = omega arith in w)
      go false a y b z f = absurd (let q = ap (λ (u : Bool). pick (both u (leb (position_of c j) t)) (excess c j) 0) a in let w : ⊥ = omega arith in w)

  taken_in : Taken c s t (max_to c.count (excess_in c s t))
  taken_in =
      record {
        most = λ j l f a b. subst (λ (r : ℕ). r ≤ max_to c.count (excess_in c s t))
            (excess_in_lem j (le-leb s (position_of c j) a) (le-leb (position_of c j) t b) f)
            (max_to_most c.count (excess_in c s t) j l);
        met = λ h. let m = max_to_met c.count (excess_in c s t) h in
            failed_in m.place (max_to c.count (excess_in c s t)) m.below m.value h;
      }

  no_less : (d e : ℕ) → Taken c s t d → Taken c s t e → d ≤ e
  no_less d e x y = elim (dec_le d 0) [ yes h ↦ omega arith | no h ↦ met (x.met (lt_of_not-le h)) ]
    where
      met : FailedIn c s t (pos d) → d ≤ e
      met w =
          let q = y.most w.check w.counted w.failed w.after w.before in
          let r = ap (raised 0) w.has in
          omega arith

  pub taken_unique : (d e : ℕ) → Taken c s t d → Taken c s t e → d ≡ e
  taken_unique d e x y = le_antisymm (no_less d e x y) (no_less e d y x)

-- what is taken out of an interval is the greatest drift of its stretch
pub drift_taken : (c : Instrument) (n s t i : ℕ) → Ordered c n → Stretch c n s t → s ≤ i → i < t → Taken c s t (stretch_drift c i)
drift_taken c n s t i o x low high = subst (Taken c s t) (sym (stretch_drift_lem c n s t i o x low high)) (taken_in c s t)

-- ---- each interval lies in a stretch, and in one only

-- cuts around interval i, with none of the first k checks between
pub record Around (c : Instrument) (n i k : ℕ) : Type 0 where
  pub from : ℕ
  pub to : ℕ
  pub opens : (from ≡ 0) ⊎ PassedAt c from
  pub closes : (to ≡ n) ⊎ PassedAt c to
  pub low : from ≤ i
  pub high : i < to
  pub uncut : (m : ℕ) → m < k → passes c m ≡ true → from < position_of c m → position_of c m < to → ⊥

module _ (c : Instrument) (n i : ℕ) where
  -- the next check does not pass, or stands outside
  keep : (k : ℕ) (x : Around c n i k) → (passes c k ≡ true → x.from < position_of c k → position_of c k < x.to → ⊥) → Around c n i (suc k)
  keep k x h =
      record {
        from = x.from;
        to = x.to;
        opens = x.opens;
        closes = x.closes;
        low = x.low;
        high = x.high;
        uncut = λ m l e a b. ⊎_elim
            (λ q. h (ap (passes c) (sym q) ∙ e) (subst (λ (r : ℕ). x.from < position_of c r) q a) (subst (λ (r : ℕ). position_of c r < x.to) q b))
            (λ s. x.uncut m s e a b)
            (eq-or-lt_of_le (le_of_suc-le-suc l));
      }

  around_more : (k : ℕ) → k < c.count → Around c n i k → Around c n i (suc k)
  around_more k l x = go (passes c k) refl
    where
      go : (b : Bool) → passes c k ≡ b → Around c n i (suc k)
      go false e = keep k x (λ p a b. clash p e)
      go true e =
          elim (dec_le (position_of c k) i) [
            | yes h ↦ elim (dec_le (position_of c k) x.from) [
              | yes g ↦ keep k x (λ p a b. omega arith)
              | no g ↦ keep k (record {
                from = position_of c k;
                to = x.to;
                opens = inr (record { check = k; counted = l; passed = e; here = refl });
                closes = x.closes;
                low = h;
                high = x.high;
                uncut = λ m y p a b. x.uncut m y p (let w = lt_of_not-le g in omega arith) b;
              }) (λ p a b. omega arith)
            ]
            | no h ↦ elim (dec_le x.to (position_of c k)) [
              | yes g ↦ keep k x (λ p a b. omega arith)
              | no g ↦ keep k (record {
                from = x.from;
                to = position_of c k;
                opens = x.opens;
                closes = inr (record { check = k; counted = l; passed = e; here = refl });
                low = x.low;
                high = lt_of_not-le h;
                uncut = λ m y p a b. x.uncut m y p a (let w = lt_of_not-le g in omega arith);
              }) (λ p a b. omega arith)
            ]
          ]

  around : (k : ℕ) → k ≤ c.count → i < n → Around c n i k
  around zero l h =
      record {
        from = 0;
        to = n;
        opens = inl refl;
        closes = inl refl;
        low = omega arith;
        high = h;
        uncut = λ m y. absurd (not-suc-le-zero y);
      }
  around (suc k) l h = around_more k l (around k (omega arith) h)

  -- an interval's own stretch
  pub stretch_around : i < n → Around c n i c.count
  stretch_around h = around c.count (le_refl c.count) h

  pub around_stretch : (x : Around c n i c.count) → Stretch c n x.from x.to
  around_stretch x = record { some = omega (arith, x.low, x.high); opens = x.opens; closes = x.closes; uncut = x.uncut }

  module _ (o : Ordered c n) where
    starts_first : (s t r u : ℕ) → Stretch c n s t → Stretch c n r u → s ≤ i → i < t → r ≤ i → r ≤ s
    starts_first s t r u x y a b d =
        le_of_suc-le-suc (lt_unless r (suc s) (λ h.
        ⊎_elim
        (λ e. omega arith)
        (λ w. let p = w.here in x.uncut w.check w.counted w.passed (omega arith) (omega arith))
        y.opens))

    ends_last : (s t r u : ℕ) → Stretch c n s t → Stretch c n r u → s ≤ i → i < t → i < u → t ≤ u
    ends_last s t r u x y a b d =
        le_of_suc-le-suc (lt_unless t (suc u) (λ h.
        ⊎_elim
        (λ e. ⊎_elim
        (λ f. omega arith)
        (λ w. let p = w.here in let q = o.inside w.check w.counted in omega arith)
        x.closes)
        (λ w. let p = w.here in x.uncut w.check w.counted w.passed (omega arith) (omega arith))
        y.closes))

    -- two stretches that hold an interval are the same
    pub stretch_unique : (s t r u : ℕ) → Stretch c n s t → Stretch c n r u → s ≤ i → i < t → r ≤ i → i < u → (s ≡ r) × (t ≡ u)
    stretch_unique s t r u x y a b d e = (
      le_antisymm (starts_first r u s t y x d e a) (starts_first s t r u x y a b d),
      le_antisymm (ends_last s t r u x y a b e) (ends_last r u s t y x d e b),
    )

-- ---- the rule and the computed value

le_raised : (z : ℤ) (d : ℕ) → z ≤ℤ pos d → raised 0 z ≤ d
le_raised (pos n) d h = let w = leb→le n d h.le in omega arith
le_raised (negsuc n) d h = let w : 0 - (n + 1) ≤ d = omega arith in w

raised_le : (z : ℤ) (d : ℕ) → raised 0 z ≤ d → z ≤ℤ pos d
raised_le (pos n) d h = record { le = le→leb n d (omega arith) }
raised_le (negsuc n) d h = record { le = tt }

-- a drift above 0 is the greatest exactly if it is what is taken out
module _ (c : Instrument) (s t d : ℕ) (h : 0 < d) where
  greatest_taken : Greatest c s t (pos d) → Taken c s t d
  greatest_taken g =
      record {
        most = λ j l f a b. le_raised (drift_of c j) d
            (g.most (drift_of c j) (record { check = j; counted = l; failed = f; after = a; before = b; has = refl }));
        met = λ z. g.met;
      }

  taken_greatest : Taken c s t d → Greatest c s t (pos d)
  taken_greatest x =
      record {
        met = x.met h;
        most = λ e w. subst (λ (z : ℤ). z ≤ℤ pos d) w.has
            (raised_le (drift_of c w.check) d (x.most w.check w.counted w.failed w.after w.before));
      }

module _ (c : Instrument) (n s t i : ℕ) (o : Ordered c n) (x : Stretch c n s t) (low : s ≤ i) (high : i < t) where
  taken : Taken c s t (stretch_drift c i)
  taken = drift_taken c n s t i o x low high

  -- whatever the rule makes of a value is the computed one
  becomes_of : (v w : ℕ) → Becomes c s t v w → w ≡ corrected (stretch_drift c i) v
  becomes_of v w b =
      elim (dec_le (stretch_drift c i) 0) [
        | yes h ↦ b.stays (λ d l g. none h d l g) ∙ sym (ap (λ (e : ℕ). corrected e v) (let z : stretch_drift c i ≡ 0 = omega arith in z) ∙ corrected_none v)
        | no h ↦ b.lowered (stretch_drift c i) (lt_of_not-le h) (taken_greatest c s t (stretch_drift c i) (lt_of_not-le h) taken)
      ]
    where
      none : stretch_drift c i ≤ 0 → (d : ℕ) → 0 < d → Greatest c s t (pos d) → ⊥
      none h d l g = let q = taken_unique c s t (stretch_drift c i) d taken (greatest_taken c s t d l g) in omega arith

  -- and the computed one is what the rule makes of it
  becomes_is : (v : ℕ) → Becomes c s t v (corrected (stretch_drift c i) v)
  becomes_is v =
      record {
        lowered = λ d h g. ap (λ (e : ℕ). corrected e v) (taken_unique c s t (stretch_drift c i) d taken (greatest_taken c s t d h g));
        stays = λ f. elim (dec_le (stretch_drift c i) 0) [
          | yes h ↦ ap (λ (e : ℕ). corrected e v) (let z : stretch_drift c i ≡ 0 = omega arith in z) ∙ corrected_none v
          | no h ↦ absurd (f (stretch_drift c i) (lt_of_not-le h) (taken_greatest c s t (stretch_drift c i) (lt_of_not-le h) taken))
        ];
      }

-- the computed reading is what the rule says
pub corrected_is : (c : Instrument) (n : ℕ) (reading : List ℕ) (i : ℕ) → Ordered c n → Corrected c n reading i (corrected_at c reading i)
corrected_is c n reading i o =
    record {
      marked = at_missing c reading i;
      measured = λ e s t x low high. subst (Becomes c s t (get_or reading i mark)) (sym (at_measured c reading i e))
          (becomes_is c n s t i o x low high (get_or reading i mark));
    }

-- whatever the rule says is the computed reading
pub corrected_of : (c : Instrument) (n : ℕ) (reading : List ℕ) (i w : ℕ) → Ordered c n → i < n → Corrected c n reading i w
    → w ≡ corrected_at c reading i
corrected_of c n reading i w o h x = go (missing (get_or reading i mark)) refl
  where
    go : (b : Bool) → missing (get_or reading i mark) ≡ b → w ≡ corrected_at c reading i
    go true e = x.marked e ∙ sym (at_missing c reading i e)
    go false e =
        let a = stretch_around c n i h in
        let z = around_stretch c n i a in
        becomes_of c n a.from a.to i o z a.low a.high (get_or reading i mark) w (x.measured e a.from a.to z a.low a.high)
        ∙ sym (at_measured c reading i e)
