-- The walk over an instrument's checks that corrects a row: its invariant, with start, steps and end.
-- Assumes nothing.
use Prim.Native.Nat.{ℕ, ◌+◌, ◌-◌, ◌≤◌, ◌<◌, ◌^◌, max}
use mathlib.Core.Path.{◌≡◌, refl, sym, ap, ap₂, ◌∙◌, subst}
use mathlib.Core.Bool.{Bool, true, false}
use mathlib.Core.List.{List, ◌++◌}
use mathlib.Core.Logic.{◌⊎◌, inl, inr, ⊎_elim}
use native.Mathlib.Nat.{lt_of_not-le, le_refl, eq-or-lt_of_le, max-eq_left, add-max-add_right}
use native.Mathlib.Numerals.{add-one}
use native.Mathlib.Decide.{dec_le}
use native.Mathlib.Omega.{arith}
use lib.Dec.{leb}
use lib.IntN.{ℤ, pos, negsuc}
use lib.Signed.{mag}
use mir.Syntax.{w32}
use mir.Val.{to_z, of_z}
use mir.Facts.{to_z-of_z}
use lib.ListN.{length, drop, set}
use borrow.Author.Tests.{le-leb, lt-leb}
use Rattle.rows.specs.Rows.{pick, both, build, Continued}
use Rattle.rows.proofs.Laws.{build_done}
use Rattle.rows.proofs.Fill.{continued_more}
use Rattle.protocol.specs.Ranges.{raised}
use Rattle.drainage_drift.specs.Drift.{Instrument, within, position_of, drift_of, passes, excess, max_to, stretch_drift, kept_or, corrected_at, Ordered}
use Rattle.drainage_drift.specs.Drift.{PassedAt}
use Rattle.drainage_drift.proofs.Laws.{max_to-cut, max_to_zero, excess_passed, pick_zero}
use Rattle.drainage_drift.proofs.Stretches.{excess_in, stretch_drift_lem}
use Rattle.rows.proofs.Truth.{clash}

both_true : (a : Bool) → both a true ≡ a
both_true true = refl
both_true false = refl

both_false : (a : Bool) → both a false ≡ false
both_false true = refl
both_false false = refl

-- the code's reads of a drift, whose bits it takes and reads as signed again
module _ (z : ℤ) (h : mag z < 2 ^ 31) where
  read_back : to_z w32 (of_z w32 z) ≡ z
  read_back = to_z-of_z {w = w32} {z = z} (record { sfits = h })

  pub read_passes : (r b : Bool) → r ≡ within (to_z w32 (of_z w32 z)) → r ≡ b → within z ≡ b
  read_passes r b e f = sym (ap within read_back) ∙ sym e ∙ f

  pub read_greater : (a r s : ℕ) → r ≡ raised 10000 (to_z w32 (of_z w32 z)) → s ≡ max a r → s ≡ max a (raised 10000 z)
  read_greater a r s e f = f ∙ ap (max a) (e ∙ ap (raised 10000) read_back)

-- the greater of two divisors is that of the greater drift, and a drift below 0 counts as 0
raised_max : (a : ℕ) (z : ℤ) → max (a + 10000) (raised 10000 z) ≡ max a (raised 0 z) + 10000
raised_max a (pos n) = add-max-add_right a n 10000 ∙ ap (λ (m : ℕ). max a m + 10000) (let w : n ≡ n + 0 = omega arith in w)
raised_max a (negsuc n) =
    max-eq_left (let w : 10000 - (n + 1) ≤ a + 10000 = omega arith in w)
    ∙ ap (λ (m : ℕ). m + 10000) (sym (max-eq_left (let w : 0 - (n + 1) ≤ a = omega arith in w)))

-- one store of the writer of a stretch
pub stored : (a i v : ℕ) (g : ℕ → ℕ) (old new : List ℕ) → a ≤ i → i < length old → v ≡ g i → Continued a i g old new
    → Continued a (i + 1) g old (set new i v)
stored a i v g old new l m e c =
    subst (λ (w : ℕ). Continued a (i + 1) g old (set new i w)) (sym e) (continued_more a i g old new l m c)

-- a divisor of 10,000 takes nothing out
pub undivided : (e : ℕ) (reading : List ℕ) {a z : ℕ} {old new : List ℕ} → e ≡ 10000 → Continued a z (kept_or 0 reading) old new
    → Continued a z (kept_or (e - 10000) reading) old new
undivided e reading {a} {z} {old} {new} h c =
    subst (λ (d : ℕ). Continued a z (kept_or d reading) old new) (let w : 0 ≡ e - 10000 = omega arith in w) c

-- by how much check m reads high, if it stands at or after start
abbrev pub excess_from : Instrument → ℕ → ℕ → ℕ
excess_from c start m = pick (leb start (position_of c m)) (excess c m) 0

-- j checks are walked, the row is corrected up to start, where the open stretch begins, and the divisor is 10,000 and the greatest
-- excess that was met in it
pub record Walked (c : Instrument) (reading old used : List ℕ) (j start divisor : ℕ) : Type 0 where
  pub ordered : Ordered c (length reading)
  pub counted : j ≤ c.count
  pub opens : (start ≡ 0) ⊎ PassedAt c start
  pub behind : (m : ℕ) → m < j → passes c m ≡ true → position_of c m ≤ start
  pub ahead : (m : ℕ) → j ≤ m → m < c.count → start ≤ position_of c m
  pub inside : start ≤ length reading
  pub greatest : divisor ≡ max_to j (excess_from c start) + 10000
  pub grown : used ≡ build start (corrected_at c reading) ++ drop start old
  pub same_length : length used ≡ length reading
  pub old_length : length old ≡ length reading

module _ (c : Instrument) (reading old : List ℕ) where
  module _ (used : List ℕ) (j start divisor : ℕ) (x : Walked c reading old used j start divisor) where
    -- a failed check's drift, where the check stands in the open stretch
    met : j < c.count → passes c j ≡ false → raised 0 (drift_of c j) ≡ excess_from c start j
    met l e =
        sym (ap₂ (λ (a b : Bool). pick a (pick b 0 (raised 0 (drift_of c j))) 0) (le-leb start (position_of c j) (x.ahead j (le_refl j) l)) e)

    pub walked_failed : (r : ℕ) → j < c.count → passes c j ≡ false → r ≡ max divisor (raised 10000 (drift_of c j))
        → Walked c reading old used (j + 1) start r
    walked_failed r l e q =
        record {
          ordered = x.ordered;
          counted = omega arith;
          opens = x.opens;
          behind = λ m h p. ⊎_elim (λ y. clash p (ap (passes c) y ∙ e)) (λ s. x.behind m s p) (eq-or-lt_of_le (let w : m ≤ j = omega arith in w));
          ahead = λ m h p. x.ahead m (omega arith) p;
          inside = x.inside;
          greatest = q ∙ ap (λ (d : ℕ). max d (raised 10000 (drift_of c j))) x.greatest
              ∙ raised_max (max_to j (excess_from c start)) (drift_of c j)
              ∙ ap (λ (d : ℕ). max (max_to j (excess_from c start)) d + 10000) (met l e)
              ∙ ap (λ (m : ℕ). max_to m (excess_from c start) + 10000) (sym (add-one j));
          grown = x.grown;
          same_length = x.same_length;
          old_length = x.old_length;
        }

  module _ (used new : List ℕ) (j start divisor : ℕ) (x : Walked c reading old used j start divisor) where
    -- where the open stretch closes at t, the divisor has the drift of its intervals
    closed : (t : ℕ) → (t ≡ length reading) ⊎ PassedAt c t
        → ((m : ℕ) → m < j → position_of c m ≤ t)
        → ((m : ℕ) → j ≤ m → m < c.count → (t ≤ position_of c m) × ((passes c m ≡ true) ⊎ (t < position_of c m)))
        → (i : ℕ) → start ≤ i → i < t → stretch_drift c i ≡ divisor - 10000
    closed t z below above i low high =
        stretch_drift_lem c (length reading) start t i x.ordered
        (record { some = omega (arith, low, high); opens = x.opens; closes = z; uncut = uncut })
        low high
        ∙ max_to-cut c.count j (excess_in c start t) (excess_from c start) x.counted near far
        ∙ (let q = x.greatest in let w : max_to j (excess_from c start) ≡ divisor - 10000 = omega arith in w)
      where
        uncut : (m : ℕ) → m < c.count → passes c m ≡ true → start < position_of c m → position_of c m < t → ⊥
        uncut m l e a b =
            elim (dec_le j m) [
              | yes h ↦ (let w : t ≤ position_of c m = (above m h l).0 in omega arith)
              | no h ↦ (let w : position_of c m ≤ start = x.behind m (lt_of_not-le h) e in omega arith)
            ]

        near : (m : ℕ) → m < j → excess_in c start t m ≡ excess_from c start m
        near m h = ap (λ (b : Bool). pick b (excess c m) 0)
            (ap (both (leb start (position_of c m))) (le-leb (position_of c m) t (below m h)) ∙ both_true (leb start (position_of c m)))

        far : (m : ℕ) → j ≤ m → m < c.count → excess_in c start t m ≡ 0
        far m h l =
            ⊎_elim
            (λ e. pick_zero (both (leb start (position_of c m)) (leb (position_of c m) t)) (excess c m) (excess_passed c m e))
            (λ k. ap (λ (b : Bool). pick b (excess c m) 0)
            (ap (both (leb start (position_of c m))) (lt-leb (position_of c m) t k) ∙ both_false (leb start (position_of c m))))
            (above m h l).1

    -- what the writer of the open stretch up to t leaves
    written : (t : ℕ) → ((i : ℕ) → start ≤ i → i < t → stretch_drift c i ≡ divisor - 10000) → Continued start t (kept_or (divisor - 10000) reading) used new
        → new ≡ build t (corrected_at c reading) ++ drop t old
    unfolding corrected_at
    written t e k =
        k.continued (corrected_at c reading) old (x.old_length ∙ sym x.same_length)
        (λ i a b. ap (λ (d : ℕ). kept_or d reading i) (e i a b)) x.grown

    pub walked_passed : j < c.count → passes c j ≡ true → Continued start (position_of c j) (kept_or (divisor - 10000) reading) used new
        → Walked c reading old new (j + 1) (position_of c j) 10000
    walked_passed l e k =
        record {
          ordered = x.ordered;
          counted = omega arith;
          opens = inr here;
          behind = λ m h p. ⊎_elim (λ q. ap_le m q) (λ s. let w = x.ordered.rising m j s l in omega arith) (up_to m h);
          ahead = λ m h p. let w = x.ordered.rising j m (omega arith) p in omega arith;
          inside = x.ordered.inside j l;
          greatest = let q = max_to_zero (j + 1) (excess_from c (position_of c j)) none in omega arith;
          grown = written (position_of c j) (closed (position_of c j) (inr here) (λ m s. let w = x.ordered.rising m j s l in omega arith) above) k;
          same_length = k.same_length ∙ x.same_length;
          old_length = x.old_length;
        }
      where
        here : PassedAt c (position_of c j)
        here = record { check = j; counted = l; passed = e; here = refl }

        up_to : (m : ℕ) → m < j + 1 → (m ≡ j) ⊎ (m < j)
        up_to m h = eq-or-lt_of_le (let w : m ≤ j = omega arith in w)

        ap_le : (m : ℕ) → m ≡ j → position_of c m ≤ position_of c j
        ap_le m q = let w = ap (position_of c) q in omega arith

        none : (m : ℕ) → m < j + 1 → excess_from c (position_of c j) m ≡ 0
        none m h =
            ⊎_elim
            (λ q. pick_zero (leb (position_of c j) (position_of c m)) (excess c m) (excess_passed c m (ap (passes c) q ∙ e)))
            (λ s. ap (λ (b : Bool). pick b (excess c m) 0) (lt-leb (position_of c j) (position_of c m) (x.ordered.rising m j s l)))
            (up_to m h)

        above : (m : ℕ) → j ≤ m → m < c.count → (position_of c j ≤ position_of c m) × ((passes c m ≡ true) ⊎ (position_of c j < position_of c m))
        above m h p =
            ⊎_elim
            (λ q. (let w = ap (position_of c) q in omega arith, inl (ap (passes c) (sym q) ∙ e)))
            (λ s. (let w = x.ordered.rising j m s p in omega arith, inr (x.ordered.rising j m s p)))
            (eq-or-lt_of_le h)

    pub walked_all : c.count ≤ j → Continued start (length reading) (kept_or (divisor - 10000) reading) used new
        → new ≡ build (length reading) (corrected_at c reading)
    walked_all l k =
        written (length reading)
        (closed (length reading) (inl refl)
        (λ m s. x.ordered.inside m (let w = x.counted in omega arith))
        (λ m h p. absurd (let w : ⊥ = omega arith in w))) k
        ∙ build_done (length reading) (corrected_at c reading) old x.old_length
