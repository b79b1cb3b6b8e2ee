-- What field checks of an instrument make of its readings (section 6 of docs/RULES.md). First the rule, then the form that
-- computes it.
-- Assumes nothing.
use Rattle.std.specs.Prelude.{ℕ, zero, suc, ◌+◌, ◌*◌, ◌/◌, ◌≤◌, ◌<◌, max, ◌≡◌, refl, Bool, true, false, not, List, [], ◌∷◌, ◌⊎◌, ltb, leb, ℤ, pos, negsuc, neg_ℤ, length, get_or, ◌≤ℤ◌}
use Rattle.rows.specs.Rows.{pick, both, either, every}
use Rattle.protocol.specs.Ranges.{checks_most, between, raised, missing, mark}

-- ---- The rule

-- an instrument's checks (rule 3.7): how many there are, and the places kept for them
pub record Instrument : Type 0 where
  pub count : ℕ
  pub positions : List ℕ
  pub drifts : List ℤ

-- check j stands before the interval of its position, or at the record's end; it read high by its drift, in 0.01 % (rule 3.8)
abbrev pub position_of : Instrument → ℕ → ℕ
position_of c j = get_or c.positions j 0

abbrev pub drift_of : Instrument → ℕ → ℤ
drift_of c j = get_or c.drifts j (pos 0)

-- what a record of n intervals has of an instrument's checks once it is not refused (rules 3.7 to 3.9)
pub record Ordered (c : Instrument) (n : ℕ) : Type 0 where
  pub few : c.count ≤ checks_most
  pub positions_kept : length c.positions ≡ checks_most
  pub drifts_kept : length c.drifts ≡ checks_most
  pub inside : (j : ℕ) → j < c.count → position_of c j ≤ n
  pub rising : (j k : ℕ) → j < k → k < c.count → position_of c j < position_of c k

-- Rule 6.1: a check passes up to this drift, of either sign; any other fails
abbrev pub passing : ℕ
passing = 499

abbrev pub within : ℤ → Bool
within d = between (neg_ℤ (pos passing)) (pos passing) d

abbrev pub passes : Instrument → ℕ → Bool
passes c j = within (drift_of c j)

-- a passed check stands at p
pub record PassedAt (c : Instrument) (p : ℕ) : Type 0 where
  pub check : ℕ
  pub counted : check < c.count
  pub passed : passes c check ≡ true
  pub here : position_of c check ≡ p

-- Rule 6.3: passed checks and the two ends of the record, 0 and n, cut the record into stretches. One of them goes from s up to,
-- and without, t: a cut at either end and none between.
pub record Stretch (c : Instrument) (n s t : ℕ) : Type 0 where
  pub some : s < t
  pub opens : (s ≡ 0) ⊎ PassedAt c s
  pub closes : (t ≡ n) ⊎ PassedAt c t
  pub uncut : (m : ℕ) → m < c.count → passes c m ≡ true → s < position_of c m → position_of c m < t → ⊥

-- Rule 6.4: a failed check with drift d belongs to the stretch from s to t, one at the record's end to the last
pub record FailedIn (c : Instrument) (s t : ℕ) (d : ℤ) : Type 0 where
  pub check : ℕ
  pub counted : check < c.count
  pub failed : passes c check ≡ false
  pub after : s ≤ position_of c check
  pub before : position_of c check ≤ t
  pub has : drift_of c check ≡ d

-- Rule 6.5: d is the greatest drift of the stretch's failed checks, signs included
pub record Greatest (c : Instrument) (s t : ℕ) (d : ℤ) : Type 0 where
  pub met : FailedIn c s t d
  pub most : (e : ℤ) → FailedIn c s t e → e ≤ℤ d

-- 100 % in 0.01 %
abbrev pub full : ℕ
full = 10000

-- a value without a drift of d, rounded down
unfoldable pub corrected : ℕ → ℕ → ℕ
corrected d v = v * full / (full + d)

-- Rule 6.6: the value v of the stretch becomes w. It is corrected if the greatest drift is above 0, and else it stays: where that
-- is 0 or less, and where no check failed.
pub record Becomes (c : Instrument) (s t v w : ℕ) : Type 0 where
  pub lowered : (d : ℕ) → 0 < d → Greatest c s t (pos d) → w ≡ corrected d v
  pub stays : ((d : ℕ) → 0 < d → Greatest c s t (pos d) → ⊥) → w ≡ v

-- Rules 6.6 and 6.7: the reading at interval i of a record of n intervals becomes w
pub record Corrected (c : Instrument) (n : ℕ) (reading : List ℕ) (i w : ℕ) : Type 0 where
  pub marked : missing (get_or reading i mark) ≡ true → w ≡ mark
  pub measured : missing (get_or reading i mark) ≡ false → (s t : ℕ) → Stretch c n s t → s ≤ i → i < t → Becomes c s t (get_or reading i mark) w

-- ---- The computing form, which code and examples use. proofs/Stretches.antt has that it is the same: each interval lies in one
-- stretch (`stretch_around`, `stretch_unique`); `corrected_at` is what `Corrected` says (`corrected_is`), and nothing else is
-- (`corrected_of`).

-- a passed check at p parts interval i from a check at q if it lies between them
abbrev pub parts : ℕ → ℕ → ℕ → Bool
parts p q i = either (both (ltb q p) (leb p i)) (both (ltb i p) (ltb p q))

-- check j and interval i lie in one stretch: no passed check parts them
unfoldable pub together : Instrument → ℕ → ℕ → Bool
together c j i = every c.count (λ m. not (both (passes c m) (parts (position_of c m) (position_of c j) i)))

-- by how much a failed check reads high: a drift of 0 or less corrects nothing, so it counts as 0
abbrev pub excess : Instrument → ℕ → ℕ
excess c j = pick (passes c j) 0 (raised 0 (drift_of c j))

-- the greatest of f 0, .., f (n - 1), or 0
abbrev pub max_to : ℕ → (ℕ → ℕ) → ℕ
max_to zero f = 0
max_to (suc n) f = max (max_to n f) (f n)

-- the greatest drift of the failed checks of interval i's stretch, or 0 where that is not above 0
unfoldable pub stretch_drift : Instrument → ℕ → ℕ
stretch_drift c i = max_to c.count (λ j. pick (together c j i) (excess c j) 0)

-- the reading at interval i with a drift of d taken out; at 0 it is the reading
unfoldable pub kept_or : ℕ → List ℕ → ℕ → ℕ
kept_or d reading i = pick (missing (get_or reading i mark)) mark (corrected d (get_or reading i mark))

unfoldable pub corrected_at : Instrument → List ℕ → ℕ → ℕ
corrected_at c reading i = kept_or (stretch_drift c i) reading i

-- ---- Examples

-- one check at interval 2 with this drift, and the value 1,000 at interval 0
one_check : ℤ → ℕ
one_check d = corrected_at (record { count = 1; positions = 2 ∷ []; drifts = d ∷ [] }) (1000 ∷ 1000 ∷ 1000 ∷ []) 0

-- 499 passes, 500 fails, and -600 corrects nothing
passed_stays : one_check (pos 499) ≡ 1000
unfolding one_check corrected_at kept_or corrected stretch_drift together
passed_stays = refl

high_falls : one_check (pos 500) ≡ 952
unfolding one_check corrected_at kept_or corrected stretch_drift together
high_falls = refl

low_stays : one_check (negsuc 599) ≡ 1000
unfolding one_check corrected_at kept_or corrected stretch_drift together
low_stays = refl

-- of 500 and -9,000 it is 500
two_checks : ℤ → ℤ → ℕ → ℕ
two_checks d e i = stretch_drift (record { count = 2; positions = 1 ∷ 3 ∷ []; drifts = d ∷ e ∷ [] }) i

greatest : two_checks (pos 500) (negsuc 8999) 0 ≡ 500
unfolding two_checks stretch_drift together
greatest = refl

-- a passed check at 1 parts interval 0 from the failed check at 3, and interval 1 not
parted : two_checks (pos 0) (pos 700) 0 ≡ 0
unfolding two_checks stretch_drift together
parted = refl

beside : two_checks (pos 0) (pos 700) 1 ≡ 700
unfolding two_checks stretch_drift together
beside = refl
