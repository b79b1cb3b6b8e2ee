-- Steps of the order of test, and what a list of them answers. Each call has its own list (rule 5.1); this holds of any.
-- Assumes nothing.
use Rattle.std.specs.Prelude.{ℕ, ◌<◌, ◌≡◌, Bool, false, List, [], ◌∷◌, ltb, Result, Ok, Err}
use Rattle.rows.specs.Rows.{pick, first, FirstOf}
use Rattle.refusals.specs.declared.Refusal.{Refusal}
use Rattle.refusals.specs.declared.Told.{Told}
use Rattle.refusals.specs.Table.{told_of, nothing}

-- a step looks at so many things, one after the other; a bad one is refused by what names it
pub record Step : Type 0 where
  pub size : ℕ
  pub bad : ℕ → Bool
  pub refusal : ℕ → Refusal

-- the first thing that a step finds bad, or its size
abbrev pub offender : Step → ℕ
offender s = first s.size s.bad

-- rules 5.2 and 5.3: the first step with a bad thing refuses by its first one, and what no step refuses is answered with Ok
unfoldable pub verdict_of : List Step → Result Unit Refusal
verdict_of [] = Ok tt
verdict_of (s ∷ ss) = pick (ltb (offender s) s.size) (Err (s.refusal (offender s))) (verdict_of ss)

-- of one step alone
abbrev pub step_verdict : Step → Result Unit Refusal
step_verdict s = verdict_of (s ∷ [])

-- ---- the same as facts, for a reader who doubts the computation

-- a step that finds nothing wrong
pub record Clear (s : Step) : Type 0 where
  pub clear : (k : ℕ) → k < s.size → s.bad k ≡ false

-- no step finds anything wrong
pub data AllClear : List Step → Type 0 where
  none : AllClear []
  more : {s : Step} {ss : List Step} → Clear s → AllClear ss → AllClear (s ∷ ss)

-- r is the refusal of the first offender of a step, and every step before that one is clear
pub data Refuses : List Step → Refusal → Type 0 where
  here : {s : Step} {ss : List Step} {r : Refusal} (k : ℕ) → FirstOf s.size s.bad k → k < s.size → r ≡ s.refusal k
      → Refuses (s ∷ ss) r
  later : {s : Step} {ss : List Step} {r : Refusal} → Clear s → Refuses ss r → Refuses (s ∷ ss) r

-- rules 5.4 and 5.7: three zeros if no step is offended, else the number, the device and the place of the first offended
-- step's first offender
pub record Tells (ss : List Step) (t : Told) : Type 0 where
  pub clear : AllClear ss → t ≡ nothing
  pub offended : (r : Refusal) → Refuses ss r → t ≡ told_of r
