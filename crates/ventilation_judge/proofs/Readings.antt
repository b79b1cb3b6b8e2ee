-- What a refusal by 22, 23 or 21 says of the call, in plain facts: for a reader who doubts that a number is given only where it is due.
-- Assumes nothing.
use Prim.Native.Nat.{ℕ, ◌/◌, ◌%◌, ◌<◌}
use mathlib.Core.Path.{◌≡◌, refl, sym, subst}
use mathlib.Core.Bool.{false}
use mathlib.Core.List.{List, [], ◌∷◌}
use lib.ListN.{length}
use Rattle.rows.specs.Rows.{FirstOf}
use Rattle.refusals.specs.declared.Refusal.{Refusal}
use Rattle.std.proofs.Common.{Err}
use Rattle.steps.specs.Step.{Step, Refuses}
use Rattle.steps.specs.Steps.{intervals_step, devices_step, lengths_step, fuels_step}
use Rattle.steps.proofs.Verdicts.{zero_is_one}
use Rattle.ventilation_readings.specs.declared.Side.{Side}
use Rattle.ventilation_readings.specs.declared.Side.TheVariants.{Inlet, Exhaust, Status}
use Rattle.ventilation_readings.specs.Readings.{wrong_reading, FirstSide, wrong_side, refusal_of, readings_step}
use Rattle.ventilation_readings.proofs.Tests.{side_is}
use Rattle.ventilation_judge.specs.Call.{Call}
use Rattle.ventilation_judge.specs.Order.{steps_of, judged}
use Rattle.ventilation_judge.proofs.Laws.{judged_refuses}

-- Device-interval `at` is the one that is told, that side is its first wrong one, and no reading before it is wrong.
pub record ReadingTold (c : Call) (side : Side) (device interval : ℕ) : Type 0 where
  pub at : ℕ
  pub inside : at < length c.air.status
  pub is_first : FirstSide c.air at side
  pub before : (k : ℕ) → k < at → wrong_reading c.air k ≡ false
  pub device_is : device ≡ at / c.intervals
  pub interval_is : interval ≡ at % c.intervals

-- two refusals for readings are the same only for one side of one device and interval
same_side : (s t : Side) (d i e j : ℕ) → refusal_of s d i ≡ refusal_of t e j → (s ≡ t) × (d ≡ e) × (i ≡ j)
same_side Inlet Inlet d i e j q = (refl, let z : d ≡ e = cc in z, let z : i ≡ j = cc in z)
same_side Inlet Exhaust d i e j q = absurd (zero_is_one cc)
same_side Inlet Status d i e j q = absurd (zero_is_one cc)
same_side Exhaust Inlet d i e j q = absurd (zero_is_one cc)
same_side Exhaust Exhaust d i e j q = (refl, let z : d ≡ e = cc in z, let z : i ≡ j = cc in z)
same_side Exhaust Status d i e j q = absurd (zero_is_one cc)
same_side Status Inlet d i e j q = absurd (zero_is_one cc)
same_side Status Exhaust d i e j q = absurd (zero_is_one cc)
same_side Status Status d i e j q = (refl, let z : d ≡ e = cc in z, let z : i ≡ j = cc in z)

-- and none is a refusal of the other steps
other : (s : Side) (d i : ℕ)
    → (refusal_of s d i ≡ Refusal.Intervals → ⊥) × (refusal_of s d i ≡ Refusal.Devices → ⊥) × (refusal_of s d i ≡ Refusal.Lengths → ⊥)
    × ((p : ℕ) → refusal_of s d i ≡ Refusal.Fuel p → ⊥)
other Inlet d i = (λ e. zero_is_one cc, λ e. zero_is_one cc, λ e. zero_is_one cc, λ p e. zero_is_one cc)
other Exhaust d i = (λ e. zero_is_one cc, λ e. zero_is_one cc, λ e. zero_is_one cc, λ p e. zero_is_one cc)
other Status d i = (λ e. zero_is_one cc, λ e. zero_is_one cc, λ e. zero_is_one cc, λ p e. zero_is_one cc)

module _ (c : Call) (side : Side) (device interval : ℕ) where
  abbrev told : Refusal
  told = refusal_of side device interval

  here : (k : ℕ) → FirstOf (length c.air.status) (wrong_reading c.air) k → k < length c.air.status
      → told ≡ refusal_of (wrong_side c.air k) (k / c.intervals) (k % c.intervals) → ReadingTold c side device interval
  here k x h e =
      let same = same_side side (wrong_side c.air k) device interval (k / c.intervals) (k % c.intervals) e in
      record {
        at = k;
        inside = h;
        is_first = subst (FirstSide c.air k) (sym same.0) (side_is c.air k (x.found h));
        before = x.before;
        device_is = same.1;
        interval_is = same.2;
      }

  -- a step that gives no such refusal
  past : (s : Step) (ss : List Step) → ((k : ℕ) → told ≡ s.refusal k → ⊥) → Refuses (s ∷ ss) told → Refuses ss told
  past s ss never (Refuses.here k x h e) = absurd (never k e)
  past s ss never (Refuses.later a y) = y

  -- the steps before the readings and after them are such
  by_readings : Refuses (steps_of c) told → ReadingTold c side device interval
  unfolding intervals_step devices_step lengths_step readings_step fuels_step
  by_readings x =
      let never = other side device interval in
      last (past _ _ (λ k. never.2) (past _ _ (λ k. never.1) (past _ _ (λ k. never.0) x)))
    where
      last : Refuses (readings_step c.intervals c.air ∷ fuels_step c.fuel ∷ []) told → ReadingTold c side device interval
      last (Refuses.here k x h e) = here k x h e
      last (Refuses.later a (Refuses.here k x h e)) = absurd ((other side device interval).3 _ e)
      last (Refuses.later a (Refuses.later b x)) = elim x [ ]

  -- 22 is `refusal_of Inlet`, 23 `refusal_of Exhaust` and 21 `refusal_of Status`
  pub reading_told : judged c ≡ Err (refusal_of side device interval) → ReadingTold c side device interval
  reading_told e = by_readings (judged_refuses c _ e)
