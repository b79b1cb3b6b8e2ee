-- The pass over an oxidiser's row as a loop's invariant: row, counts and litres after the first i intervals. Start, step and end.
-- Assumes nothing.
use Prim.Native.Nat.{ℕ, ◌+◌, ◌-◌, ◌*◌, ◌≤◌, ◌<◌}
use mathlib.Core.Path.{◌≡◌, sym, ap, ◌∙◌, subst}
use mathlib.Core.List.{List, ◌++◌}
use native.Mathlib.Omega.{arith}
use mir.Syntax.{w64}
use mir.Val.{Fits}
use lib.ListN.{length, get_or, drop, set, length-set}
use lib.Seq.{ext_get_or}
use Rattle.rows.specs.Rows.{build, sum_to, count_of}
use Rattle.rows.proofs.Laws.{build_done, length-build, get_or-build}
use Rattle.rows.proofs.Sums.{sum_to_le, sum_to_bound, count_most}
use Rattle.rows.proofs.More.{row_more, sum_more, count_more}
use Rattle.columns.specs.Streams.{Gas, Air, gas_at}
use Rattle.volume.specs.Volume.{air_most}
use Rattle.accounts.specs.Account.{outcome_kinds}
use Rattle.ventilation_device.specs.declared.Entry.{Entry}
use Rattle.ventilation_device.specs.Outcomes.{entry_of}
use Rattle.ventilation_device.specs.Device.{intervals_of, entry_at, outcome_at, inlet_of, exhaust_of, account_of, Right, Filled}
use Rattle.ventilation_device.proofs.Outcomes.{outcome_few, shared}

-- ---- an interval of a device whose readings are right

pub entry_few : (a : Air) (k : ℕ) → outcome_at a k < 10
unfolding entry_at
entry_few a k = outcome_few (gas_at a.inlet k) (gas_at a.exhaust k) (get_or a.status k 0)

-- what the code has of an interval is the interval's
pub reads_entry : (a : Air) (i : ℕ) {inlet exhaust : Gas} {e : Entry} → inlet ≡ gas_at a.inlet i → exhaust ≡ gas_at a.exhaust i
    → e ≡ entry_of inlet exhaust (get_or a.status i 0) → e ≡ entry_at a i
unfolding entry_at
reads_entry a i p q e = e ∙ (λ j. entry_of (p j) (q j) (get_or a.status i 0))

module _ (a : Air) (x : Right a) where
  entry_shared : (k : ℕ) → k < intervals_of a → ((entry_at a k).exhaust ≤ (entry_at a k).inlet) × ((entry_at a k).inlet ≤ air_most)
  unfolding entry_at
  entry_shared k h = shared (gas_at a.inlet k) (gas_at a.exhaust k) (get_or a.status k 0) (x.right.inlet k h)

  -- sums over the first i intervals
  pub out_of_in : (i : ℕ) → i ≤ intervals_of a → sum_to i (λ k. (entry_at a k).exhaust) ≤ sum_to i (λ k. (entry_at a k).inlet)
  out_of_in i h = sum_to_le i (λ k. (entry_at a k).exhaust) (λ k. (entry_at a k).inlet) (λ k l. (entry_shared k (omega arith)).0)

  pub inlet_most : (i : ℕ) → i ≤ intervals_of a → sum_to i (λ k. (entry_at a k).inlet) ≤ i * air_most
  inlet_most i h = sum_to_bound i air_most (λ k. (entry_at a k).inlet) (λ k l. (entry_shared k (omega arith)).1)

-- ---- the loop

pub record Going (a : Air) (old o counts : List ℕ) (supplied left i : ℕ) : Type 0 where
  pub right : Right a
  pub old_length : length old ≡ intervals_of a
  pub within : i ≤ intervals_of a
  pub outcome_built : o ≡ build i (outcome_at a) ++ drop i old
  pub ten : length counts ≡ 10
  pub each : (j : ℕ) → j < 10 → get_or counts j 0 ≡ count_of i (outcome_at a) j
  pub inlet : supplied ≡ sum_to i (λ k. (entry_at a k).inlet)
  pub exhaust : left ≡ sum_to i (λ k. (entry_at a k).exhaust)

module _ {a : Air} {old o counts : List ℕ} {supplied left i : ℕ} (x : Going a old o counts supplied left i) where
  -- ---- one interval more

  module _ (l : i < intervals_of a) (e : Entry) (q : e ≡ entry_at a i) where
    outcome_is : e.outcome ≡ outcome_at a i
    outcome_is = ap (λ (y : Entry). y.outcome) q

    pub going_few : e.outcome < 10
    going_few = subst (λ (k : ℕ). k < 10) (sym outcome_is) (entry_few a i)

    pub slot_fits : Fits w64 (get_or counts e.outcome 0 + 1)
    slot_fits =
        let k = x.each e.outcome going_few in
        let m : count_of i (outcome_at a) e.outcome ≤ i = count_most i (outcome_at a) e.outcome in
        record { fits = omega (arith, x.within, x.right.few) }

    pub supplied_room : Fits w64 (supplied + e.inlet)
    supplied_room =
        let s = x.inlet in
        let u : e.inlet ≡ (entry_at a i).inlet = ap (λ (y : Entry). y.inlet) q in
        record { fits = omega (arith, inlet_most a x.right i x.within, (entry_shared a x.right i l).1, x.within, x.right.few) }

    pub left_room : Fits w64 (left + e.exhaust)
    left_room =
        let s = x.exhaust in
        let u : e.exhaust ≡ (entry_at a i).exhaust = ap (λ (y : Entry). y.exhaust) q in
        let v = entry_shared a x.right i l in
        record {
          fits = omega (arith, out_of_in a x.right i x.within, inlet_most a x.right i x.within, v.0, v.1, x.within, x.right.few);
        }

    pub going_more : Going a old (set o i e.outcome) (set counts e.outcome (get_or counts e.outcome 0 + 1)) (supplied + e.inlet) (left + e.exhaust) (i + 1)
    going_more =
        record {
          right = x.right;
          old_length = x.old_length;
          within = omega arith;
          outcome_built = row_more i (outcome_at a) old o e.outcome x.outcome_built (omega (arith, x.old_length)) outcome_is;
          ten = length-set counts e.outcome (get_or counts e.outcome 0 + 1) ∙ x.ten;
          each =
              λ j z. count_more i (outcome_at a) counts e.outcome j outcome_is (subst (λ (m : ℕ). e.outcome < m) (sym x.ten) going_few) (x.each j z);
          inlet = sum_more i (λ k. (entry_at a k).inlet) supplied e.inlet x.inlet (ap (λ (y : Entry). y.inlet) q);
          exhaust = sum_more i (λ k. (entry_at a k).exhaust) left e.exhaust x.exhaust (ap (λ (y : Entry). y.exhaust) q);
        }

  -- ---- the end

  -- no more leaves than enters
  pub left_in : left ≤ supplied
  left_in = omega (arith, out_of_in a x.right i x.within, x.inlet, x.exhaust)

  pub going_all : intervals_of a ≤ i → Filled a o (record { outcomes = counts; methane = supplied; destroyed = supplied - left; uncombusted = left })
  unfolding account_of inlet_of exhaust_of
  going_all l =
      let at : i ≡ intervals_of a = omega (arith, x.within) in
      let p : supplied ≡ inlet_of a = x.inlet ∙ ap (λ (m : ℕ). sum_to m (λ k. (entry_at a k).inlet)) at in
      let q : left ≡ exhaust_of a = x.exhaust ∙ ap (λ (m : ℕ). sum_to m (λ k. (entry_at a k).exhaust)) at in
      record {
        outcome_built =
            x.outcome_built ∙ ap (λ (m : ℕ). build m (outcome_at a) ++ drop m old) at ∙ build_done (intervals_of a) (outcome_at a) old x.old_length;
        account = λ t. record { outcomes = tens at t; methane = p t; destroyed = p t - q t; uncombusted = q t };
      }
    where
      tens : i ≡ intervals_of a → counts ≡ build outcome_kinds (count_of (intervals_of a) (outcome_at a))
      tens at =
          ext_get_or 0 counts (build 10 (count_of (intervals_of a) (outcome_at a))) (x.ten ∙ sym (length-build 10 (count_of (intervals_of a) (outcome_at a))))
          (λ j z. let w : j < 10 = subst (λ (m : ℕ). j < m) x.ten z in
          x.each j w
          ∙ ap (λ (m : ℕ). count_of m (outcome_at a) j) at
          ∙ sym (get_or-build 10 (count_of (intervals_of a) (outcome_at a)) j 0 w))
