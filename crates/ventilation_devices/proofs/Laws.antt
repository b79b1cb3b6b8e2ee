-- Laws of each oxidiser's part of the rows, and of its account.
-- Assumes nothing.
use Prim.Native.Nat.{ℕ, ◌+◌, ◌*◌, ◌≤◌, ◌<◌}
use mathlib.Core.Path.{◌≡◌, sym, ap, ◌∙◌, subst}
use mathlib.Core.List.{List}
use native.Mathlib.Nat.{le_trans}
use native.Mathlib.Omega.{arith}
use lib.Dec.{lit<}
use lib.ListN.{length, get_or}
use Rattle.rows.specs.Rows.{build, sum_to, count_of, hit, put}
use Rattle.rows.proofs.Laws.{length-build, get_or-build}
use Rattle.rows.proofs.Sums.{sum_to_ext, sum_to_zero}
use Rattle.columns.specs.Streams.{Air, gas_at, AirLong, AirRight}
use Rattle.columns.proofs.StreamLaws.{air_part_long, air_part_right}
use Rattle.balance.specs.Balance.{device_most}
use Rattle.volume.specs.Volume.{air_most}
use Rattle.accounts.specs.declared.Account.{Account}
use Rattle.accounts.specs.Account.{outcome_kinds}
use Rattle.accounts.specs.Totals.{replaced_in}
use Rattle.accounts.specs.Private.{Modest}
use Rattle.accounts.proofs.Given.{Counts}
use Rattle.accounts.proofs.Numbers.{built_most}
use Rattle.ventilation_device.specs.Device.{intervals_of, entry_at, outcome_at, inlet_of, exhaust_of, account_of, Right, Filled}
use Rattle.ventilation_device.proofs.Outcomes.{none_replaced}
use Rattle.ventilation_device.proofs.Pass.{entry_few, out_of_in, inlet_most}
use Rattle.ventilation_devices.specs.Devices.{Lent, air_in, outcome_part, account_in, Sound, Written}

-- ---- an account

pub account_ten : (a : Air) → length (account_of a).outcomes ≡ outcome_kinds
unfolding account_of
account_ten a = length-build outcome_kinds (count_of (intervals_of a) (outcome_at a))

-- what leaves is no more than what enters, in a year too
pub left_in : (a : Air) → Right a → exhaust_of a ≤ inlet_of a
unfolding exhaust_of inlet_of
left_in a x = out_of_in a x (intervals_of a) (omega arith)

device_most_lem : (a : Air) → Right a → inlet_of a ≤ device_most
unfolding inlet_of
device_most_lem a x =
    let z : sum_to (intervals_of a) (λ k. (entry_at a k).inlet) ≤ intervals_of a * air_most = inlet_most a x (intervals_of a) (omega arith) in
    let n : intervals_of a ≤ 35136 = x.few in
    omega arith

account_modest : (a : Air) → Right a → Modest (account_of a)
unfolding account_of
account_modest a x =
    record {
      ten = account_ten a;
      count_most = built_most (intervals_of a) (outcome_at a) x.few;
      methane_most = device_most_lem a x;
      destroyed_most = omega (arith, device_most_lem a x);
      uncombusted_most = le_trans (left_in a x) (device_most_lem a x);
    }

account_counts : (a : Air) → (account_of a).outcomes ≡ build outcome_kinds (count_of (intervals_of a) (outcome_at a))
unfolding account_of
account_counts a i = build outcome_kinds (count_of (intervals_of a) (outcome_at a))

-- each litre that enters is destroyed or leaves, once
account_shares : (a : Air) → Right a → (account_of a).destroyed + (account_of a).uncombusted ≡ (account_of a).methane
unfolding account_of
account_shares a x = omega (arith, left_in a x)

-- no interval is replaced
never : (a : Air) (j : ℕ) → ((k : ℕ) → hit (outcome_at a k) j ≡ 0) → count_of (intervals_of a) (outcome_at a) j ≡ 0
never a j h = sum_to_ext (intervals_of a) (λ k. hit (outcome_at a k) j) (λ k. 0) (λ k l. h k) ∙ sum_to_zero (intervals_of a)

entry_replaced : (a : Air) (k : ℕ) → (hit (outcome_at a k) 1 ≡ 0) × (hit (outcome_at a k) 2 ≡ 0)
unfolding entry_at
entry_replaced a k = none_replaced (gas_at a.inlet k) (gas_at a.exhaust k) (get_or a.status k 0)

pub account_replaced : (a : Air) → replaced_in (account_of a) ≡ 0
unfolding replaced_in account_of
account_replaced a =
    let one : count_of (intervals_of a) (outcome_at a) 1 ≡ 0 = never a 1 (λ k. (entry_replaced a k).0) in
    let two : count_of (intervals_of a) (outcome_at a) 2 ≡ 0 = never a 2 (λ k. (entry_replaced a k).1) in
    omega (
      arith,
      one,
      two,
      get_or-build outcome_kinds (count_of (intervals_of a) (outcome_at a)) 1 0 (lit< tt),
      get_or-build outcome_kinds (count_of (intervals_of a) (outcome_at a)) 2 0 (lit< tt),
    )

-- ---- device d's own

module _ (l : Lent) (devices : ℕ) (x : Sound l devices) where
  module _ (d : ℕ) (h : d < devices) where
    -- it has its whole row
    pub row_long : intervals_of (air_in l d) ≡ l.intervals
    row_long = (air_part_long l.air devices l.intervals d h x.long).status

    pub right : Right (air_in l d)
    right =
        record {
          few = subst (λ (n : ℕ). n ≤ 35136) (sym row_long) x.few;
          long = subst (AirLong (air_in l d)) (sym row_long) (air_part_long l.air devices l.intervals d h x.long);
          right = subst (AirRight (air_in l d)) (sym row_long) (air_part_right l.air devices l.intervals d h x.right);
        }

  pub modest : (d : ℕ) → d < devices → Modest (account_in l d)
  modest d h = account_modest (air_in l d) (right d h)

  -- each account counts its own device's outcomes, and shares out its litres
  pub counts : Counts l.intervals devices (λ d. outcome_at (air_in l d)) (account_in l)
  counts =
      record {
        few = λ d k h z. entry_few (air_in l d) k;
        counts = λ d h. account_counts (air_in l d) ∙ ap (λ (n : ℕ). build outcome_kinds (count_of n (outcome_at (air_in l d)))) (row_long d h);
        shares = λ d h. account_shares (air_in l d) (right d h);
      }

-- ---- what one device's function leaves in the whole row

module _ (l : Lent) (devices : ℕ) (x : Sound l devices) (d : ℕ) (h : d < devices) where
  pub row_written : (xs o : List ℕ) (a : Account) {part : Air} → part ≡ air_in l d → Filled part o a
      → Written l d xs (put xs (d * l.intervals) (d * l.intervals + l.intervals) o) a
  unfolding outcome_part
  row_written xs o a e y =
      let z : Filled (air_in l d) o a = subst (λ (b : Air). Filled b o a) e y in
      record {
        outcome_built =
            ap (put xs (d * l.intervals) (d * l.intervals + l.intervals))
            (z.outcome_built ∙ ap (λ (m : ℕ). build m (outcome_at (air_in l d))) (row_long l devices x d h));
        account = z.account;
      }
