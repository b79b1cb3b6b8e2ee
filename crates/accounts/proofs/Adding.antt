-- One account more in the sums, the room that is left for it, and the tonnes that the sums can make.
-- Assumes nothing.
use Prim.Native.Nat.{ℕ, suc, ◌+◌, ◌*◌, ◌≤◌, ◌<◌}
use mathlib.Core.Path.{◌≡◌, refl}
use native.Mathlib.Nat.{mul-le-mul}
use native.Mathlib.Omega.{arith}
use mir.Syntax.{w64}
use mir.Val.{Fits}
use lib.ListN.{get_or}
use Rattle.rows.specs.Rows.{sum_to}
use Rattle.rows.proofs.Sums.{sum_to_bound}
use Rattle.protocol.specs.Numbers.{methane_mg}
use Rattle.balance.specs.Balance.{baseline_in_mg, carbon_dioxide_mg, uncombusted_in_mg, device_most, Moderate}
use Rattle.balance.proofs.Laws.{carbon_le}
use Rattle.accounts.specs.declared.Account.{Account}
use Rattle.accounts.specs.declared.Totals.{Totals}
use Rattle.accounts.specs.Account.{count_in}
use Rattle.accounts.specs.Totals.{counted_in, replaced_in, excluded_in, totals_over, no_totals}
use Rattle.accounts.specs.Private.{added, Modest, Room}

-- what the code adds up is what the specification adds
pub added_is : (t : Totals) (a : Account) (b c u : ℕ) → b ≡ methane_mg * a.methane → c ≡ carbon_dioxide_mg a.destroyed → u ≡ methane_mg * a.uncombusted
    → record {
      counted = t.counted + (get_or a.outcomes 0 0 + get_or a.outcomes 1 0 + get_or a.outcomes 2 0);
      replaced = t.replaced + (get_or a.outcomes 1 0 + get_or a.outcomes 2 0);
      excluded =
          t.excluded + (get_or a.outcomes 3 0 + get_or a.outcomes 4 0 + get_or a.outcomes 5 0 + get_or a.outcomes 6 0 + get_or a.outcomes 7 0 + get_or
          a.outcomes 8 0 + get_or a.outcomes 9 0);
      methane = t.methane + a.methane;
      destroyed = t.destroyed + a.destroyed;
      uncombusted = t.uncombusted + a.uncombusted;
      baseline_mg = t.baseline_mg + b;
      co2_mg = t.co2_mg + c;
      uncombusted_mg = t.uncombusted_mg + u;
    }
    ≡ added t a
unfolding added counted_in replaced_in excluded_in baseline_in_mg uncombusted_in_mg
added_is t a b c u p q r i =
    record {
      counted = t.counted + (get_or a.outcomes 0 0 + get_or a.outcomes 1 0 + get_or a.outcomes 2 0);
      replaced = t.replaced + (get_or a.outcomes 1 0 + get_or a.outcomes 2 0);
      excluded = same i;
      methane = t.methane + a.methane;
      destroyed = t.destroyed + a.destroyed;
      uncombusted = t.uncombusted + a.uncombusted;
      baseline_mg = t.baseline_mg + p i;
      co2_mg = t.co2_mg + q i;
      uncombusted_mg = t.uncombusted_mg + r i;
    }
  where
    same : t.excluded + (get_or a.outcomes 3 0 + get_or a.outcomes 4 0 + get_or a.outcomes 5 0 + get_or a.outcomes 6 0 + get_or a.outcomes 7 0 + get_or
        a.outcomes 8 0 + get_or a.outcomes 9 0)
        ≡ t.excluded + sum_to 7 (λ j. get_or a.outcomes (3 + j) 0)
    same = omega arith

-- the sums that the code makes fit, in the order in which it makes them
pub record Sums (t : Totals) (a : Account) : Type 0 where
  pub replaced_two : Fits w64 (get_or a.outcomes 1 0 + get_or a.outcomes 2 0)
  pub excluded_to_4 : Fits w64 (get_or a.outcomes 3 0 + get_or a.outcomes 4 0)
  pub excluded_to_5 : Fits w64 (get_or a.outcomes 3 0 + get_or a.outcomes 4 0 + get_or a.outcomes 5 0)
  pub excluded_to_6 : Fits w64 (get_or a.outcomes 3 0 + get_or a.outcomes 4 0 + get_or a.outcomes 5 0 + get_or a.outcomes 6 0)
  pub excluded_to_7 : Fits w64 (get_or a.outcomes 3 0 + get_or a.outcomes 4 0 + get_or a.outcomes 5 0 + get_or a.outcomes 6 0 + get_or a.outcomes 7 0)
  pub excluded_to_8 : Fits w64 (get_or a.outcomes 3 0 + get_or a.outcomes 4 0 + get_or a.outcomes 5 0 + get_or a.outcomes 6 0 + get_or a.outcomes 7 0 +
      get_or a.outcomes 8 0)
  pub excluded_to_9 : Fits w64 (get_or a.outcomes 3 0 + get_or a.outcomes 4 0 + get_or a.outcomes 5 0 + get_or a.outcomes 6 0 + get_or a.outcomes 7 0 +
      get_or a.outcomes 8 0 + get_or a.outcomes 9 0)
  pub replaced : Fits w64 (t.replaced + (get_or a.outcomes 1 0 + get_or a.outcomes 2 0))
  pub excluded : Fits w64 (t.excluded + (get_or a.outcomes 3 0 + get_or a.outcomes 4 0 + get_or a.outcomes 5 0 + get_or a.outcomes 6 0 + get_or a.outcomes
      7 0 + get_or a.outcomes 8 0 + get_or a.outcomes 9 0))
  pub methane : Fits w64 (t.methane + a.methane)
  pub destroyed : Fits w64 (t.destroyed + a.destroyed)
  pub uncombusted : Fits w64 (t.uncombusted + a.uncombusted)

pub sums_fit : (t : Totals) (a : Account) → Room t → Modest a → Sums t a
sums_fit t a r x =
    let c1 : get_or a.outcomes 1 0 ≤ 35136 = x.count_most 1 in
    let c2 : get_or a.outcomes 2 0 ≤ 35136 = x.count_most 2 in
    let c3 : get_or a.outcomes 3 0 ≤ 35136 = x.count_most 3 in
    let c4 : get_or a.outcomes 4 0 ≤ 35136 = x.count_most 4 in
    let c5 : get_or a.outcomes 5 0 ≤ 35136 = x.count_most 5 in
    let c6 : get_or a.outcomes 6 0 ≤ 35136 = x.count_most 6 in
    let c7 : get_or a.outcomes 7 0 ≤ 35136 = x.count_most 7 in
    let c8 : get_or a.outcomes 8 0 ≤ 35136 = x.count_most 8 in
    let c9 : get_or a.outcomes 9 0 ≤ 35136 = x.count_most 9 in
    let m = x.methane_most in
    let d = x.destroyed_most in
    let u = x.uncombusted_most in
    let mr = r.methane_room in
    let dr = r.destroyed_room in
    let ur = r.uncombusted_room in
    let rr = r.replaced_room in
    let er = r.excluded_room in
    record {
      replaced_two = record { fits = omega arith };
      excluded_to_4 = record { fits = omega arith };
      excluded_to_5 = record { fits = omega arith };
      excluded_to_6 = record { fits = omega arith };
      excluded_to_7 = record { fits = omega arith };
      excluded_to_8 = record { fits = omega arith };
      excluded_to_9 = record { fits = omega arith };
      replaced = record { fits = omega arith };
      excluded = record { fits = omega arith };
      methane = record { fits = omega arith };
      destroyed = record { fits = omega arith };
      uncombusted = record { fits = omega arith };
    }

-- ---- the sums over devices

pub totals_none : (account : ℕ → Account) → no_totals ≡ totals_over 0 account
unfolding totals_over
totals_none account = refl

-- with one device more
pub totals_more : (account : ℕ → Account) (d : ℕ) → totals_over (suc d) account ≡ added (totals_over d account) (account d)
unfolding totals_over added
totals_more account d = refl

-- ---- bounds, of up to 16 devices

module _ (devices : ℕ) (account : ℕ → Account) (few : devices ≤ 16) (modest : (d : ℕ) → d < devices → Modest (account d)) where
  sum_most : (f : ℕ → ℕ) (b : ℕ) → ((d : ℕ) → d < devices → f d ≤ b) → sum_to devices f ≤ 16 * b
  sum_most f b g =
      let s : sum_to devices f ≤ devices * b = sum_to_bound devices b f g in
      let t : devices * b ≤ 16 * b = mul-le-mul few (let z : b ≤ b = omega arith in z) in
      omega arith

  baseline_most : sum_to devices (λ d. baseline_in_mg (account d).methane) ≤ 16 * 10992786826109760
  unfolding baseline_in_mg
  baseline_most =
      sum_most (λ d. methane_mg * (account d).methane) 10992786826109760 (λ d h. let z : (account d).methane ≤ 784806655680 = (modest d h).methane_most in omega arith)

  carbon_most : sum_to devices (λ d. carbon_dioxide_mg (account d).destroyed) ≤ 16 * 1440120213172800
  carbon_most =
      sum_most (λ d. carbon_dioxide_mg (account d).destroyed) 1440120213172800
      (λ d h. let z : (account d).destroyed ≤ 784806655680 = (modest d h).destroyed_most in omega (arith, carbon_le (account d).destroyed))

  uncombusted_most : sum_to devices (λ d. uncombusted_in_mg (account d).uncombusted) ≤ 16 * 10992786826109760
  unfolding uncombusted_in_mg
  uncombusted_most =
      sum_most (λ d. methane_mg * (account d).uncombusted) 10992786826109760
      (λ d h. let z : (account d).uncombusted ≤ 784806655680 = (modest d h).uncombusted_most in omega arith)

  -- the totals leave room for one more
  pub room_for : Room (totals_over devices account)
  unfolding totals_over counted_in replaced_in excluded_in
  room_for =
      record {
        counted_room =
            omega (
              arith,
              sum_most (λ d. count_in (account d) 0 + count_in (account d) 1 + count_in (account d) 2) 105408
                  (λ d h. let c = (modest d h).count_most in omega (arith, c 0, c 1, c 2)),
            );
        replaced_room =
            omega (
              arith,
              sum_most (λ d. count_in (account d) 1 + count_in (account d) 2) 70272
                  (λ d h. let c = (modest d h).count_most in omega (arith, c 1, c 2)),
            );
        excluded_room =
            omega (
              arith,
              sum_most (λ d. sum_to 7 (λ j. count_in (account d) (3 + j))) 245952
                  (λ d h. let z : sum_to 7 (λ j. count_in (account d) (3 + j)) ≤ 7 * 35136 =
                  sum_to_bound 7 35136 (λ j. count_in (account d) (3 + j)) (λ j y. (modest d h).count_most (3 + j)) in omega arith),
            );
        methane_room = omega (arith, sum_most (λ d. (account d).methane) device_most (λ d h. (modest d h).methane_most));
        destroyed_room = omega (arith, sum_most (λ d. (account d).destroyed) device_most (λ d h. (modest d h).destroyed_most));
        uncombusted_room = omega (arith, sum_most (λ d. (account d).uncombusted) device_most (λ d h. (modest d h).uncombusted_most));
        baseline_room = omega (arith, baseline_most);
        co2_room = omega (arith, carbon_most);
        uncombusted_mg_room = omega (arith, uncombusted_most);
      }

  -- what `sheet` requires, with 64 fuel lines
  pub moderate : (fuel : ℕ) → fuel ≤ 256000000000000000
      → Moderate (totals_over devices account).baseline_mg ((totals_over devices account).co2_mg + (totals_over devices account).uncombusted_mg + fuel)
  unfolding totals_over
  moderate fuel h =
      record { credit_most = omega (arith, baseline_most); debit_most = omega (arith, carbon_most, uncombusted_most) }
