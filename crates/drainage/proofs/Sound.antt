-- What a clean verdict gives the devices' rows.
-- Assumes nothing.
use Prim.Native.Nat.{ℕ, ◌+◌, ◌*◌, ◌≤◌, ◌<◌}
use mathlib.Core.Path.{◌≡◌, sym, ap, ◌∙◌, subst, subst₂}
use mathlib.Core.List.{List}
use native.Mathlib.Nat.{add-sub_cancel_left}
use native.Mathlib.Omega.{arith}
use lib.ListN.{length, get_or}
use Rattle.rows.specs.Rows.{cut}
use Rattle.rows.proofs.Laws.{length-cut, get_or-cut}
use Rattle.columns.specs.Series.{Long, InRange, row_of, series_part}
use Rattle.columns.proofs.Laws.{part_long, part_in_range, checks_part_long}
use Rattle.drainage_drift.specs.Drift.{Ordered}
use Rattle.drainage_device.specs.Device.{Right, instrument_of}
use Rattle.drainage_devices.specs.Devices.{records_of, Sound}
use Rattle.drainage_judge.specs.Call.{Call}
use Rattle.drainage_judge.proofs.Unrefused.{Unrefused}
use Rattle.drainage.specs.Sheet.{lent_in}

module _ {A : Type 0} where
  cut_long : (xs : List A) (a n : ℕ) → a + n ≤ length xs → length (cut xs a (a + n)) ≡ n
  cut_long xs a n h = length-cut xs a (a + n) (omega arith) h ∙ add-sub_cancel_left a n

  cut_at : (xs : List A) (a n i : ℕ) (d : A) → i < n → get_or (cut xs a (a + n)) i d ≡ get_or xs (a + i) d
  cut_at xs a n i d h = get_or-cut xs a (a + n) i d (subst (λ (m : ℕ). i < m) (sym (add-sub_cancel_left a n)) h)

-- 32 of a device's 64 places are those of one instrument of all
place_at : (xs : List ℕ) (d g j : ℕ) → g < 2 → j < 32
    → get_or (cut (cut xs (d * 64) (d * 64 + 64)) (32 * g) (32 * g + 32)) j 0 ≡ get_or xs (32 * (2 * d + g) + j) 0
place_at xs d g j h l =
    cut_at (cut xs (d * 64) (d * 64 + 64)) (32 * g) 32 j 0 l
    ∙ cut_at xs (d * 64) 64 (32 * g + j) 0 (omega arith)
    ∙ ap (λ (k : ℕ). get_or xs k 0) (let z : d * 64 + (32 * g + j) ≡ 32 * (2 * d + g) + j = omega arith in z)

module _ (c : Call) (x : Unrefused c) (d : ℕ) (h : d < c.devices) where
  count_at : (g : ℕ) → g < 2 → get_or (cut c.checks.counts (d * 2) (d * 2 + 2)) g 0 ≡ get_or c.checks.counts (2 * d + g) 0
  count_at g l = cut_at c.checks.counts (d * 2) 2 g 0 l ∙ ap (λ (k : ℕ). get_or c.checks.counts k 0) (let z : d * 2 + g ≡ 2 * d + g = omega arith in z)

  ordered : (g : ℕ) → g < 2 → Ordered (instrument_of (records_of (lent_in c) d) g) c.intervals
  unfolding instrument_of records_of
  ordered g l =
      let k : get_or (cut c.checks.counts (d * 2) (d * 2 + 2)) g 0 ≡ get_or c.checks.counts (2 * d + g) 0 = count_at g l in
      let i : 2 * d + g < 2 * c.devices = omega arith in
      let few : get_or c.checks.counts (2 * d + g) 0 ≤ 32 = x.count_most (2 * d + g) i in
      let pl : length (cut c.checks.positions (d * 64) (d * 64 + 64)) ≡ 64 = cut_long c.checks.positions (d * 64) 64
      (omega (arith, x.shape.roomy.positions)) in
      let dl : length (cut c.checks.drifts (d * 64) (d * 64 + 64)) ≡ 64 = cut_long c.checks.drifts (d * 64) 64
      (omega (arith, x.shape.roomy.drifts)) in
      record {
        few = omega arith;
        positions_kept = cut_long (cut c.checks.positions (d * 64) (d * 64 + 64)) (32 * g) 32 (omega arith);
        drifts_kept = cut_long (cut c.checks.drifts (d * 64) (d * 64 + 64)) (32 * g) 32 (omega arith);
        inside = λ j m.
            subst (λ (p : ℕ). p ≤ c.intervals) (sym (place_at c.checks.positions d g j l (omega arith)))
            (x.position_most (2 * d + g) j i (omega arith));
        rising = λ j n m o.
            subst₂ (λ (p q : ℕ). p < q) (sym (place_at c.checks.positions d g j l (omega arith)))
            (sym (place_at c.checks.positions d g n l (omega arith)))
            (x.positions_rise (2 * d + g) j n i m (omega arith));
      }

  right : Right (records_of (lent_in c) d)
  unfolding records_of
  right =
      let long : Long (series_part c.series c.intervals d) c.intervals = part_long c.series c.devices c.intervals d h x.shape.long in
      let n : length (row_of c.series.flow c.intervals d) ≡ c.intervals = long.flow in
      record {
        few = subst (λ (m : ℕ). m ≤ 35136) (sym n) x.shape.intervals_within;
        long = subst (Long (series_part c.series c.intervals d)) (sym n) long;
        kept = checks_part_long c.checks c.devices d h x.shape.roomy;
        ordered = λ g l. subst (Ordered (instrument_of (records_of (lent_in c) d) g)) (sym n) (ordered g l);
        readings_in_range = subst (InRange (series_part c.series c.intervals d)) (sym n) (part_in_range c.series c.devices c.intervals d h x.readings_in_range);
      }

pub sound : (c : Call) → Unrefused c → Sound (lent_in c) c.devices
sound c x =
    let s = x.shape in
    record {
      some = s.intervals_least;
      few = s.intervals_within;
      few_devices = s.devices_within;
      kinds_long = s.kinds_long;
      roomy = s.roomy;
      long = s.long;
      right = right c x;
    }
