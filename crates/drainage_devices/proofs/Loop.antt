-- The loop over devices: rows joined up to device d, the rest as it was, and the accounts and totals up to there.
-- Assumes nothing.
use Prim.Native.Nat.{ℕ, ◌+◌, ◌*◌, ◌≤◌, ◌<◌}
use mathlib.Core.Path.{◌≡◌}
use native.Mathlib.Omega.{arith}
use lib.ListN.{length}
use Rattle.rows.specs.Rows.{put}
use Rattle.rows.proofs.Laws.{length-build}
use Rattle.rows.proofs.Joined.{Row, row_start, row_step, row_done}
use Rattle.protocol.specs.Ranges.{devices_most}
use Rattle.accounts.specs.declared.Account.{Account}
use Rattle.accounts.specs.declared.Totals.{Totals}
use Rattle.accounts.specs.Account.{outcome_kinds, account_size, numbers_of}
use Rattle.accounts.specs.Private.{added, Modest, Room}
use Rattle.accounts.proofs.Booking.{Booking, booking_start, booking_more, booking_room, booking_place, booking_done}
use Rattle.drainage_outcomes.specs.Rows.{rows_of, RowsLong}
use Rattle.drainage_device.specs.Device.{outcome_at, flow_used_at, content_used_at}
use Rattle.drainage_devices.specs.Devices.{Lent, Results, records_of, account_in, outcome_part, flow_part, content_part, results_of, Sound}
use Rattle.drainage_devices.specs.Totals.{totals_of, AllWritten}
use Rattle.drainage_devices.specs.Private.{Written}
use Rattle.drainage_devices.proofs.Laws.{account_ten, modest}

-- everything that is given, the accounts of 16 devices at the most with it
pub record Going (l : Lent) (devices : ℕ) (before after : Results) (t : Totals) (d : ℕ) : Type 0 where
  pub within : d ≤ devices
  pub sound : Sound l devices
  pub outcomes : Row l.intervals devices (outcome_part l) before.outcome after.outcome d
  pub flows : Row l.intervals devices (flow_part l) before.flow after.flow d
  pub contents : Row l.intervals devices (content_part l) before.content after.content d
  pub booked : Booking (account_in l) before.accounts after.accounts t d

part_long : (l : Lent) (k : ℕ) → (length (outcome_part l k) ≡ l.intervals) × (length (flow_part l k) ≡ l.intervals) × (length (content_part l k) ≡ l.intervals)
unfolding outcome_part flow_part content_part
part_long l k = (
  length-build l.intervals (outcome_at (records_of l k)),
  length-build l.intervals (flow_used_at (records_of l k)),
  length-build l.intervals (content_used_at (records_of l k)),
)

module _ (l : Lent) (devices : ℕ) (before : Results) where
  ten : (k : ℕ) → length (account_in l k).outcomes ≡ outcome_kinds
  ten k = account_ten (records_of l k)

  pub going_start : (t : Totals) → Sound l devices → RowsLong (rows_of before.outcome before.flow before.content) (devices * l.intervals)
      → length before.accounts ≡ devices_most * account_size → t ≡ totals_of l 0 → Going l devices before before t 0
  going_start t x p s e =
      record {
        within = omega arith;
        sound = x;
        outcomes = row_start l.intervals devices (outcome_part l) before.outcome p.outcome;
        flows = row_start l.intervals devices (flow_part l) before.flow p.flow;
        contents = row_start l.intervals devices (content_part l) before.content p.content;
        booked = booking_start (account_in l) ten before.accounts t s e;
      }

  module _ (now : Results) (t : Totals) (d : ℕ) (x : Going l devices before now t d) where
    few : d < devices → d < devices_most
    few h = let z = x.sound.few_devices in omega arith

    pub going_on : (new : Results) (t' : Totals) (a : Account) → d < devices
        → Written l d (rows_of now.outcome now.flow now.content) (rows_of new.outcome new.flow new.content) a
        → new.accounts ≡ put now.accounts (d * account_size) (d * account_size + account_size) (numbers_of a) → t' ≡ added t a
        → Going l devices before new t' (d + 1)
    going_on new t' a h w k e =
        record {
          within = omega arith;
          sound = x.sound;
          outcomes =
              row_step l.intervals devices (outcome_part l) before.outcome now.outcome new.outcome d (λ k. (part_long l k).0) h x.outcomes
              w.outcome_built;
          flows = row_step l.intervals devices (flow_part l) before.flow now.flow new.flow d (λ k. (part_long l k).1) h x.flows w.flow_built;
          contents =
              row_step l.intervals devices (content_part l) before.content now.content new.content d (λ k. (part_long l k).2) h x.contents
              w.content_built;
          booked = booking_more (account_in l) ten before.accounts x.booked new.accounts t' a (few h) w.account k e;
        }

    pub going_room : (a : Account) → d < devices → a ≡ account_in l d → Room t × Modest a
    going_room a h e =
        booking_room (account_in l) ten before.accounts x.booked devices x.sound.few_devices (modest l devices x.sound) h a e

    pub going_place : (a : Account) → d < devices → a ≡ account_in l d → (d < devices_most) × (length a.outcomes ≡ outcome_kinds) ×
        (length now.accounts ≡ devices_most * account_size)
    going_place a h e = booking_place (account_in l) ten before.accounts x.booked (few h) a e

    pub going_done : devices ≤ d → AllWritten l devices before now t
    unfolding results_of
    going_done h =
        let e : d ≡ devices = omega (arith, x.within) in
        let b = booking_done (account_in l) ten before.accounts x.booked devices e in
        record {
          results = λ i.
              record {
                outcome = row_done l.intervals devices (outcome_part l) before.outcome now.outcome d e x.outcomes i;
                flow = row_done l.intervals devices (flow_part l) before.flow now.flow d e x.flows i;
                content = row_done l.intervals devices (content_part l) before.content now.content d e x.contents i;
                accounts = b.0 i;
              };
          totals = b.1;
        }
