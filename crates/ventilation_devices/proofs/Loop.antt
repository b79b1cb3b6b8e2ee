-- The loop over oxidisers: the row joined up to device d, the rest as it was, and the accounts and totals up to there.
-- Assumes nothing.
use Prim.Native.Nat.{ℕ, ◌+◌, ◌*◌, ◌≤◌, ◌<◌}
use mathlib.Core.Path.{◌≡◌}
use native.Mathlib.Omega.{arith}
use lib.ListN.{length}
use Rattle.rows.specs.Rows.{put}
use Rattle.rows.proofs.Laws.{length-build}
use Rattle.rows.proofs.Joined.{Row, row_start, row_step, row_done}
use Rattle.protocol.specs.Ranges.{devices_most}
use Rattle.accounts.specs.declared.Account.{Account}
use Rattle.accounts.specs.declared.Totals.{Totals}
use Rattle.accounts.specs.Account.{outcome_kinds, account_size, numbers_of}
use Rattle.accounts.specs.Totals.{totals_over}
use Rattle.accounts.specs.Private.{added, Modest, Room}
use Rattle.accounts.proofs.Booking.{Booking, booking_start, booking_more, booking_room, booking_done}
use Rattle.ventilation_device.specs.Device.{outcome_at}
use Rattle.ventilation_devices.specs.Devices.{Lent, Results, air_in, account_in, outcome_part, results_of, Sound, AllWritten, Written}
use Rattle.ventilation_devices.proofs.Laws.{account_ten, modest}

-- everything that is given, the accounts of 16 devices at the most with it
pub record Going (l : Lent) (devices : ℕ) (before after : Results) (t : Totals) (d : ℕ) : Type 0 where
  pub within : d ≤ devices
  pub sound : Sound l devices
  pub outcomes : Row l.intervals devices (outcome_part l) before.outcome after.outcome d
  pub booked : Booking (account_in l) before.accounts after.accounts t d

part_long : (l : Lent) (k : ℕ) → length (outcome_part l k) ≡ l.intervals
unfolding outcome_part
part_long l k = length-build l.intervals (outcome_at (air_in l k))

module _ (l : Lent) (devices : ℕ) (before : Results) where
  ten : (k : ℕ) → length (account_in l k).outcomes ≡ outcome_kinds
  ten k = account_ten (air_in l k)

  pub going_start : (t : Totals) → Sound l devices → length before.outcome ≡ devices * l.intervals
      → length before.accounts ≡ devices_most * account_size → t ≡ totals_over 0 (account_in l) → Going l devices before before t 0
  going_start t x p s e =
      record {
        within = omega arith;
        sound = x;
        outcomes = row_start l.intervals devices (outcome_part l) before.outcome p;
        booked = booking_start (account_in l) ten before.accounts t s e;
      }

  module _ (now : Results) (t : Totals) (d : ℕ) (x : Going l devices before now t d) where
    few : d < devices → d < devices_most
    few h = let z = x.sound.few_devices in omega arith

    pub going_on : (new : Results) (t' : Totals) (a : Account) → d < devices → Written l d now.outcome new.outcome a
        → new.accounts ≡ put now.accounts (d * account_size) (d * account_size + account_size) (numbers_of a) → t' ≡ added t a
        → Going l devices before new t' (d + 1)
    going_on new t' a h w k e =
        record {
          within = omega arith;
          sound = x.sound;
          outcomes =
              row_step l.intervals devices (outcome_part l) before.outcome now.outcome new.outcome d (part_long l) h x.outcomes w.outcome_built;
          booked = booking_more (account_in l) ten before.accounts x.booked new.accounts t' a (few h) w.account k e;
        }

    pub going_room : (a : Account) → d < devices → a ≡ account_in l d → Room t × Modest a
    going_room a h e =
        booking_room (account_in l) ten before.accounts x.booked devices x.sound.few_devices (modest l devices x.sound) h a e

    pub going_done : devices ≤ d → AllWritten l devices before now t
    unfolding results_of
    going_done h =
        let e : d ≡ devices = omega (arith, x.within) in
        let b = booking_done (account_in l) ten before.accounts x.booked devices e in
        record {
          results = λ i.
              record {
                outcome = row_done l.intervals devices (outcome_part l) before.outcome now.outcome d e x.outcomes i;
                accounts = b.0 i;
              };
          totals = b.1;
        }
