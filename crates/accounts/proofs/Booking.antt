-- The loop over devices: the accounts of the first d devices stand in their places, and the totals are theirs. Start, step and
-- end, whatever is quantified.
-- Assumes nothing.
use Prim.Native.Nat.{ℕ, ◌+◌, ◌*◌, ◌≤◌, ◌<◌}
use mathlib.Core.Path.{◌≡◌, sym, ap, ◌∙◌, subst}
use mathlib.Core.List.{List}
use native.Mathlib.Numerals.{add-one}
use native.Mathlib.Omega.{arith}
use lib.ListN.{length}
use Rattle.rows.specs.Rows.{put}
use Rattle.rows.proofs.Joined.{Row, row_start, row_step}
use Rattle.protocol.specs.Ranges.{devices_most}
use Rattle.accounts.specs.declared.Account.{Account}
use Rattle.accounts.specs.declared.Totals.{Totals}
use Rattle.accounts.specs.Account.{outcome_kinds, account_size, accounts_of, numbers_of}
use Rattle.accounts.specs.Totals.{totals_over}
use Rattle.accounts.specs.Private.{added, Modest, Room}
use Rattle.accounts.proofs.Adding.{totals_more, room_for}
use Rattle.accounts.proofs.Numbers.{numbers_long}

pub record Booking (account : ℕ → Account) (before now : List ℕ) (t : Totals) (d : ℕ) : Type 0 where
  pub accounts : Row account_size devices_most (λ e. numbers_of (account e)) before now d
  pub totals : t ≡ totals_over d account

module _ (account : ℕ → Account) (ten : (k : ℕ) → length (account k).outcomes ≡ outcome_kinds) (before : List ℕ) where
  pub booking_start : (t : Totals) → length before ≡ devices_most * account_size → t ≡ totals_over 0 account → Booking account before before t 0
  booking_start t e q = record { accounts = row_start account_size devices_most (λ k. numbers_of (account k)) before e; totals = q }

  module _ {now : List ℕ} {t : Totals} {d : ℕ} (x : Booking account before now t d) where
    pub booking_more : (new : List ℕ) (t' : Totals) (a : Account) → d < devices_most → a ≡ account d
        → new ≡ put now (d * account_size) (d * account_size + account_size) (numbers_of a) → t' ≡ added t a → Booking account before new t' (d + 1)
    booking_more new t' a h q k e =
        record {
          accounts =
              row_step account_size devices_most (λ j. numbers_of (account j)) before now new d (λ j. numbers_long (account j) (ten j)) h x.accounts
              (k ∙ ap (λ (b : Account). put now (d * account_size) (d * account_size + account_size) (numbers_of b)) q);
          totals =
              e
              ∙ ap (λ (s : Totals). added s a) x.totals
              ∙ ap (added (totals_over d account)) q
              ∙ sym (totals_more account d)
              ∙ ap (λ (m : ℕ). totals_over m account) (sym (add-one d));
        }

    -- the totals so far leave room for this device's account, and the accounts have a place for it
    pub booking_room : (devices : ℕ) → devices ≤ devices_most → ((e : ℕ) → e < devices → Modest (account e)) → d < devices → (a : Account) → a ≡ account d
        → Room t × Modest a
    booking_room devices few modest h a e = (
      subst Room (sym x.totals) (room_for d account (omega arith) (λ k l. modest k (omega arith))),
      subst Modest (sym e) (modest d h),
    )

    pub booking_place : d < devices_most → (a : Account) → a ≡ account d
        → (d < devices_most) × (length a.outcomes ≡ outcome_kinds) × (length now ≡ devices_most * account_size)
    booking_place h a e = (h, ap (λ (b : Account). length b.outcomes) e ∙ ten d, x.accounts.long)

    pub booking_done : (devices : ℕ) → d ≡ devices → (now ≡ accounts_of devices account before) × (t ≡ totals_over devices account)
    booking_done devices e = (
      x.accounts.joined ∙ ap (λ (m : ℕ). accounts_of m account before) e,
      x.totals ∙ ap (λ (m : ℕ). totals_over m account) e,
    )
