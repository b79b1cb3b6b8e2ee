-- Sums over devices, each of its own account.
-- Assumes nothing.
use Rattle.std.specs.Prelude.{ℕ, ◌≡◌, get_or}
use Rattle.accounts.specs.declared.Totals.{Totals}
use Rattle.accounts.specs.Totals.{totals_over}
use Rattle.drainage_device.specs.Device.{methane_of}
use Rattle.drainage_devices.specs.Devices.{Lent, Results, records_of, account_in, results_of}

-- a device's kind, and its methane litres (rule 9.3)
abbrev pub kind_in : Lent → ℕ → ℕ
kind_in l d = get_or l.kinds d 0

unfoldable pub litres_in : Lent → ℕ → ℕ
litres_in l d = methane_of (records_of l d)

-- over devices 0 up to, and without, d
abbrev pub totals_of : Lent → ℕ → Totals
totals_of l d = totals_over d (account_in l)

-- the rows and accounts of all devices and their totals
pub record AllWritten (l : Lent) (devices : ℕ) (before after : Results) (t : Totals) : Type 0 where
  pub results : after ≡ results_of l devices before
  pub totals : t ≡ totals_of l devices
