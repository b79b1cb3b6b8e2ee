-- What only the contract of the private function `fill_device` needs. No promise of a public call rests on it.
-- Assumes nothing.
use Rattle.std.specs.Prelude.{ℕ, ◌+◌, ◌*◌, ◌≡◌}
use Rattle.rows.specs.Rows.{put}
use Rattle.accounts.specs.declared.Account.{Account}
use Rattle.drainage_outcomes.specs.Rows.{Rows}
use Rattle.drainage_devices.specs.Devices.{Lent, account_in, outcome_part, flow_part, content_part}

-- device d's part of the three rows written, the rest of them as it was, and its account
pub record Written (l : Lent) (d : ℕ) (before after : Rows) (a : Account) : Type 0 where
  pub outcome_built : after.outcome ≡ put before.outcome (d * l.intervals) (d * l.intervals + l.intervals) (outcome_part l d)
  pub flow_built : after.flow ≡ put before.flow (d * l.intervals) (d * l.intervals + l.intervals) (flow_part l d)
  pub content_built : after.content ≡ put before.content (d * l.intervals) (d * l.intervals + l.intervals) (content_part l d)
  pub account : a ≡ account_in l d
