-- Laws of each device's part of the rows, and of its account.
-- Assumes nothing.
use Prim.Native.Nat.{ℕ, ◌+◌, ◌-◌, ◌*◌, ◌≤◌, ◌<◌}
use mathlib.Core.Path.{◌≡◌, sym, ap, ◌∙◌, subst}
use mathlib.Core.List.{List, ◌++◌}
use native.Mathlib.Nat.{le_trans}
use native.Mathlib.Omega.{arith}
use lib.ListN.{length, take, drop}
use Rattle.rows.specs.Rows.{build, count_of, put}
use Rattle.rows.proofs.Laws.{length-build}
use Rattle.columns.proofs.Laws as Series
use Rattle.columns.proofs.Laws.{part_end, scaled}
use Rattle.balance.specs.Balance.{device_most}
use Rattle.balance.proofs.Laws.{destroyed_le, uncombusted_le, partition}
use Rattle.accounts.specs.declared.Account.{Account}
use Rattle.accounts.specs.Account.{outcome_kinds}
use Rattle.accounts.specs.Private.{Modest}
use Rattle.accounts.proofs.Given.{Counts}
use Rattle.accounts.proofs.Numbers.{built_most}
use Rattle.drainage_outcomes.specs.Rows.{Rows, rows_of, RowsLong}
use Rattle.drainage_device.specs.Device.{Records, intervals_of, outcome_at, flow_used_at, content_used_at, methane_of, account_of, Right, Filled}
use Rattle.drainage_device.proofs.Laws.{device_most_lem, outcome_few}
use Rattle.drainage_devices.specs.Devices.{Lent, records_of, account_in, outcome_part, flow_part, content_part, Sound}
use Rattle.drainage_devices.specs.Totals.{litres_in}
use Rattle.drainage_devices.specs.Private.{Written}

-- ---- an account

pub account_ten : (r : Records) → length (account_of r).outcomes ≡ outcome_kinds
unfolding account_of
account_ten r = length-build outcome_kinds (count_of (intervals_of r) (outcome_at r))

account_modest : (r : Records) → Right r → Modest (account_of r)
unfolding account_of
account_modest r x =
    record {
      ten = account_ten r;
      count_most = built_most (intervals_of r) (outcome_at r) x.few;
      methane_most = device_most_lem r x;
      destroyed_most = le_trans (destroyed_le r.kind (methane_of r)) (device_most_lem r x);
      uncombusted_most = le_trans (uncombusted_le r.kind (methane_of r)) (device_most_lem r x);
    }

account_counts : (r : Records) → (account_of r).outcomes ≡ build outcome_kinds (count_of (intervals_of r) (outcome_at r))
unfolding account_of
account_counts r i = build outcome_kinds (count_of (intervals_of r) (outcome_at r))

account_shares : (r : Records) → (account_of r).destroyed + (account_of r).uncombusted ≡ (account_of r).methane
unfolding account_of
account_shares r = partition r.kind (methane_of r)

module _ (l : Lent) (devices : ℕ) (x : Sound l devices) where
  -- device d has its whole row
  pub row_long : (d : ℕ) → d < devices → intervals_of (records_of l d) ≡ l.intervals
  unfolding records_of
  row_long d h = Series.row_long l.series.flow devices l.intervals d h x.long.flow

  pub modest : (d : ℕ) → d < devices → Modest (account_in l d)
  modest d h = account_modest (records_of l d) (x.right d h)

  -- a device's litres in a year
  pub litres_most_lem : (d : ℕ) → d < devices → litres_in l d ≤ device_most
  unfolding litres_in
  litres_most_lem d h = device_most_lem (records_of l d) (x.right d h)

  -- each account counts its own device's outcomes, and shares out its litres
  pub counts : Counts l.intervals devices (λ d. outcome_at (records_of l d)) (account_in l)
  counts =
      record {
        few = λ d k h z. outcome_few (records_of l d) (x.right d h) k (subst (λ (m : ℕ). k < m) (sym (row_long d h)) z);
        counts = λ d h. account_counts (records_of l d) ∙ ap (λ (n : ℕ). build outcome_kinds (count_of n (outcome_at (records_of l d)))) (row_long d h);
        shares = λ d h. account_shares (records_of l d);
      }

-- ---- what is lent on to one device's function, and what it leaves in the whole rows

-- rows that are parted at device d's row: what stands before it, the row itself and what follows it
abbrev pub rows_before : Rows → ℕ → ℕ → Rows
rows_before s n d = rows_of (take (d * n) s.outcome) (take (d * n) s.flow) (take (d * n) s.content)

abbrev pub rows_part : Rows → ℕ → ℕ → Rows
rows_part s n d = rows_of (take n (drop (d * n) s.outcome)) (take n (drop (d * n) s.flow)) (take n (drop (d * n) s.content))

abbrev pub rows_behind : Rows → ℕ → ℕ → Rows
rows_behind s n d = rows_of (drop n (drop (d * n) s.outcome)) (drop n (drop (d * n) s.flow)) (drop n (drop (d * n) s.content))

-- the three joined again
abbrev pub rows_joined : Rows → Rows → Rows → Rows
rows_joined x part y =
    rows_of (x.outcome ++ (part.outcome ++ y.outcome)) (x.flow ++ (part.flow ++ y.flow)) (x.content ++ (part.content ++ y.content))

-- r is device d's records, as the code puts them together
module _ (l : Lent) (devices : ℕ) (x : Sound l devices) (d : ℕ) (h : d < devices) (s : Rows) (r : Records) (e : r ≡ records_of l d) where
  width : d * l.intervals + l.intervals - d * l.intervals ≡ l.intervals
  width = omega arith

  pub parts_right : (part : Rows) → part ≡ rows_part s l.intervals d → RowsLong s (devices * l.intervals)
      → Right r × RowsLong part (intervals_of r)
  parts_right part q p =
      rw (e, q) (x.right d h, record { outcome = long s.outcome p.outcome; flow = long s.flow p.flow; content = long s.content p.content })
    where
      long : (xs : List ℕ) → length xs ≡ devices * l.intervals
          → length (take l.intervals (drop (d * l.intervals) xs)) ≡ intervals_of (records_of l d)
      long xs q =
          ap (λ (m : ℕ). length (take m (drop (d * l.intervals) xs))) (sym width) ∙ Series.row_long xs devices l.intervals d h q
          ∙ sym (row_long l devices x d h)

  pub rows_written : (before part behind : Rows) (a : Account) → before ≡ rows_before s l.intervals d → behind ≡ rows_behind s l.intervals d
      → Filled r part a → Written l d s (rows_joined before part behind) a
  unfolding outcome_part flow_part content_part
  rows_written before part behind a eb ea y =
      let z : Filled (records_of l d) part a = subst (λ (k : Records). Filled k part a) e y in
      record {
        outcome_built = joined s.outcome (λ i. (eb i).outcome) (z.outcome_built ∙ whole (outcome_at (records_of l d))) (λ i. (ea i).outcome);
        flow_built = joined s.flow (λ i. (eb i).flow) (z.flow_built ∙ whole (flow_used_at (records_of l d))) (λ i. (ea i).flow);
        content_built =
            joined s.content (λ i. (eb i).content) (z.content_built ∙ whole (content_used_at (records_of l d))) (λ i. (ea i).content);
        account = z.account;
      }
    where
      whole : (g : ℕ → ℕ) → build (intervals_of (records_of l d)) g ≡ build l.intervals g
      whole g = ap (λ (m : ℕ). build m g) (row_long l devices x d h)

      joined : (xs : List ℕ) {p q ys t : List ℕ} → p ≡ take (d * l.intervals) xs → q ≡ ys → t ≡ drop l.intervals (drop (d * l.intervals) xs)
          → p ++ (q ++ t) ≡ put xs (d * l.intervals) (d * l.intervals + l.intervals) ys
      joined xs {p} {q} {ys} {t} ep eq et =
          (λ i. ep i ++ (eq i ++ et i)) ∙ ap (λ (m : ℕ). take (d * l.intervals) xs ++ (ys ++ drop m (drop (d * l.intervals) xs))) (sym width)
