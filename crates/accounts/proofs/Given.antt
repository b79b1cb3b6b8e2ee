-- What devices whose accounts count their own outcomes give agrees with itself, whatever was quantified.
-- Assumes nothing.
use Prim.Native.Nat.{ℕ, ◌+◌, ◌*◌, ◌<◌}
use mathlib.Core.Path.{◌≡◌, sym, ap, ap₂, ◌∙◌, subst}
use mathlib.Core.Bool.{Bool, not}
use mathlib.Core.List.{List}
use native.Mathlib.Omega.{arith}
use lib.Dec.{eqb}
use lib.ListN.{length, get_or}
use Rattle.rows.specs.Rows.{pick, either, build, sum_to, count_of, hit, join}
use Rattle.rows.proofs.Laws.{get_or-join, get_or-build, length-build}
use Rattle.rows.proofs.Sums.{sum_to_ext, sum_to_add, sum_to_const, counts_add}
use Rattle.figures.specs.declared.Figures.{Figures}
use Rattle.accounts.specs.declared.Account.{Account}
use Rattle.accounts.specs.Account.{outcome_kinds, counted, count_in, accounts_of}
use Rattle.accounts.specs.Totals.{counted_in, replaced_in, excluded_in, totals_over}
use Rattle.accounts.specs.Sheet.{figures_from}
use Rattle.accounts.specs.Accounted.{outcome_given, count_given, methane_given, destroyed_given, uncombusted_given, entries_with, Accounted}
use Rattle.accounts.proofs.Counting.{sum_rows, row_counted, row_replaced, row_excluded}
use Rattle.accounts.proofs.Numbers.{count_at, methane_at, destroyed_at, uncombusted_at}

-- each device's account counts the outcomes of its own n intervals, and shares out its litres
pub record Counts (n devices : ℕ) (outcome : ℕ → ℕ → ℕ) (account : ℕ → Account) : Type 0 where
  pub few : (d k : ℕ) → d < devices → k < n → outcome d k < outcome_kinds
  pub counts : (d : ℕ) → d < devices → (account d).outcomes ≡ build outcome_kinds (count_of n (outcome d))
  pub shares : (d : ℕ) → d < devices → (account d).destroyed + (account d).uncombusted ≡ (account d).methane

module _ (n devices : ℕ) (outcome : ℕ → ℕ → ℕ) (account : ℕ → Account) (x : Counts n devices outcome account) where
  -- the joined outcome row, and the sheet
  abbrev row : List ℕ
  row = join devices (λ d. build n (outcome d))

  abbrev figures : ℕ → Figures
  figures fuel = figures_from n devices (totals_over devices account) fuel

  pub outcome_at_lem : (d k : ℕ) → d < devices → k < n → get_or row (d * n + k) 0 ≡ outcome d k
  outcome_at_lem d k h l =
      get_or-join n devices (λ e. build n (outcome e)) 0 (λ j z. length-build n (outcome j)) d k h l ∙ get_or-build n (outcome d) k 0 l

  pub ten : (d : ℕ) → d < devices → length (account d).outcomes ≡ outcome_kinds
  ten d h = ap length (x.counts d h) ∙ length-build outcome_kinds (count_of n (outcome d))

  -- ---- counts

  -- a device's count is that of its part of the outcome row
  pub count_row : (d j : ℕ) → d < devices → j < outcome_kinds → count_in (account d) j ≡ count_of n (λ k. outcome_given row (d * n + k)) j
  count_row d j h l =
      ap (λ (xs : List ℕ). get_or xs j 0) (x.counts d h)
      ∙ get_or-build outcome_kinds (count_of n (outcome d)) j 0 l
      ∙ sum_to_ext n (λ k. hit (outcome d k) j) (λ k. hit (outcome_given row (d * n + k)) j) (λ k m. ap (λ (o : ℕ). hit o j) (sym (outcome_at_lem d k h m)))

  given_few : (d k : ℕ) → d < devices → k < n → outcome_given row (d * n + k) < outcome_kinds
  given_few d k h l = subst (λ (o : ℕ). o < 10) (sym (outcome_at_lem d k h l)) (x.few d k h l)

  -- what a test counts in the whole row it counts in each device's part
  by_rows : (test : ℕ → Bool) (g : ℕ → ℕ) → ((d : ℕ) → d < devices → g d ≡ sum_to n (λ k. pick (test (outcome_given row (d * n + k))) 1 0))
      → sum_to devices g ≡ entries_with (devices * n) row test
  by_rows test g h =
      sum_to_ext devices g (λ d. sum_to n (λ k. pick (test (outcome_given row (d * n + k))) 1 0)) h
      ∙ sym (sum_rows devices n (λ k. pick (test (outcome_given row k)) 1 0))

  pub counted_in_lem : (d : ℕ) → d < devices → counted_in (account d) ≡ sum_to n (λ k. pick (counted (outcome_given row (d * n + k))) 1 0)
  unfolding counted_in
  counted_in_lem d h =
      ap₂ ◌+◌ (ap₂ ◌+◌ (count_row d 0 h (omega arith)) (count_row d 1 h (omega arith))) (count_row d 2 h (omega arith))
      ∙ sym (row_counted n (λ k. outcome_given row (d * n + k)))

  replaced_in_lem : (d : ℕ) → d < devices
      → replaced_in (account d) ≡ sum_to n (λ k. pick (either (eqb (outcome_given row (d * n + k)) 1) (eqb (outcome_given row (d * n + k)) 2)) 1 0)
  unfolding replaced_in
  replaced_in_lem d h =
      ap₂ ◌+◌ (count_row d 1 h (omega arith)) (count_row d 2 h (omega arith)) ∙ sym (row_replaced n (λ k. outcome_given row (d * n + k)))

  excluded_in_lem : (d : ℕ) → d < devices → excluded_in (account d) ≡ sum_to n (λ k. pick (not (counted (outcome_given row (d * n + k)))) 1 0)
  unfolding excluded_in
  excluded_in_lem d h =
      sum_to_ext 7 (λ j. count_in (account d) (3 + j)) (λ j. count_of n (λ k. outcome_given row (d * n + k)) (3 + j)) (λ j z. count_row d (3 + j) h (omega arith))
      ∙ sym (row_excluded n (λ k. outcome_given row (d * n + k)) (λ k l. given_few d k h l))

  all_of : (d : ℕ) → d < devices → sum_to outcome_kinds (count_in (account d)) ≡ n
  all_of d h =
      sum_to_ext outcome_kinds (count_in (account d)) (count_of n (outcome d))
      (λ j l. ap (λ (xs : List ℕ). get_or xs j 0) (x.counts d h) ∙ get_or-build outcome_kinds (count_of n (outcome d)) j 0 l)
      ∙ counts_add n outcome_kinds (outcome d) (λ k l. x.few d k h l)

  counted_or_not : (d : ℕ) → d < devices → counted_in (account d) + excluded_in (account d) ≡ n
  unfolding counted_in excluded_in
  counted_or_not d h = regroup (count_in (account d)) n (all_of d h)
    where
      regroup : (f : ℕ → ℕ) (n : ℕ) → sum_to 10 f ≡ n → f 0 + f 1 + f 2 + sum_to 7 (λ j. f (3 + j)) ≡ n
      regroup f n e = omega arith

  -- ---- the sheet

  module _ (fuel : ℕ) where
    counted_is : (figures fuel).counted ≡ entries_with (devices * n) row counted
    unfolding figures_from totals_over
    counted_is = by_rows counted (λ d. counted_in (account d)) counted_in_lem

    replaced_is : (figures fuel).replaced ≡ entries_with (devices * n) row (λ o. either (eqb o 1) (eqb o 2))
    unfolding figures_from totals_over
    replaced_is = by_rows (λ o. either (eqb o 1) (eqb o 2)) (λ d. replaced_in (account d)) replaced_in_lem

    excluded_is : (figures fuel).excluded ≡ entries_with (devices * n) row (λ o. not (counted o))
    unfolding figures_from totals_over
    excluded_is = by_rows (λ o. not (counted o)) (λ d. excluded_in (account d)) excluded_in_lem

    sheet_counts : (figures fuel).counted + (figures fuel).excluded ≡ devices * n
    unfolding figures_from totals_over
    sheet_counts =
        sym (sum_to_add devices (λ d. counted_in (account d)) (λ d. excluded_in (account d)))
        ∙ sum_to_ext devices (λ d. counted_in (account d) + excluded_in (account d)) (λ d. n) counted_or_not
        ∙ sum_to_const devices n

    sheet_litres : (figures fuel).destroyed_l + (figures fuel).uncombusted_l ≡ (figures fuel).methane_l
    unfolding figures_from totals_over
    sheet_litres =
        sym (sum_to_add devices (λ d. (account d).destroyed) (λ d. (account d).uncombusted))
        ∙ sum_to_ext devices (λ d. (account d).destroyed + (account d).uncombusted) (λ d. (account d).methane) x.shares

    module _ (before : List ℕ) where
      abbrev given : List ℕ
      given = accounts_of devices account before

      methane_is : (figures fuel).methane_l ≡ sum_to devices (methane_given given)
      unfolding figures_from totals_over
      methane_is = sum_to_ext devices (λ d. (account d).methane) (methane_given given) (λ d h. sym (methane_at devices account ten before d h))

      destroyed_is : (figures fuel).destroyed_l ≡ sum_to devices (destroyed_given given)
      unfolding figures_from totals_over
      destroyed_is = sum_to_ext devices (λ d. (account d).destroyed) (destroyed_given given) (λ d h. sym (destroyed_at devices account ten before d h))

      uncombusted_is : (figures fuel).uncombusted_l ≡ sum_to devices (uncombusted_given given)
      unfolding figures_from totals_over
      uncombusted_is = sum_to_ext devices (λ d. (account d).uncombusted) (uncombusted_given given) (λ d h. sym (uncombusted_at devices account ten before d h))

      pub accounted : Accounted n devices row given (figures fuel)
      accounted =
          record {
            sheet_counted = counted_is;
            sheet_replaced = replaced_is;
            sheet_excluded = excluded_is;
            all_counted = sheet_counts;
            counts = λ d h j l. count_at devices account ten before d h j l ∙ count_row d j h l;
            counts_add = λ d h.
                sum_to_ext outcome_kinds (count_given given d) (count_in (account d)) (λ j l. count_at devices account ten before d h j l) ∙ all_of d h;
            partition = λ d h.
                ap₂ ◌+◌ (destroyed_at devices account ten before d h) (uncombusted_at devices account ten before d h)
                ∙ x.shares d h
                ∙ sym (methane_at devices account ten before d h);
            sheet_partition = sheet_litres;
            methane_sum = methane_is;
            destroyed_sum = destroyed_is;
            uncombusted_sum = uncombusted_is;
          }
