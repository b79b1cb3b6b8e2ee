-- An account as numbers, and where each of them stands in the accounts of all devices.
-- Assumes nothing.
use Prim.Native.Nat.{ℕ, ◌+◌, ◌*◌, ◌≤◌, ◌<◌}
use mathlib.Core.Path.{◌≡◌, sym, ap, ◌∙◌, subst}
use mathlib.Core.List.{List, [], ◌∷◌}
use native.Mathlib.Nat.{le_trans, lt_of_not-le}
use native.Mathlib.Decide.{dec_le}
use native.Mathlib.Omega.{arith}
use lib.ListN.{length, get_or, drop, length-append, get_or-append, get_or-eq_default}
use lib.Seq.{get_or-append-add}
use Rattle.rows.specs.Rows.{build, count_of, join}
use Rattle.rows.proofs.Laws.{length-build, get_or-build, length-join, get_or-join, room}
use Rattle.rows.proofs.Sums.{count_most}
use Rattle.protocol.specs.Ranges.{intervals_most}
use Rattle.accounts.specs.declared.Account.{Account}
use Rattle.accounts.specs.Account.{outcome_kinds, count_in, numbers_of, account_size, accounts_of}

-- ten counts and three sums of litres: thirteen numbers
pub numbers_long : (a : Account) → length a.outcomes ≡ outcome_kinds → length (numbers_of a) ≡ account_size
numbers_long a e = length-append a.outcomes (a.methane ∷ a.destroyed ∷ a.uncombusted ∷ []) ∙ ap (λ (n : ℕ). n + 3) e

outcome_number : (a : Account) → length a.outcomes ≡ outcome_kinds → (j : ℕ) → j < outcome_kinds → get_or (numbers_of a) j 0 ≡ count_in a j
outcome_number a e j h = get_or-append a.outcomes (a.methane ∷ a.destroyed ∷ a.uncombusted ∷ []) 0 j (subst (λ (m : ℕ). j < m) (sym e) h)

litres_number : (a : Account) → length a.outcomes ≡ outcome_kinds → (j : ℕ)
    → get_or (numbers_of a) (outcome_kinds + j) 0 ≡ get_or (a.methane ∷ a.destroyed ∷ a.uncombusted ∷ []) j 0
litres_number a e j =
    ap (λ (m : ℕ). get_or (numbers_of a) (m + j) 0) (sym e) ∙ get_or-append-add a.outcomes (a.methane ∷ a.destroyed ∷ a.uncombusted ∷ []) j 0

module _ (devices : ℕ) (account : ℕ → Account) (ten : (d : ℕ) → d < devices → length (account d).outcomes ≡ outcome_kinds) (before : List ℕ)
    (d : ℕ) (h : d < devices) where
  -- device d's numbers are those of its account
  number_at : (j : ℕ) → j < account_size → get_or (accounts_of devices account before) (d * account_size + j) 0 ≡ get_or (numbers_of (account d)) j 0
  number_at j z =
      get_or-append (join devices numbers) (drop (devices * account_size) before) 0 (d * account_size + j)
      (subst (λ (m : ℕ). d * account_size + j < m) (sym (length-join account_size devices numbers long)) inside)
      ∙ get_or-join account_size devices numbers 0 long d j h z
    where
      numbers : ℕ → List ℕ
      numbers e = numbers_of (account e)

      long : (k : ℕ) → k < devices → length (numbers k) ≡ account_size
      long k w = numbers_long (account k) (ten k w)

      inside : d * account_size + j < devices * account_size
      inside = let w : d * account_size + account_size ≤ devices * account_size = room account_size d devices h in omega arith

  pub count_at : (j : ℕ) → j < outcome_kinds → get_or (accounts_of devices account before) (d * account_size + j) 0 ≡ count_in (account d) j
  count_at j z = number_at j (omega arith) ∙ outcome_number (account d) (ten d h) j z

  pub methane_at : get_or (accounts_of devices account before) (d * account_size + outcome_kinds) 0 ≡ (account d).methane
  methane_at = number_at outcome_kinds (omega arith) ∙ litres_number (account d) (ten d h) 0

  pub destroyed_at : get_or (accounts_of devices account before) (d * account_size + (outcome_kinds + 1)) 0 ≡ (account d).destroyed
  destroyed_at = number_at (outcome_kinds + 1) (omega arith) ∙ litres_number (account d) (ten d h) 1

  pub uncombusted_at : get_or (accounts_of devices account before) (d * account_size + (outcome_kinds + 2)) 0 ≡ (account d).uncombusted
  uncombusted_at = number_at (outcome_kinds + 2) (omega arith) ∙ litres_number (account d) (ten d h) 2

-- ---- counts of at most a year's intervals

pub built_most : (n : ℕ) (f : ℕ → ℕ) → n ≤ intervals_most → (j : ℕ) → get_or (build outcome_kinds (count_of n f)) j 0 ≤ intervals_most
built_most n f h j = elim (dec_le outcome_kinds j) [ yes z ↦ past z | no z ↦ inside (lt_of_not-le z) ]
  where
    inside : j < outcome_kinds → get_or (build outcome_kinds (count_of n f)) j 0 ≤ intervals_most
    inside z = subst (λ (v : ℕ). v ≤ intervals_most) (sym (get_or-build outcome_kinds (count_of n f) j 0 z)) (le_trans (count_most n f j) h)

    past : outcome_kinds ≤ j → get_or (build outcome_kinds (count_of n f)) j 0 ≤ intervals_most
    past z =
        let w : length (build outcome_kinds (count_of n f)) ≤ j = omega (arith, length-build outcome_kinds (count_of n f)) in
        let y : get_or (build outcome_kinds (count_of n f)) j 0 ≡ 0 = get_or-eq_default (build outcome_kinds (count_of n f)) 0 w in
        omega arith
