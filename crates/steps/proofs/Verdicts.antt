-- The first refusal of a list of steps: how a scan's answer settles one step, what a verdict means, and that it is the only one.
-- Assumes nothing.
use Prim.Native.Nat.{ℕ, ◌≤◌, ◌<◌}
use mathlib.Core.Path.{◌≡◌, refl, sym, ap, ◌∙◌}
use mathlib.Core.Bool.{Bool, true, false}
use mathlib.Core.List.{List, [], ◌∷◌, ◌++◌}
use native.Mathlib.Omega.{arith}
use lib.Dec.{ltb}
use borrow.Author.Tests.{lt-ltb, le-ltb, ltb-true, ltb-false}
use Rattle.rows.specs.Rows.{pick, FirstOf}
use Rattle.rows.proofs.Laws.{first_of, first_is}
use Rattle.rows.proofs.Scan.{passed_none, passed_more, passed_found, passed_all}
use Rattle.refusals.specs.declared.Refusal.{Refusal}
use Rattle.std.proofs.Common.{Result, Ok, Err}
use Rattle.refusals.specs.Table.{told_by}
use Rattle.steps.specs.Step.{Step, offender, verdict_of, step_verdict, Clear, AllClear, Refuses, Tells}
use Rattle.steps.specs.Scans.{Finds}

-- ---- a scan's answer settles its step

module _ (s : Step) (ss : List Step) (r : ℕ) where
  pub stops : Finds s r → r < s.size → verdict_of (s ∷ ss) ≡ Err (s.refusal r)
  unfolding verdict_of
  stops x h =
      ap (λ (k : ℕ). pick (ltb k s.size) (Err (s.refusal k)) (verdict_of ss)) (sym (first_of s.size s.bad r x))
      ∙ ap (λ (b : Bool). pick b (Err (s.refusal r)) (verdict_of ss)) (lt-ltb r s.size h)

  pub goes : Finds s r → s.size ≤ r → verdict_of (s ∷ ss) ≡ verdict_of ss
  unfolding verdict_of
  goes x h =
      ap (λ (k : ℕ). pick (ltb k s.size) (Err (s.refusal k)) (verdict_of ss)) (sym (first_of s.size s.bad r x))
      ∙ ap (λ (b : Bool). pick b (Err (s.refusal r)) (verdict_of ss)) (le-ltb r s.size h)

pub end_clean : verdict_of [] ≡ Ok tt
unfolding verdict_of
end_clean = refl

-- a step that looks at one thing
module _ (s : Step) (ss : List Step) where
  pub one_stops : s.size ≡ 1 → s.bad 0 ≡ true → verdict_of (s ∷ ss) ≡ Err (s.refusal 0)
  one_stops e b = stops s ss 0 (passed_found _ _ 0 (passed_none _ _) b) (omega (arith, e))

  pub one_goes : s.size ≡ 1 → s.bad 0 ≡ false → verdict_of (s ∷ ss) ≡ verdict_of ss
  one_goes e b =
      goes s ss 1 (passed_all _ _ 1 (passed_more _ _ 0 (passed_none _ _) (omega (arith, e)) b) (omega (arith, e))) (omega (arith, e))

-- ---- what a verdict means

pub zero_is_one : ◌≡◌ {A = ℕ} 0 1 → ⊥
zero_is_one z = omega arith

-- of a list that begins with s
module _ (s : Step) (ss : List Step) where
  -- s refuses, or s is clear and the rest decides
  step_cases : {P : Type 0} → (offender s < s.size → verdict_of (s ∷ ss) ≡ Err (s.refusal (offender s)) → P)
      → (Clear s → verdict_of (s ∷ ss) ≡ verdict_of ss → P) → P
  step_cases {P} f g = go (ltb (offender s) s.size) refl
    where
      x : FirstOf s.size s.bad (offender s)
      x = first_is s.size s.bad

      go : (b : Bool) → ltb (offender s) s.size ≡ b → P
      go true e = let h : offender s < s.size = ltb-true _ _ e in f h (stops s ss (offender s) x h)
      go false e =
          let h : s.size ≤ offender s = ltb-false _ _ e in
          g (record { clear = λ k l. x.before k (omega arith) }) (goes s ss (offender s) x h)

-- clean exactly if no step has an offender (rule 5.3)
pub clean_clear : (ss : List Step) → verdict_of ss ≡ Ok tt → AllClear ss
clean_clear [] e = AllClear.none
clean_clear (s ∷ ss) e =
    step_cases s ss
    (λ h q. let z : ◌≡◌ {A = ℕ} 0 1 = cc in absurd (zero_is_one z))
    (λ x q. AllClear.more x (clean_clear ss (sym q ∙ e)))

clear_goes : (s : Step) (ss : List Step) → Clear s → verdict_of (s ∷ ss) ≡ verdict_of ss
clear_goes s ss x =
    goes s ss s.size (record { within = omega arith; before = x.clear; found = λ h. absurd (let w : ⊥ = omega arith in w) }) (omega arith)

pub clear_clean : (ss : List Step) → AllClear ss → verdict_of ss ≡ Ok tt
unfolding verdict_of
clear_clean [] AllClear.none = refl
clear_clean (s ∷ ss) (AllClear.more x y) = clear_goes s ss x ∙ clear_clean ss y

-- a refusal is that of the first offender of the first step that has one (rule 5.2)
pub refused_first : (ss : List Step) (r : Refusal) → verdict_of ss ≡ Err r → Refuses ss r
unfolding verdict_of
refused_first [] r e = let z : ◌≡◌ {A = ℕ} 0 1 = cc in absurd (zero_is_one z)
refused_first (s ∷ ss) r e =
    step_cases s ss
    (λ h q. let z : r ≡ s.refusal (offender s) = cc in Refuses.here (offender s) (first_is s.size s.bad) h z)
    (λ x q. Refuses.later x (refused_first ss r (sym q ∙ e)))

pub first_refused : (ss : List Step) (r : Refusal) → Refuses ss r → verdict_of ss ≡ Err r
first_refused [] r x' = elim x' [ ]
first_refused (s ∷ ss) r (Refuses.here k x h e) = stops s ss k x h ∙ ap Err (sym e)
first_refused (s ∷ ss) r (Refuses.later x y) = clear_goes s ss x ∙ first_refused ss r y

-- there is one refusal only, and none where all is clear
pub refuses_unique : (ss : List Step) (r q : Refusal) → Refuses ss r → Refuses ss q → r ≡ q
refuses_unique ss r q x y =
    let a : verdict_of ss ≡ Err r = first_refused ss r x in
    let b : verdict_of ss ≡ Err q = first_refused ss q y in
    cc

pub refuses_unclear : (ss : List Step) (r : Refusal) → Refuses ss r → AllClear ss → ⊥
refuses_unclear ss r x y =
    let a : verdict_of ss ≡ Err r = first_refused ss r x in
    let b : verdict_of ss ≡ Ok tt = clear_clean ss y in
    let z : ◌≡◌ {A = ℕ} 0 1 = cc in
    zero_is_one z

-- ---- a list in two parts: the first part's refusal is the whole's, else the second part decides

pub part_stops : (xs ys : List Step) (r : Refusal) → verdict_of xs ≡ Err r → verdict_of (xs ++ ys) ≡ Err r
part_stops xs ys r e = first_refused (xs ++ ys) r (longer xs (refused_first xs r e))
  where
    longer : (xs : List Step) → Refuses xs r → Refuses (xs ++ ys) r
    longer [] x' = elim x' [ ]
    longer (s ∷ ss) (Refuses.here k x h q) = Refuses.here k x h q
    longer (s ∷ ss) (Refuses.later x y) = Refuses.later x (longer ss y)

pub part_goes : (xs ys : List Step) → verdict_of xs ≡ Ok tt → verdict_of (xs ++ ys) ≡ verdict_of ys
part_goes xs ys e = past xs (clean_clear xs e)
  where
    past : (xs : List Step) → AllClear xs → verdict_of (xs ++ ys) ≡ verdict_of ys
    past [] AllClear.none = refl
    past (s ∷ ss) (AllClear.more x y) = clear_goes s (ss ++ ys) x ∙ past ss y

-- ---- steps one after the other, each answered alone

module _ (s : Step) (ss : List Step) where
  -- a step that refuses nothing leaves the answer to those after it
  pub step_goes : step_verdict s ≡ Ok tt → verdict_of (s ∷ ss) ≡ verdict_of ss
  step_goes e = part_goes (s ∷ []) ss e

  -- a step that refuses answers for all
  pub step_stops : (r : Refusal) → step_verdict s ≡ Err r → verdict_of (s ∷ ss) ≡ Err r
  step_stops r e = part_stops (s ∷ []) ss r e

pub step_clear : {s : Step} → Ok tt ≡ step_verdict s → Clear s
step_clear {s} e = elim (clean_clear (s ∷ []) (sym e)) [ AllClear.more x y ↦ x ]

-- what a chain of `?` goes through: steps that refuse nothing, up to the first that refuses or the last
pub data Chain : List Step → Result Unit Refusal → Type 0 where
  passed : {s : Step} {ss : List Step} {v : Result Unit Refusal} → Ok tt ≡ step_verdict s → Chain ss v → Chain (s ∷ ss) v
  refused : {s : Step} {ss : List Step} {r : Refusal} → Err r ≡ step_verdict s → Chain (s ∷ ss) (Err r)
  last : {s : Step} {v : Result Unit Refusal} → v ≡ step_verdict s → Chain (s ∷ []) v

pub chain_verdict : (ss : List Step) (v : Result Unit Refusal) → Chain ss v → v ≡ verdict_of ss
chain_verdict [] v x = elim x [ ]
chain_verdict (s ∷ ss) v (Chain.passed e x) = chain_verdict ss v x ∙ sym (step_goes s ss (sym e))
chain_verdict (s ∷ ss) v (Chain.refused e) = sym (step_stops s ss _ (sym e))
chain_verdict (s ∷ ss) v (Chain.last e) = e

-- ---- what is told of a verdict

pub verdict_tells : (ss : List Step) (v : Result Unit Refusal) → v ≡ verdict_of ss → Tells ss (told_by v)
verdict_tells ss v e =
    record {
      clear = λ x. ap told_by (e ∙ clear_clean ss x);
      offended = λ r x. ap told_by (e ∙ first_refused ss r x);
    }

-- ---- one step of many, wherever it stands in the order

pub data Among : Step → List Step → Type 0 where
  top : {s : Step} {ss : List Step} → Among s (s ∷ ss)
  under : {s t : Step} {ss : List Step} → Among s ss → Among s (t ∷ ss)

pub clear_of : {s : Step} {ss : List Step} → AllClear ss → Among s ss → Clear s
clear_of {s = s} AllClear.none x3 = elim x3 [ ]
clear_of (AllClear.more x y) Among.top = x
clear_of (AllClear.more x y) (Among.under m) = clear_of y m
