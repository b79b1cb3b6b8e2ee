-- What was once refused and is given up.
-- Assumes nothing.
use Rattle.std.proofs.Common.{ℕ, ◌≡◌, refl, true, false, sym, ap, ◌∙◌, arith, Result, Ok, Err}
use Rattle.refusals.specs.declared.Refusal.{Refusal}
use Rattle.refusals.specs.Table.{told_of, told_by, all, lacks, listed}

-- rule 4.8: 8, once any wrong reading's, is given up: no refusal has it, and so no answer
eight_lacks : lacks 8 all ≡ true
unfolding lacks
eight_lacks = refl

pub never_eight : (r : Refusal) → (told_of r).number ≡ 8 → ⊥
never_eight r e =
    let has : lacks 8 all ≡ false = ap (λ (n : ℕ). lacks n all) (sym e) ∙ listed r in
    let lack : lacks 8 all ≡ true = eight_lacks in
    let z : ◌≡◌ {A = ℕ} 0 1 = cc in
    omega arith

pub verdict_never_eight : {A : Type 0} (v : Result A Refusal) → (told_by v).number ≡ 8 → ⊥
verdict_never_eight (Ok given) e = omega arith
verdict_never_eight (Err r) e = never_eight r e
