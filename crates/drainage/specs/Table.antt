-- rule 15.1: numbers on both sides of a limit, as one table: what the definitions give, and what the rule says.
-- Assumes nothing.
use Rattle.std.specs.Prelude.{ℕ, ◌≡◌, refl, Bool, true, false, List, [], ◌∷◌, ◌++◌, eqb, ℤ, pos, negsuc, replicate}
use Rattle.rows.specs.Rows.{both}
use Rattle.volume.specs.Volume.{correction_down, hundredths_of, methane_litres_in}
use Rattle.drainage_drift.specs.Drift.{corrected_at, kept_or, corrected, stretch_drift, together}
use Rattle.drainage_window.specs.Window.{tally_of, mean_of, limit_of, meets, greatest_up_to, z90}
use Rattle.balance.specs.Balance.{destroyed_of, uncombusted_of, carbon_dioxide_mg, tonnes_of, credits_of}

pub record Line : Type 0 where
  pub given : ℤ
  pub document : ℤ

sameℤ : ℤ → ℤ → Bool
sameℤ (pos a) (pos b) = eqb a b
sameℤ (pos a) (negsuc b) = false
sameℤ (negsuc a) (pos b) = false
sameℤ (negsuc a) (negsuc b) = eqb a b

agree : List Line → Bool
agree [] = true
agree (x ∷ xs) = both (sameℤ x.given x.document) (agree xs)

says : ℕ → ℕ → Line
says given document = record { given = pos given; document = pos document }

-- one check at the end of a record of one interval, where the reading is 1,000
drifted : ℤ → ℕ
drifted d = corrected_at (record { count = 1; positions = 1 ∷ []; drifts = d ∷ [] }) (1000 ∷ []) 0

table : List Line
table =
    says (hundredths_of 1000 (pos 2000) 101325) 10000000
    ∷ says (hundredths_of 1000 (pos 0) 101325) 10732198
    ∷ says (hundredths_of 1 (pos 10000) 50000) 3876
    ∷ says (methane_litres_in 300 4999) 1
    ∷ says (drifted (pos 499)) 1000
    ∷ says (drifted (pos 500)) 952
    ∷ says (drifted (negsuc 599)) 1000
    ∷ says (mean_of (tally_of (replicate 16 100 ++ replicate 16 101))) 100
    ∷ says (limit_of (tally_of (replicate 96 0 ++ replicate 96 2000)) z90) 880
    ∷ says (limit_of (tally_of (replicate 191 0 ++ replicate 1 192)) z90) 0
    ∷ record { given = tonnes_of (negsuc 94405687); document = negsuc 0 }
    ∷ says (credits_of (tonnes_of (negsuc 94405687))) 0
    ∷ says (destroyed_of 2 50000) 49750
    ∷ says (uncombusted_of 2 50000) 250
    ∷ says (carbon_dioxide_mg 49750) 91253938
    ∷ []

-- rule 15.1: the one statement, that every line agrees
marked_numbers : agree table ≡ true
unfolding table agree says sameℤ drifted hundredths_of correction_down methane_litres_in corrected_at kept_or corrected stretch_drift together mean_of limit_of tally_of meets greatest_up_to tonnes_of credits_of destroyed_of uncombusted_of carbon_dioxide_mg
marked_numbers = refl
