-- Calls that are refused, or just not.
-- Assumes nothing.
use Rattle.std.specs.Prelude.{ℕ, ◌≡◌, refl, List, [], ◌∷◌, ◌++◌, pos, replicate, Ok, Err}
use Rattle.refusals.specs.declared.Refusal.{Refusal}
use Rattle.refusals.specs.declared.Refusal.TheVariants.{Intervals, Devices, Lengths, Mine, Kind, Misplaced, Check, Fuel, Reading}
use Rattle.refusals.specs.declared.Column.TheVariants.{Flow, Content, Temp, Press, Status}
use Rattle.refusals.specs.Table.{told_of}
use Rattle.steps.specs.Step.{verdict_of}
use Rattle.steps.specs.Wrong.{wrong_check, wrong_thing, wrong_fuel}
use Rattle.steps.specs.Steps.{intervals_step, devices_step, lengths_step, mine_step, kinds_step, misplaced_step, checks_step, fuels_step}
use Rattle.drainage_readings.specs.Readings.{wrong_reading, readings_step}
use Rattle.drainage_judge.specs.Order.{lengths_of, judged}
use Rattle.drainage_corners.specs.Calls.{worked, injected, stopped, checked, counted, gapped}

number : Refusal → ℕ
number r = (told_of r).number

-- the numbers of section 4 that this call gives: refusal K is rule 4.K
numbers : List ℕ
numbers =
    number Intervals ∷ number Devices ∷ number Lengths ∷ number Mine ∷ number (Kind 1) ∷ number (Misplaced 1) ∷ number (Check 1 2)
    ∷ number (Reading Flow 1 2) ∷ number (Reading Content 1 2) ∷ number (Reading Temp 1 2) ∷ number (Reading Press 1 2)
    ∷ number (Reading Status 1 2) ∷ number (Fuel 2) ∷ []

-- in the order of rule 5.1
numbers_are : numbers ≡ 1 ∷ 2 ∷ 3 ∷ 4 ∷ 5 ∷ 6 ∷ 7 ∷ 17 ∷ 18 ∷ 19 ∷ 20 ∷ 21 ∷ 9 ∷ []
unfolding numbers number
numbers_are = refl

-- rule 5.3: nothing is wrong with the calls that rows and figures are computed on, a check at N (rule 3.8) among them
right : (judged worked ≡ Ok tt) × (judged injected ≡ Ok tt) × (judged (stopped (1 ∷ []) (1 ∷ [])) ≡ Ok tt) × (judged (gapped 16) ≡ Ok tt)
    × (judged (checked 0 1 (pos 0) (pos 0)) ≡ Ok tt)
unfolding judged verdict_of intervals_step devices_step lengths_of lengths_step mine_step kinds_step misplaced_step wrong_check wrong_thing checks_step wrong_reading readings_step wrong_fuel fuels_step
right = (refl, refl, refl, refl, refl)

-- rule 4.7: a check past N. In the order of rule 5.1: a wrong count before its wrong entry; a wrong flow entry before a
-- wrong count of CH4.
checks : (judged (checked 0 2 (pos 0) (pos 0)) ≡ Err (Check 0 1))
    × (judged (counted (33 ∷ 0 ∷ []) (9 ∷ []) (pos 30000 ∷ [])) ≡ Err (Check 0 32))
    × (judged (counted (1 ∷ 33 ∷ []) (0 ∷ []) (pos 20001 ∷ [])) ≡ Err (Check 0 0))
unfolding judged verdict_of intervals_step devices_step lengths_of lengths_step mine_step kinds_step misplaced_step wrong_check wrong_thing checks_step wrong_reading readings_step wrong_fuel fuels_step
checks = (refl, refl, refl)

-- 65 quantities beside 64 factors are 3 (rule 4.3), tested before 9 (rule 5.1); the last of 64 lines wrong is 9 at 63
-- (rule 4.9).
fuels : (judged (stopped (replicate 65 0) (replicate 64 0)) ≡ Err Lengths)
    × (judged (stopped (replicate 63 0 ++ (1000000001 ∷ [])) (replicate 64 0)) ≡ Err (Fuel 63))
unfolding judged verdict_of intervals_step devices_step lengths_of lengths_step mine_step kinds_step misplaced_step wrong_check wrong_thing checks_step wrong_reading readings_step wrong_fuel fuels_step
fuels = (refl, refl)
