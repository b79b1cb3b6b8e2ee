-- Refusals that compute: calls of two devices and three intervals in which some things are wrong.
-- Assumes nothing.
use Rattle.std.specs.Prelude.{ℕ, ◌≡◌, refl, true, false, List, [], ◌∷◌, ◌++◌, eqb, pos, negsuc, Ok, Err}
use Rattle.rows.specs.Rows.{pick, build}
use Rattle.columns.specs.Series.{Series, series_of, checks_of, fuel_of}
use Rattle.protocol.specs.Ranges.{flow_most, quantity_most, factor_most, mark}
use Rattle.refusals.specs.declared.Refusal.TheVariants.{Lengths, Kind, Misplaced, Check, Fuel, Reading}
use Rattle.refusals.specs.declared.Column.TheVariants.{Flow, Temp, Press}
use Rattle.refusals.specs.declared.Told.{Told}
use Rattle.refusals.specs.Table.{told_by, told, nothing}
use Rattle.steps.specs.Wrong.{wrong_check, wrong_thing, wrong_fuel}
use Rattle.steps.specs.Step.{verdict_of}
use Rattle.steps.specs.Steps.{intervals_step, devices_step, lengths_step, mine_step, kinds_step, misplaced_step, checks_step, fuels_step}
use Rattle.drainage_readings.specs.Readings.{column_right, wrong_reading, wrong_column, readings_step}
use Rattle.drainage_judge.specs.Call.{Call}
use Rattle.drainage_judge.specs.Order.{lengths_of, judged}

-- such a call, by its mine, its kinds, its check counts, the first positions of device 0, its series and its fuel lines
abbrev lent : ℕ → List ℕ → List ℕ → List ℕ → Series → ℕ → Call
lent mine kinds counts early series fuels =
    record {
      intervals = 3;
      devices = 2;
      mine = mine;
      kinds = kinds;
      checks = checks_of counts (early ++ build 125 (λ k. 0)) (build 128 (λ k. negsuc 599));
      series = series;
      fuel = fuel_of (build fuels (λ k. quantity_most)) (build fuels (λ k. factor_most));
      outcome_length = 6;
      flow_row_length = 6;
      content_row_length = 6;
    }

-- and by the flow alone of its series, which is what most examples vary
abbrev sample : ℕ → List ℕ → List ℕ → List ℕ → List ℕ → ℕ → Call
sample mine kinds counts early flow fuels =
    lent mine kinds counts early (series_of flow (build 6 (λ k. mark)) (build 6 (λ k. negsuc 32767)) (build 6 (λ k. 101325)) (build 6 (λ k. 3))) fuels

abbrev flows : List ℕ
flows = build 6 (λ k. flow_most)

clean : judged (sample 0 (1 ∷ 2 ∷ []) (3 ∷ 0 ∷ 0 ∷ 1 ∷ []) (0 ∷ 1 ∷ 3 ∷ []) flows 64) ≡ Ok tt
unfolding judged verdict_of intervals_step devices_step lengths_of lengths_step mine_step kinds_step misplaced_step wrong_check wrong_thing checks_step wrong_reading readings_step wrong_fuel fuels_step
clean = refl

-- kind 258 is no kind, though its lowest byte is
wide_kind : judged (sample 0 (258 ∷ 2 ∷ []) (0 ∷ 0 ∷ 0 ∷ 0 ∷ []) (0 ∷ 0 ∷ 0 ∷ []) flows 0) ≡ Err (Kind 0)
unfolding judged verdict_of intervals_step devices_step lengths_of lengths_step mine_step kinds_step
wide_kind = refl

-- and is told as 5, device 0, place 0
wide_told : told_by (judged (sample 0 (258 ∷ 2 ∷ []) (0 ∷ 0 ∷ 0 ∷ 0 ∷ []) (0 ∷ 0 ∷ 0 ∷ []) flows 0)) ≡ told 5 0 0
unfolding judged verdict_of intervals_step devices_step lengths_of lengths_step mine_step kinds_step
wide_told = refl

-- kind 6 underground is 6, at a surface mine right
underground : judged (sample 0 (2 ∷ 6 ∷ []) (0 ∷ 0 ∷ 0 ∷ 0 ∷ []) (0 ∷ 0 ∷ 0 ∷ []) flows 0) ≡ Err (Misplaced 1)
unfolding judged verdict_of intervals_step devices_step lengths_of lengths_step mine_step kinds_step misplaced_step
underground = refl

surface : judged (sample 1 (2 ∷ 6 ∷ []) (0 ∷ 0 ∷ 0 ∷ 0 ∷ []) (0 ∷ 0 ∷ 0 ∷ []) flows 0) ≡ Ok tt
unfolding judged verdict_of intervals_step devices_step lengths_of lengths_step mine_step kinds_step misplaced_step wrong_check wrong_thing checks_step wrong_reading readings_step wrong_fuel fuels_step
surface = refl

-- of 5 at a later device and 6 at an earlier one, 5
lower_number : judged (sample 0 (6 ∷ 7 ∷ []) (0 ∷ 0 ∷ 0 ∷ 0 ∷ []) (0 ∷ 0 ∷ 0 ∷ []) flows 0) ≡ Err (Kind 1)
unfolding judged verdict_of intervals_step devices_step lengths_of lengths_step mine_step kinds_step
lower_number = refl

-- the CH4 count of device 1
many_checks : judged (sample 0 (1 ∷ 2 ∷ []) (0 ∷ 0 ∷ 0 ∷ 33 ∷ []) (0 ∷ 0 ∷ 0 ∷ []) flows 0) ≡ Err (Check 1 32)
unfolding judged verdict_of intervals_step devices_step lengths_of lengths_step mine_step kinds_step misplaced_step wrong_check wrong_thing checks_step
many_checks = refl

-- of two positions that don't increase the later
same_position : judged (sample 0 (1 ∷ 2 ∷ []) (3 ∷ 0 ∷ 0 ∷ 0 ∷ []) (1 ∷ 2 ∷ 2 ∷ []) flows 0) ≡ Err (Check 0 2)
unfolding judged verdict_of intervals_step devices_step lengths_of lengths_step mine_step kinds_step misplaced_step wrong_check wrong_thing checks_step
same_position = refl

-- the same positions past the count are ignored
past_count : judged (sample 0 (1 ∷ 2 ∷ []) (2 ∷ 0 ∷ 0 ∷ 0 ∷ []) (1 ∷ 2 ∷ 2 ∷ []) flows 0) ≡ Ok tt
unfolding judged verdict_of intervals_step devices_step lengths_of lengths_step mine_step kinds_step misplaced_step wrong_check wrong_thing checks_step wrong_reading readings_step wrong_fuel fuels_step
past_count = refl

-- flow 30,001 in interval 1 of device 1
wrong_flow : judged
    (sample 0 (1 ∷ 2 ∷ []) (0 ∷ 0 ∷ 0 ∷ 0 ∷ []) (0 ∷ 0 ∷ 0 ∷ []) (0 ∷ 0 ∷ 0 ∷ mark ∷ 30001 ∷ 30001 ∷ []) 0)
    ≡ Err (Reading Flow 1 1)
unfolding judged verdict_of intervals_step devices_step lengths_of lengths_step mine_step kinds_step misplaced_step wrong_check wrong_thing checks_step wrong_reading wrong_column readings_step
wrong_flow = refl

-- six entries, each the last that is right but number k, the first that is not; 6 is none of them
abbrev six {ℓ} : {A : Type ℓ} → A → A → ℕ → List A
six right wrong k = build 6 (λ j. pick (eqb j k) wrong right)

-- what is told of a call whose flow, content, temperature, pressure and status are wrong at these entries, with so many fuel
-- lines; entries 0 to 2 are device 0's
abbrev wrong_at : ℕ → ℕ → ℕ → ℕ → ℕ → ℕ → Told
wrong_at flow content temp press status fuels =
    told_by (judged
    (lent 0 (1 ∷ 2 ∷ []) (0 ∷ 0 ∷ 0 ∷ 0 ∷ []) (0 ∷ 0 ∷ 0 ∷ [])
    (series_of (six 30000 30001 flow) (six 10000 10001 content) (six (pos 10000) (pos 10001) temp) (six 50000 49999 press) (six 3 4 status)) fuels))

-- a number for each series (rules 4.17 to 4.21), and none where every reading is right
each_series : (wrong_at 5 6 6 6 6 0 ≡ told 17 1 2) × (wrong_at 6 5 6 6 6 0 ≡ told 18 1 2) × (wrong_at 6 6 5 6 6 0 ≡ told 19 1 2)
    × (wrong_at 6 6 6 5 6 0 ≡ told 20 1 2) × (wrong_at 6 6 6 6 5 0 ≡ told 21 1 2) × (wrong_at 6 6 6 6 6 0 ≡ nothing)
unfolding judged verdict_of intervals_step devices_step lengths_of lengths_step mine_step kinds_step misplaced_step wrong_check wrong_thing checks_step wrong_reading wrong_column readings_step wrong_fuel fuels_step
each_series = (refl, refl, refl, refl, refl, refl)

-- the other ends: -40.01 °C and 300,001 Pa
other_ends : (column_right (series_of [] [] (negsuc 3999 ∷ negsuc 4000 ∷ []) [] []) 0 Temp ≡ true)
    × (column_right (series_of [] [] (negsuc 3999 ∷ negsuc 4000 ∷ []) [] []) 1 Temp ≡ false)
    × (column_right (series_of [] [] [] (300000 ∷ 300001 ∷ []) []) 0 Press ≡ true) × (column_right (series_of [] [] [] (300000 ∷ 300001 ∷ []) []) 1 Press ≡ false)
other_ends = (refl, refl, refl, refl)

-- rule 5.8: of several wrong readings of one interval the first in the order of the series
one_interval : (wrong_at 4 4 4 4 4 0 ≡ told 17 1 1) × (wrong_at 6 4 4 4 4 0 ≡ told 18 1 1) × (wrong_at 6 6 4 4 6 0 ≡ told 19 1 1)
    × (wrong_at 6 6 6 4 4 0 ≡ told 20 1 1)
unfolding judged verdict_of intervals_step devices_step lengths_of lengths_step mine_step kinds_step misplaced_step wrong_check wrong_thing checks_step wrong_reading wrong_column readings_step
one_interval = (refl, refl, refl, refl)

-- the first offender and not the lowest number: a wrong status before a wrong flow of the same device, and of the next one;
-- each series wrong one interval before the one before it
first_offender : (wrong_at 2 6 6 6 1 0 ≡ told 21 0 1) × (wrong_at 3 6 6 6 2 0 ≡ told 21 0 2) × (wrong_at 4 3 2 1 0 0 ≡ told 21 0 0)
    × (wrong_at 5 4 3 2 6 0 ≡ told 20 0 2)
unfolding judged verdict_of intervals_step devices_step lengths_of lengths_step mine_step kinds_step misplaced_step wrong_check wrong_thing checks_step wrong_reading wrong_column readings_step
first_offender = (refl, refl, refl, refl)

-- a reading comes before a fuel line, a check before a reading
between : (wrong_at 6 6 6 6 5 65 ≡ told 21 1 2)
    × (judged (sample 0 (1 ∷ 2 ∷ []) (0 ∷ 0 ∷ 0 ∷ 33 ∷ []) (0 ∷ 0 ∷ 0 ∷ []) (build 6 (λ k. 30001)) 0) ≡ Err (Check 1 32))
unfolding judged verdict_of intervals_step devices_step lengths_of lengths_step mine_step kinds_step misplaced_step wrong_check wrong_thing checks_step wrong_reading wrong_column readings_step
between = (refl, refl)

-- missing everywhere is right
missing : judged
    (lent 0 (1 ∷ 2 ∷ []) (0 ∷ 0 ∷ 0 ∷ 0 ∷ []) (0 ∷ 0 ∷ 0 ∷ [])
    (series_of (build 6 (λ k. mark)) (build 6 (λ k. mark)) (build 6 (λ k. negsuc 32767)) (build 6 (λ k. 0)) (build 6 (λ k. 3))) 0)
    ≡ Ok tt
unfolding judged verdict_of intervals_step devices_step lengths_of lengths_step mine_step kinds_step misplaced_step wrong_check wrong_thing checks_step wrong_reading wrong_column readings_step wrong_fuel fuels_step
missing = refl

many_fuels : judged (sample 0 (1 ∷ 2 ∷ []) (0 ∷ 0 ∷ 0 ∷ 0 ∷ []) (0 ∷ 0 ∷ 0 ∷ []) flows 65) ≡ Err (Fuel 64)
unfolding judged verdict_of intervals_step devices_step lengths_of lengths_step mine_step kinds_step misplaced_step wrong_check wrong_thing checks_step wrong_reading readings_step wrong_fuel fuels_step
many_fuels = refl

-- a short row is 3, whatever the kinds
short_row : judged (sample 0 (0 ∷ 0 ∷ []) (0 ∷ 0 ∷ 0 ∷ 0 ∷ []) (0 ∷ 0 ∷ 0 ∷ []) (0 ∷ []) 0) ≡ Err Lengths
unfolding judged verdict_of intervals_step devices_step lengths_of lengths_step
short_row = refl
