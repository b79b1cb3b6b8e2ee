-- Refusals that compute: calls of two devices and three intervals in which some things are wrong.
-- Assumes nothing.
use Rattle.std.specs.Prelude.{ℕ, ◌≡◌, refl, true, false, List, [], eqb, pos, negsuc}
use Rattle.rows.specs.Rows.{pick, build}
use Rattle.columns.specs.Series.{fuel_of}
use Rattle.columns.specs.Streams.{Stream, Air, gas_of, gas_right, stream_of, air_of}
use Rattle.protocol.specs.Ranges.{quantity_most, factor_most, mark}
use Rattle.refusals.specs.declared.Told.{Told}
use Rattle.refusals.specs.Table.{told_by, told, nothing}
use Rattle.steps.specs.Wrong.{wrong_fuel}
use Rattle.steps.specs.Step.{verdict_of}
use Rattle.steps.specs.Steps.{intervals_step, devices_step, lengths_step, fuels_step}
use Rattle.ventilation_readings.specs.Readings.{wrong_reading, wrong_side, readings_step}
use Rattle.ventilation_judge.specs.Call.{Call}
use Rattle.ventilation_judge.specs.Order.{lengths_of, judged}

-- a call of such series, by N, D, the series and the number of fuel lines
abbrev lent : ℕ → ℕ → Air → ℕ → Call
lent n d air fuels =
    record {
      intervals = n;
      devices = d;
      air = air;
      fuel = fuel_of (build fuels (λ k. quantity_most)) (build fuels (λ k. factor_most));
      outcome_length = 6;
    }

-- six entries, each the last that is right but number k, the first that is not; 6 is none of them
abbrev six {ℓ} : {A : Type ℓ} → A → A → ℕ → List A
six right wrong k = build 6 (λ j. pick (eqb j k) wrong right)

-- a stream whose flow, CH4, temperature and pressure are wrong at these entries
abbrev stream : ℕ → ℕ → ℕ → ℕ → Stream
stream flow ppm temp press = stream_of (six 30000 30001 flow) (six 20000 20001 ppm) (six (pos 10000) (pos 10001) temp) (six 50000 49999 press)

-- one that is right
abbrev fine : Stream
fine = stream 6 6 6 6

-- what is told of a call with these streams, whose status is wrong at this entry, with so many fuel lines; entries 0 to 2 are
-- device 0's
abbrev answer : Stream → Stream → ℕ → ℕ → Told
answer inlet exhaust status fuels = told_by (judged (lent 3 2 (air_of inlet exhaust (six 3 4 status)) fuels))

-- ---- 1 to 3, and nothing

clean : answer fine fine 6 64 ≡ nothing
unfolding judged verdict_of intervals_step devices_step lengths_of lengths_step wrong_reading readings_step wrong_fuel fuels_step
clean = refl

-- 1 before 2, and 2 before 3
bounds : (told_by (judged (lent 0 17 (air_of fine fine []) 0)) ≡ told 1 0 0) × (told_by (judged (lent 35137 2 (air_of fine fine []) 0)) ≡ told 1 0 0)
    × (told_by (judged (lent 3 17 (air_of fine fine []) 0)) ≡ told 2 0 0)
unfolding judged verdict_of intervals_step devices_step
bounds = (refl, refl, refl)

-- one status too few is 3, though an inlet reading is wrong
short_row : told_by (judged (lent 3 2 (air_of (stream 0 0 0 0) fine (build 5 (λ k. 3))) 0)) ≡ told 3 0 0
unfolding judged verdict_of intervals_step devices_step lengths_of lengths_step
short_row = refl

-- ---- readings

-- each of a stream's four is 22 in the inlet, 23 in the exhaust; and the status is 21, as in drainage gas
each_side : (answer (stream 5 6 6 6) fine 6 0 ≡ told 22 1 2) × (answer (stream 6 5 6 6) fine 6 0 ≡ told 22 1 2)
    × (answer (stream 6 6 5 6) fine 6 0 ≡ told 22 1 2) × (answer (stream 6 6 6 5) fine 6 0 ≡ told 22 1 2)
    × (answer fine (stream 5 6 6 6) 6 0 ≡ told 23 1 2) × (answer fine (stream 6 5 6 6) 6 0 ≡ told 23 1 2)
    × (answer fine (stream 6 6 5 6) 6 0 ≡ told 23 1 2) × (answer fine (stream 6 6 6 5) 6 0 ≡ told 23 1 2) × (answer fine fine 5 0 ≡ told 21 1 2)
unfolding judged verdict_of intervals_step devices_step lengths_of lengths_step wrong_reading wrong_side readings_step
each_side = (refl, refl, refl, refl, refl, refl, refl, refl, refl)

-- of several wrong sides of one interval the inlet, else the exhaust
one_interval : (answer (stream 6 6 6 4) (stream 4 6 6 6) 4 0 ≡ told 22 1 1) × (answer fine (stream 6 4 6 6) 4 0 ≡ told 23 1 1)
unfolding judged verdict_of intervals_step devices_step lengths_of lengths_step wrong_reading wrong_side readings_step
one_interval = (refl, refl)

-- the first offender and not the first side: a wrong status in interval 0 and a wrong inlet in interval 1
first_offender : (answer (stream 1 6 6 6) fine 0 0 ≡ told 21 0 0) × (answer (stream 3 6 6 6) (stream 6 6 2 6) 6 0 ≡ told 23 0 2)
unfolding judged verdict_of intervals_step devices_step lengths_of lengths_step wrong_reading wrong_side readings_step
first_offender = (refl, refl)

-- an interval in which the device was stopped is looked at as any other: status 0 throughout
stopped : told_by (judged (lent 3 2 (air_of (stream 6 2 6 6) fine (build 6 (λ k. 0))) 0)) ≡ told 22 0 2
unfolding judged verdict_of intervals_step devices_step lengths_of lengths_step wrong_reading wrong_side readings_step
stopped = refl

-- missing everywhere is right
missing : answer (stream_of (build 6 (λ k. mark)) (build 6 (λ k. mark)) (build 6 (λ k. negsuc 32767)) (build 6 (λ k. 0))) fine 6 0 ≡ nothing
unfolding judged verdict_of intervals_step devices_step lengths_of lengths_step wrong_reading readings_step wrong_fuel fuels_step
missing = refl

-- the other ends: -40.01 °C and 300,001 Pa; and 20,000 ppm, which is above the most of drainage gas
other_ends : (gas_right (gas_of 0 20000 (negsuc 3999) 300000) ≡ true) × (gas_right (gas_of 0 20000 (negsuc 4000) 300000) ≡ false)
    × (gas_right (gas_of 0 20000 (negsuc 3999) 300001) ≡ false)
other_ends = (refl, refl, refl)

-- ---- fuel

-- a reading comes before a fuel line
between : answer fine fine 5 65 ≡ told 21 1 2
unfolding judged verdict_of intervals_step devices_step lengths_of lengths_step wrong_reading wrong_side readings_step
between = refl

many_fuels : answer fine fine 6 65 ≡ told 9 0 64
unfolding judged verdict_of intervals_step devices_step lengths_of lengths_step wrong_reading readings_step wrong_fuel fuels_step
many_fuels = refl
