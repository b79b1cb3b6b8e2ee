-- One interval of an oxidiser: the methane that enters and leaves it, its outcome (rule 19.7), and what it then counts for.
-- Assumes nothing.
use Rattle.std.specs.Prelude.{ℕ, ◌*◌, ◌/◌, ◌≡◌, refl, Bool, true, false, eqb, ltb, ℤ, pos}
use Rattle.rows.specs.Rows.{pick, either}
use Rattle.protocol.specs.Ranges.{kelvin_of, mark}
use Rattle.protocol.specs.Rounding.{ceil_div}
use Rattle.columns.specs.Streams.{Gas, gas_of, gas_missing}
use Rattle.volume.specs.declared.Gas as Lent
use Rattle.volume.specs.Volume.{correction_down, correction_up, hundredths_of, methane_litres_in, methane_litres, methane_litres_up_in, methane_litres_up}
use Rattle.accounts.specs.Account.{counted}
use Rattle.ventilation_device.specs.declared.Entry.{Entry}

-- a gas as the readings of a stream, its content in ppm
abbrev pub gas_in : Lent.Gas → Gas
gas_in g = gas_of g.flow g.content g.temp g.press

-- rules 19.2 and 19.3: the methane litres of the inlet, volume and methane rounded down
abbrev pub inlet_litres : Gas → ℕ
inlet_litres g = methane_litres g.flow g.ppm g.temp g.press

-- and of the exhaust, volume and methane rounded up
abbrev pub exhaust_litres : Gas → ℕ
exhaust_litres g = methane_litres_up g.flow g.ppm g.temp g.press

-- Rule 19.7: the first line that applies, from top to bottom: stopped, unrecorded, a reading missing, exhaust above inlet in
-- rounded litres. `lacking` is that one of the eight readings is missing.
unfoldable pub outcome_of : ℕ → Bool → ℕ → ℕ → ℕ
outcome_of status lacking inlet exhaust =
    pick (eqb status 0) 3
    (pick (eqb status 3) 4
    (pick lacking 5
    (pick (ltb inlet exhaust) 6
    0)))

-- an interval, from the readings of its two streams and its status: its outcome, and the litres that it counts for
unfoldable pub entry_of : Gas → Gas → ℕ → Entry
entry_of inlet exhaust status =
    let o : ℕ = outcome_of status (either (gas_missing inlet) (gas_missing exhaust)) (inlet_litres inlet) (exhaust_litres exhaust) in
    record { outcome = o; inlet = pick (counted o) (inlet_litres inlet) 0; exhaust = pick (counted o) (exhaust_litres exhaust) 0 }

-- ---- the request's own words, and numbers

-- litres = flow × 10,000 × 29,315 × pressure / (kelvin × 101,325) and methane = litres × ppm / 1,000,000, both down
in_words : (flow ppm : ℕ) (temp : ℤ) (press : ℕ)
    → inlet_litres (gas_of flow ppm temp press) ≡ flow * 10000 * 29315 * press / (kelvin_of temp * 101325) * ppm / 1000000
unfolding methane_litres methane_litres_in hundredths_of correction_down
in_words flow ppm temp press = refl

-- and both up
out_words : (flow ppm : ℕ) (temp : ℤ) (press : ℕ)
    → exhaust_litres (gas_of flow ppm temp press) ≡ ceil_div (ceil_div (flow * 10000 * 29315 * press) (kelvin_of temp * 101325) * ppm) 1000000
unfolding methane_litres_up methane_litres_up_in correction_up
out_words flow ppm temp press = refl

-- 10,000 m3 at the reference conditions with 5,000 ppm: 50,000 l either way
at_reference : (inlet_litres (gas_of 1000 5000 (pos 2000) 101325) ≡ 50000) × (exhaust_litres (gas_of 1000 5000 (pos 2000) 101325) ≡ 50000)
unfolding methane_litres methane_litres_in hundredths_of correction_down methane_litres_up methane_litres_up_in correction_up
at_reference = (refl, refl)

-- 10 m3 at 0.00 °C with 1 ppm: 10,732.198 l of air, 0.0107 l of methane
little : (inlet_litres (gas_of 1 1 (pos 0) 101325) ≡ 0) × (exhaust_litres (gas_of 1 1 (pos 0) 101325) ≡ 1)
unfolding methane_litres methane_litres_in hundredths_of correction_down methane_litres_up methane_litres_up_in correction_up
little = (refl, refl)

-- the order decides: stopped before everything, unrecorded before a missing reading, that before exhaust above inlet
stopped : outcome_of 0 true 0 1 ≡ 3
unfolding outcome_of
stopped = refl

unrecorded : outcome_of 3 true 0 1 ≡ 4
unfolding outcome_of
unrecorded = refl

missing_first : outcome_of 1 true 0 1 ≡ 5
unfolding outcome_of
missing_first = refl

above : outcome_of 1 false 0 1 ≡ 6
unfolding outcome_of
above = refl

-- as much out as in is counted; status 2 is as 1
equal : (outcome_of 1 false 7 7 ≡ 0) × (outcome_of 2 false 7 7 ≡ 0)
unfolding outcome_of
equal = (refl, refl)

-- a missing exhaust is not taken for none
no_exhaust : entry_of (gas_of 1000 5000 (pos 2000) 101325) (gas_of mark 100 (pos 2000) 101325) 1 ≡ record { outcome = 5; inlet = 0; exhaust = 0 }
unfolding entry_of outcome_of
no_exhaust = refl
