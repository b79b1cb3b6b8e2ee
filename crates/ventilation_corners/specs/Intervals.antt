-- Single intervals: the outcome, and the litres that enter and leave.
-- Assumes nothing.
use Rattle.std.specs.Prelude.{ℕ, ◌≡◌, refl, pos, negsuc}
use Rattle.protocol.specs.Ranges.{mark}
use Rattle.columns.specs.Streams.{gas_of}
use Rattle.volume.specs.Volume.{correction_down, correction_up, hundredths_of, methane_litres_in, methane_litres, methane_litres_up_in, methane_litres_up}
use Rattle.ventilation_device.specs.declared.Entry.{Entry}
use Rattle.ventilation_device.specs.Outcomes.{inlet_litres, exhaust_litres, outcome_of, entry_of}
use Rattle.ventilation_corners.specs.Calls.{standard, densest}

-- an entry as three numbers
abbrev entry : ℕ → ℕ → ℕ → Entry
entry outcome inlet exhaust = record { outcome = outcome; inlet = inlet; exhaust = exhaust }

-- at the reference conditions nothing is rounded: 50,000 l in, and as much out; 50,001 l out; none out
at_the_border : (entry_of (standard 1000 5000) (standard 1000 5000) 1 ≡ entry 0 50000 50000)
    × (entry_of (standard 1000 5000) (standard 16667 300) 1 ≡ entry 6 0 0)
    × (entry_of (standard 1000 5000) (standard 0 5000) 1 ≡ entry 0 50000 0)
unfolding entry_of outcome_of methane_litres methane_litres_in hundredths_of correction_down methane_litres_up methane_litres_up_in correction_up
at_the_border = (refl, refl, refl)

-- nothing in and nothing out is counted, by flow and by CH4; status 2 is as 1
both_none : (entry_of (standard 0 20000) (standard 0 20000) 1 ≡ entry 0 0 0) × (entry_of (standard 30000 0) (standard 30000 0) 2 ≡ entry 0 0 0)
unfolding entry_of outcome_of methane_litres methane_litres_in hundredths_of correction_down methane_litres_up methane_litres_up_in correction_up
both_none = (refl, refl)

-- the same readings in both streams: 22,336,255 l in, rounded down, and 22,336,256 out, rounded up (rule 19.12)
same_readings : (inlet_litres densest ≡ 22336255) × (exhaust_litres densest ≡ 22336256) × (entry_of densest densest 1 ≡ entry 6 0 0)
unfolding entry_of outcome_of methane_litres methane_litres_in hundredths_of correction_down methane_litres_up methane_litres_up_in correction_up
same_readings = (refl, refl, refl)

-- a reading missing in either stream is 5, whichever of the four it is
missing : (entry_of (standard mark 5000) (standard 1000 100) 1 ≡ entry 5 0 0)
    × (entry_of (gas_of 1000 mark (pos 2000) 101325) (standard 1000 100) 1 ≡ entry 5 0 0)
    × (entry_of (standard 1000 5000) (gas_of 1000 100 (negsuc 32767) 101325) 1 ≡ entry 5 0 0)
    × (entry_of (standard 1000 5000) (gas_of 1000 100 (pos 2000) 0) 2 ≡ entry 5 0 0)
unfolding entry_of outcome_of
missing = (refl, refl, refl, refl)

-- stopped and unrecorded come before a missing reading
first_lines : (entry_of (standard mark 5000) (standard mark 100) 0 ≡ entry 3 0 0) × (entry_of (standard mark 5000) (standard mark 100) 3 ≡ entry 4 0 0)
unfolding entry_of outcome_of
first_lines = (refl, refl)

-- each stream has its own flow, temperature and pressure: 10,000 m3 in, and 20,000 m3 out at 0.00 °C and 50,000 Pa
own_readings : entry_of (standard 1000 5000) (gas_of 2000 100 (pos 0) 50000) 1 ≡ entry 0 50000 1060
unfolding entry_of outcome_of methane_litres methane_litres_in hundredths_of correction_down methane_litres_up methane_litres_up_in correction_up
own_readings = refl
