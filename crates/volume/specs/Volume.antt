-- From used readings to litres of methane (rules 9.1 and 9.2; in ventilation air rules 19.2 and 19.3).
-- Assumes nothing.
use Rattle.std.specs.Prelude.{ℕ, ◌+◌, ◌*◌, ◌/◌, ◌≤◌, ◌≡◌, refl, ℤ, pos, negsuc}
use Rattle.protocol.specs.Numbers.{protocol}
use Rattle.protocol.specs.Ranges.{kelvin_of, flow_most}
use Rattle.protocol.specs.Rounding.{ceil_div}

-- ---- rule 9.1: one correction to standard conditions (equation 2), in parts of which a unit of flow has `factor`

-- its two sides
abbrev pub correction_over : ℕ → ℕ → ℕ → ℕ
correction_over factor flow press = flow * factor * protocol.kelvin * press

abbrev pub correction_under : ℤ → ℕ
correction_under temp = kelvin_of temp * protocol.pascal

-- whole parts, rounded down
unfoldable pub correction_down : ℕ → ℕ → ℤ → ℕ → ℕ
correction_down factor flow temp press = correction_over factor flow press / correction_under temp

-- whole parts, rounded up
unfoldable pub correction_up : ℕ → ℕ → ℤ → ℕ → ℕ
correction_up factor flow temp press = ceil_div (correction_over factor flow press) (correction_under temp)

-- 0.1 m3, the unit of a flow, is 10,000 hundredths of a litre; in ventilation air 10 m3, the unit there, is 10,000 litres, so
-- that what is in hundredths below is in litres there, by the same numbers
abbrev pub parts_factor : ℕ
parts_factor = 10000

-- rule 9.1: the hundredths of a litre of a flow in 0.1 m3, rounded down
unfoldable pub hundredths_of : ℕ → ℤ → ℕ → ℕ
hundredths_of flow temp press = correction_down parts_factor flow temp press

-- ---- rule 9.2

-- a litre of methane: 100 hundredths of a litre at a content of 100 %, which is 10,000 (rule 3.3); in ventilation air a litre
-- at 1,000,000 ppm
abbrev pub methane_under : ℕ
methane_under = 1000000

-- the methane in so many parts, in whole litres, rounded down
unfoldable pub methane_litres_in : ℕ → ℕ → ℕ
methane_litres_in parts content = parts * content / methane_under

-- rule 9.2 after rule 9.1: the methane litres of an interval, rounded down twice. The crates above cite this one.
unfoldable pub methane_litres : ℕ → ℕ → ℤ → ℕ → ℕ
methane_litres flow content temp press = methane_litres_in (hundredths_of flow temp press) content

-- the same rounded up twice, as the exhaust of ventilation air is (rule 19.3): the methane in so many parts, and of an interval
unfoldable pub methane_litres_up_in : ℕ → ℕ → ℕ
methane_litres_up_in parts content = ceil_div (parts * content) methane_under

unfoldable pub methane_litres_up : ℕ → ℕ → ℤ → ℕ → ℕ
methane_litres_up flow content temp press = methane_litres_up_in (correction_up parts_factor flow temp press) content

-- ---- limits

-- the readings for which the numbers fit 64 bits: those inside the ranges of rule 3.3
pub record Inside (flow : ℕ) (temp : ℤ) (press : ℕ) : Type 0 where
  pub flow_within : flow ≤ flow_most
  pub kelvin_least : 23315 ≤ kelvin_of temp
  pub kelvin_most : kelvin_of temp ≤ 37315
  pub press_most : press ≤ 300000

-- rule 9.14: the most that an interval can have, 3,000 m3 at -40.00 °C and 300,000 Pa, in hundredths of a litre
abbrev pub parts_most : ℕ
parts_most = 1116812781

-- and in whole litres, of methane too
abbrev pub litres_most : ℕ
litres_most = 11168127

-- rule 19.12: of ventilation air, in litres of methane rounded down; rounded up it is one more
abbrev pub air_most : ℕ
air_most = 22336255

-- ---- numbers

-- rule 15.1: 100 m3 at the reference conditions and at 0.00 °C; the least of any flow above 0; by rule 9.14, the most
at_reference : hundredths_of 1000 (pos 2000) 101325 ≡ 10000000
unfolding hundredths_of correction_down
at_reference = refl

at_freezing : hundredths_of 1000 (pos 0) 101325 ≡ 10732198
unfolding hundredths_of correction_down
at_freezing = refl

at_least : hundredths_of 1 (pos 10000) 50000 ≡ 3876
unfolding hundredths_of correction_down
at_least = refl

at_most : hundredths_of 30000 (negsuc 3999) 300000 ≡ parts_most
unfolding hundredths_of correction_down
at_most = refl

-- rule 9.15: a quotient just below a whole litre, the remainder being one short of the divisor
one_short : hundredths_of 29633 (negsuc 3997) 298817 ≡ 1098706099
unfolding hundredths_of correction_down
one_short = refl

-- rounded up: one more at 0.00 °C, none at the reference conditions, which divide without a rest
up_at_freezing : correction_up parts_factor 1000 (pos 0) 101325 ≡ 10732199
unfolding correction_up
up_at_freezing = refl

up_at_reference : correction_up parts_factor 1000 (pos 2000) 101325 ≡ 10000000
unfolding correction_up
up_at_reference = refl

-- rule 15.1: 1.4997 l is 1 l
little : methane_litres_in 300 4999 ≡ 1
unfolding methane_litres_in
little = refl

-- rule 19.12: 300,000 m3 of air with 20,000 ppm at -40.00 °C and 300,000 Pa, down and up
air_at_most : methane_litres 30000 20000 (negsuc 3999) 300000 ≡ air_most
unfolding methane_litres methane_litres_in hundredths_of correction_down
air_at_most = refl

air_at_most_up : methane_litres_up 30000 20000 (negsuc 3999) 300000 ≡ air_most + 1
unfolding methane_litres_up methane_litres_up_in correction_up
air_at_most_up = refl

-- 38.76 l of gas at 99 %: 38.37 l, where whole litres of gas first would give 37
an_interval : methane_litres 1 9900 (pos 10000) 50000 ≡ 38
unfolding methane_litres methane_litres_in hundredths_of correction_down
an_interval = refl
