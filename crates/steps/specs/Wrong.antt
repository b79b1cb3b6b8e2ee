-- What is wrong with a call's checks and fuel lines, thing by thing. Kinds and ranges are in crates/protocol.
-- Assumes nothing.
use Rattle.std.specs.Prelude.{ℕ, zero, suc, ◌+◌, ◌-◌, ◌*◌, Bool, not, List, ltb, leb, ℤ, pos, length, get_or}
use Rattle.rows.specs.Rows.{both, either}
use Rattle.protocol.specs.Ranges.{checks_most, fuels_most, quantity_most, factor_most, drift_right}
use Rattle.columns.specs.Series.{Checks, Fuel}

-- Rule 4.7, check j of instrument g, whose places begin at 32 g (rule 3.12): it stands past the record's end, its drift is
-- out of range, or it does not stand after the check before it.
unfoldable pub wrong_check : ℕ → List ℕ → List ℤ → ℕ → ℕ → Bool
wrong_check intervals positions drifts g j =
    either (ltb intervals (get_or positions (checks_most * g + j) 0))
    (either (not (drift_right (get_or drifts (checks_most * g + j) (pos 0))))
    (both (ltb 0 j) (leb (get_or positions (checks_most * g + j) 0) (get_or positions (checks_most * g + (j - 1)) 0))))

-- Rule 4.7, the things to look at of instrument g: thing 0 is its count, thing j + 1 its check j. What stands past the
-- count is never wrong (rule 3.7).
unfoldable pub wrong_thing : ℕ → Checks → ℕ → ℕ → Bool
wrong_thing intervals c g zero = ltb checks_most (get_or c.counts g 0)
wrong_thing intervals c g (suc j) = both (ltb j (get_or c.counts g 0)) (wrong_check intervals c.positions c.drifts g j)

-- rules 4.7 and 4.9, the place of a thing: that of a count is `last`, that of entry j is j
abbrev pub thing_place : ℕ → ℕ → ℕ
thing_place last zero = last
thing_place last (suc j) = j

-- Rule 4.9, the things to look at of the fuel lines: thing 0 is how many there are, thing j + 1 is line j.
unfoldable pub wrong_fuel : Fuel → ℕ → Bool
wrong_fuel f zero = ltb fuels_most (length f.quantity)
wrong_fuel f (suc j) = either (ltb quantity_most (get_or f.quantity j 0)) (ltb factor_most (get_or f.factor j 0))
