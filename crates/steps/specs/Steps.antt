-- The steps that quantifications share. Each takes what it looks at; a call's own list has their order.
-- Assumes nothing.
use Rattle.std.specs.Prelude.{ℕ, ◌+◌, ◌*◌, ◌/◌, ◌%◌, Bool, not, List, eqb, length, get_or}
use Rattle.refusals.specs.declared.Refusal.TheVariants as Refusal
use Rattle.protocol.specs.Kinds.{is_kind, is_mine, misplaced}
use Rattle.protocol.specs.Ranges.{intervals_most, devices_most, checks_most, things, device_things, fuels_most, from_one}
use Rattle.columns.specs.Series.{Checks, Fuel}
use Rattle.steps.specs.Step.{Step}
use Rattle.steps.specs.Wrong.{wrong_thing, wrong_fuel, thing_place}

-- rule 4.1: the number of intervals
unfoldable pub intervals_step : ℕ → Step
intervals_step n = record { size = 1; bad = λ k. not (from_one intervals_most n); refusal = λ k. Refusal.Intervals }

-- rule 4.2: the number of devices
unfoldable pub devices_step : ℕ → Step
devices_step d = record { size = 1; bad = λ k. not (from_one devices_most d); refusal = λ k. Refusal.Devices }

-- what a length is, and what is asked of it
abbrev pub wrong_length : ℕ × ℕ → Bool
wrong_length pair = not (eqb pair.0 pair.1)

-- rule 4.3: every length of the list, each beside the one that is asked
unfoldable pub lengths_step : List (ℕ × ℕ) → Step
lengths_step pairs = record { size = length pairs; bad = λ k. wrong_length (get_or pairs k (0, 0)); refusal = λ k. Refusal.Lengths }

-- rule 4.4: the mine
unfoldable pub mine_step : ℕ → Step
mine_step mine = record { size = 1; bad = λ k. not (is_mine mine); refusal = λ k. Refusal.Mine }

-- rule 4.5: each device's kind
unfoldable pub kinds_step : List ℕ → Step
kinds_step kinds = record { size = length kinds; bad = λ d. not (is_kind (get_or kinds d 0)); refusal = λ d. Refusal.Kind d }

-- rule 4.6: each device's kind at this mine
unfoldable pub misplaced_step : ℕ → List ℕ → Step
misplaced_step mine kinds = record { size = length kinds; bad = λ d. misplaced mine (get_or kinds d 0); refusal = λ d. Refusal.Misplaced d }

-- rule 4.7: each instrument's count and checks, in a record of so many intervals; two instruments are one device's
unfoldable pub checks_step : ℕ → Checks → Step
checks_step intervals c =
    record {
      size = length c.counts * things;
      bad = λ k. wrong_thing intervals c (k / things) (k % things);
      refusal = λ k. Refusal.Check (k / device_things) (thing_place checks_most (k % things));
    }

-- rule 4.9: how many fuel lines there are, then each
unfoldable pub fuels_step : Fuel → Step
fuels_step f = record { size = 1 + length f.quantity; bad = wrong_fuel f; refusal = λ k. Refusal.Fuel (thing_place fuels_most k) }
