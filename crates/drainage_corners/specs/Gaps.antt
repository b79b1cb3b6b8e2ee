-- The table of gaps (rule 7.5) at its borders: w values of 0 before the gap and w of 2,000 after it.
-- Assumes nothing.
use Rattle.std.specs.Prelude.{ℕ, ◌≡◌, refl, List, ◌++◌, replicate}
use Rattle.protocol.specs.Ranges.{mark}
use Rattle.drainage_window.specs.Window.{tally_of, mean_of, limit_of, meets, greatest_up_to}
use Rattle.drainage_runs.specs.Runs.{gap_start, gap_end, run, whole, usable, too_long, not_whole}
use Rattle.drainage_gaps.specs.Gaps.{Replaced, class_of, window_values, replacement_of, replacement_at}

abbrev around : ℕ → ℕ → List ℕ
around w gap = replicate w 0 ++ (replicate gap mark ++ replicate w 2000)

-- the replacement for interval i
abbrev replaced : ℕ → ℕ → ℕ → Replaced
replaced w gap i = replacement_at (around w gap) (around w gap) i

-- rule 7.5: 16 on either side up to 23, 96 up to 95, 288 up to 672, none from 673; rule 7.2: a window that is one short
-- is not whole
borders : (replaced 16 23 27 ≡ Replaced.by 1000) × (replaced 96 24 108 ≡ Replaced.by 880) × (replaced 96 95 143 ≡ Replaced.by 880) ×
    (replaced 288 96 336 ≡ Replaced.by 918)
    × (replaced 288 672 624 ≡ Replaced.by 918) × (replaced 288 673 300 ≡ Replaced.excluded too_long) × (replaced 287 672 300 ≡ Replaced.excluded not_whole)
unfolding replacement_at replacement_of gap_start gap_end run whole usable class_of tally_of mean_of limit_of meets greatest_up_to window_values
borders = (refl, refl, refl, refl, refl, refl, refl)
