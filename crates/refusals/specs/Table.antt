-- The table of refusals: each one's number, and the device and the place that it is given with. No other file has a number.
-- The order of test is not the order of numbers: each call's own list of steps has it.
-- Assumes nothing.
use Rattle.std.specs.Prelude.{ℕ, ◌≡◌, refl, Bool, true, false, List, [], ◌∷◌, eqb, Result, Ok, Err}
use Rattle.refusals.specs.declared.Column.{Column}
use Rattle.refusals.specs.declared.Column.TheVariants.{Flow, Content, Temp, Press, Status}
use Rattle.refusals.specs.declared.Refusal.{Refusal}
use Rattle.refusals.specs.declared.Refusal.TheVariants.{Intervals, Devices, Lengths, Mine, Kind, Misplaced, Check, Fuel, NoSheet, ShortBuffer}
use Rattle.refusals.specs.declared.Refusal.TheVariants.{Line, Room, ExportLength, SampleQuality, SampleReading, Reading, Inlet, Exhaust}
use Rattle.refusals.specs.declared.Told.{Told}

abbrev pub told : ℕ → ℕ → ℕ → Told
told number device place = record { number = number; device = device; place = place }

-- rules 4.17 to 4.21: a wrong reading is refused by the number of its series
abbrev pub reading_number : Column → ℕ
reading_number Flow = 17
reading_number Content = 18
reading_number Temp = 19
reading_number Press = 20
reading_number Status = 21

abbrev pub told_of : Refusal → Told
told_of Intervals = told 1 0 0
told_of Devices = told 2 0 0
told_of Lengths = told 3 0 0
told_of Mine = told 4 0 0
told_of (Kind device) = told 5 device 0
told_of (Misplaced device) = told 6 device 0
told_of (Check device check) = told 7 device check
told_of (Fuel line) = told 9 0 line
told_of (NoSheet offset) = told 10 0 offset
told_of (ShortBuffer needed) = told 11 0 needed
told_of (Line line) = told 12 0 line
told_of Room = told 13 0 0
told_of ExportLength = told 14 0 0
told_of (SampleQuality sample) = told 15 0 sample
told_of (SampleReading sample) = told 16 0 sample
told_of (Reading column device interval) = told (reading_number column) device interval
told_of (Inlet device interval) = told 22 device interval
told_of (Exhaust device interval) = told 23 device interval

-- where nothing is refused
abbrev pub nothing : Told
nothing = told 0 0 0

-- what is told of an answer: three zeros where it gives something (rule 5.7), else those of its refusal (rule 5.4)
abbrev pub told_by : {A : Type 0} → Result A Refusal → Told
told_by (Ok given) = nothing
told_by (Err r) = told_of r

-- every refusal, in the table's order; what a refusal is given with does not matter here
abbrev pub all : List Refusal
all =
    Intervals ∷ Devices ∷ Lengths ∷ Mine ∷ Kind 0 ∷ Misplaced 0 ∷ Check 0 0 ∷ Fuel 0
    ∷ NoSheet 0 ∷ ShortBuffer 0 ∷ Line 0 ∷ Room ∷ ExportLength ∷ SampleQuality 0 ∷ SampleReading 0
    ∷ Reading Flow 0 0 ∷ Reading Content 0 0 ∷ Reading Temp 0 0 ∷ Reading Press 0 0 ∷ Reading Status 0 0
    ∷ Inlet 0 0 ∷ Exhaust 0 0 ∷ []

unfoldable pub lacks : ℕ → List Refusal → Bool
lacks number [] = true
lacks number (r ∷ rs) = elim (eqb number (told_of r).number) [ true ↦ false | false ↦ lacks number rs ]

distinct : List Refusal → Bool
distinct [] = true
distinct (r ∷ rs) = elim (lacks (told_of r).number rs) [ true ↦ distinct rs | false ↦ false ]

-- no number is used twice, and none is 0
numbers_differ : distinct all ≡ true
unfolding distinct lacks
numbers_differ = refl

none_is_zero : lacks 0 all ≡ true
unfolding lacks
none_is_zero = refl

-- and every refusal is in that list, so that none can be left out of it
pub listed : (r : Refusal) → lacks (told_of r).number all ≡ false
unfolding lacks
listed Intervals = refl
listed Devices = refl
listed Lengths = refl
listed Mine = refl
listed (Kind device) = refl
listed (Misplaced device) = refl
listed (Check device check) = refl
listed (Fuel line) = refl
listed (NoSheet offset) = refl
listed (ShortBuffer needed) = refl
listed (Line line) = refl
listed Room = refl
listed ExportLength = refl
listed (SampleQuality sample) = refl
listed (SampleReading sample) = refl
listed (Reading Flow device interval) = refl
listed (Reading Content device interval) = refl
listed (Reading Temp device interval) = refl
listed (Reading Press device interval) = refl
listed (Reading Status device interval) = refl
listed (Inlet device interval) = refl
listed (Exhaust device interval) = refl
