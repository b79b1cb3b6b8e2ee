-- What the exported functions promise: the promises of the calls behind them, and what their arrays hold.
-- Assumes nothing.
use Rattle.std.specs.Prelude.{ℕ, ◌≡◌, List, [], ◌∷◌, ℤ, Result, Ok, Err}
use Rattle.refusals.specs.declared.Refusal.{Refusal}
use Rattle.refusals.specs.Table.{told_of, told_by}
use Rattle.figures.specs.declared.Figures.{Figures}
use Rattle.drainage_judge.specs.Call.{Call}
use Rattle.drainage_devices.specs.Devices.{Results}
use Rattle.drainage.specs.Promise.{Settled}
use Rattle.ventilation_judge.specs.Call as VentilationCall
use Rattle.ventilation_devices.specs.Devices as VentilationResults
use Rattle.ventilation.specs.Promise as VentilationPromise
use Rattle.sheet_text.specs.Write.{WriteRight}
use Rattle.sheet_text.specs.Read.{ReadRight}
use Rattle.drainage_record_form.specs.Rows as Record
use Rattle.drainage_record.specs.Read as Reader
use Rattle.drainage_record.specs.declared.Header.{Header}
use Rattle.historian.specs.Read as Historian
use Rattle.cmm.specs.Figures.{amounts_of, balances_of}

-- The number that header, library and command share: that of the latest note in docs/landings.
abbrev pub version : ℕ
version = 8

-- the host's two arrays of figures
pub record Arrays : Type 0 where
  pub amounts : List ℕ
  pub balances : List ℤ

abbrev pub given : Figures → Arrays
given f = record { amounts = amounts_of f; balances = balances_of f }

-- the figures where there are any, of a quantification or of a sheet that is read
abbrev pub arrays_after : Result Figures Refusal → Arrays → Arrays
arrays_after (Ok f) before = given f
arrays_after (Err r) before = before

-- how an answer is handed over: its number, its device and place, and its figures where there are any
pub record Handed (answer : Result Figures Refusal) (old new : Arrays) (at : List ℕ) (number : ℕ) : Type 0 where
  pub told : number ≡ (told_by answer).number
  pub place : at ≡ (told_by answer).device ∷ (told_by answer).place ∷ []
  pub figures : new ≡ arrays_after answer old

-- a quantification that keeps this promise of its results, and hands its answer over
pub record Answered {R : Type 0} (Promise : R → R → Result Figures Refusal → Type 0) (before after : R) (old new : Arrays) (at : List ℕ) (number : ℕ) : Type 0 where
  pub answer : Result Figures Refusal
  pub settled : Promise before after answer
  pub handed : Handed answer old new at number

-- of drainage gas, and of ventilation air
abbrev pub Quantified : Call → Results → Results → Arrays → Arrays → List ℕ → ℕ → Type 0
Quantified c = Answered (Settled c)

abbrev pub AirQuantified : VentilationCall.Call → VentilationResults.Results → VentilationResults.Results → Arrays → Arrays → List ℕ → ℕ → Type 0
AirQuantified c = Answered (VentilationPromise.Settled c)

-- the length written, or needed, which is the place of that refusal (rule 4.11)
abbrev pub size_of : Result ℕ Refusal → ℕ
size_of (Ok n) = n
size_of (Err r) = (told_of r).place

pub record SheetWritten (f : Figures) (old new : List ℕ) (size : List ℕ) (number : ℕ) : Type 0 where
  pub answer : Result ℕ Refusal
  pub right : WriteRight f old new answer
  pub told : number ≡ (told_by answer).number
  pub sized : size ≡ size_of answer ∷ []

pub record SheetRead (t : List ℕ) (old new : Arrays) (offset : List ℕ) (number : ℕ) : Type 0 where
  pub answer : Result Figures Refusal
  pub right : ReadRight t answer
  pub told : number ≡ (told_by answer).number
  pub place : offset ≡ (told_by answer).place ∷ []
  pub figures : new ≡ arrays_after answer old

-- the numbers at a record's head
abbrev pub headed : Header → List ℕ
headed h = h.intervals ∷ h.devices ∷ h.mine ∷ h.fuels ∷ []

abbrev pub head_after : Result Header Refusal → List ℕ → List ℕ
head_after (Ok h) before = headed h
head_after (Err r) before = before

pub record RecordRead (t : List ℕ) (before after : Record.Rows) (old new line : List ℕ) (number : ℕ) : Type 0 where
  pub answer : Result Header Refusal
  pub right : Reader.ReadRight t before after answer
  pub told : number ≡ (told_by answer).number
  pub place : line ≡ (told_by answer).place ∷ []
  pub head : new ≡ head_after answer old

pub record FlowRead (t before after at : List ℕ) (number : ℕ) : Type 0 where
  pub answer : Result Unit Refusal
  pub right : Historian.ReadRight t before after answer
  pub told : number ≡ (told_by answer).number
  pub place : at ≡ (told_by answer).place ∷ []
