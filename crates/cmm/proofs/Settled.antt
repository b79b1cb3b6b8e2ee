-- Any two results that an exported function's contract permits are equal: the number and every entry lent. Assumes nothing.
use Rattle.std.proofs.Common.{Result, ℕ, ◌+◌, ◌*◌, ◌<◌, ◌≡◌, sym, ap, ◌∙◌, List, [], ◌∷◌, arith}
use Rattle.refusals.specs.declared.Refusal.{Refusal}
use Rattle.refusals.specs.Table.{told_by}
use Rattle.drainage_judge.specs.Call.{Call}
use Rattle.drainage_devices.specs.Devices.{Results}
use Rattle.figures.specs.declared.Figures.{Figures}
use Rattle.drainage.proofs.Settling.{settled_unique}
use Rattle.ventilation_judge.specs.Call as VentilationCall
use Rattle.ventilation_devices.specs.Devices as VentilationResults
use Rattle.ventilation.proofs.Settling as VentilationSettling
use Rattle.sheet_text.proofs.Settled.{read_settled, write_settled}
use Rattle.drainage_record_form.specs.Rows as Record
use Rattle.drainage_record.specs.declared.Header.{Header}
use Rattle.drainage_record.proofs.Settled as RecordSettled
use Rattle.historian.proofs.Settled.{read_unique}
use Rattle.cmm.specs.Exported.{Arrays, arrays_after, size_of, head_after, Answered, Quantified, AirQuantified, SheetWritten, SheetRead, RecordRead, FlowRead}

-- two things told of two answers that are one
told_once : {A B : Type 0} (f : A → B) {a b : A} {x y : B} → a ≡ b → x ≡ f a → y ≡ f b → x ≡ y
told_once f e p q = p ∙ ap f e ∙ sym q

pub record Same {R : Type 0} (one two : R) (held other : Arrays) (at at' : List ℕ) (m n : ℕ) : Type 0 where
  pub results : one ≡ two
  pub figures : held ≡ other
  pub place : at ≡ at'
  pub number : m ≡ n

-- of any quantification whose promise permits one answer and one result
answered_settled : {R : Type 0} {Promise : R → R → Result Figures Refusal → Type 0} (before one two : R) (old held other : Arrays) (at at' : List ℕ) (m n : ℕ)
    → ((a b : Result Figures Refusal) → Promise before one a → Promise before two b → (a ≡ b) × (one ≡ two))
    → Answered Promise before one old held at m → Answered Promise before two old other at' n → Same one two held other at at' m n
answered_settled before one two old held other at at' m n unique x y =
    let e = unique x.answer y.answer x.settled y.settled in
    let p = x.handed in
    let q = y.handed in
    record {
      results = e.1;
      figures = told_once (λ (a : Result Figures Refusal). arrays_after a old) e.0 p.figures q.figures;
      place = told_once (λ (a : Result Figures Refusal). (told_by a).device ∷ (told_by a).place ∷ []) e.0 p.place q.place;
      number = told_once (λ (a : Result Figures Refusal). (told_by a).number) e.0 p.told q.told;
    }

pub quantified_settled : (c : Call) (before one two : Results) (old held other : Arrays) (at at' : List ℕ) (m n : ℕ)
    → Quantified c before one old held at m → Quantified c before two old other at' n → Same one two held other at at' m n
quantified_settled c before one two old held other at at' m n = answered_settled before one two old held other at at' m n (settled_unique c before one two)

pub air_quantified_settled : (c : VentilationCall.Call) (before one two : VentilationResults.Results) (old held other : Arrays) (at at' : List ℕ) (m n : ℕ)
    → AirQuantified c before one old held at m → AirQuantified c before two old other at' n → Same one two held other at at' m n
air_quantified_settled c before one two old held other at at' m n =
    answered_settled before one two old held other at at' m n (VentilationSettling.settled_unique c before one two)

pub written_settled : (f : Figures) (old new other size size' : List ℕ) (m n : ℕ)
    → SheetWritten f old new size m → SheetWritten f old other size' n → (new ≡ other) × (size ≡ size') × (m ≡ n)
written_settled f old new other size size' m n x y =
    let e = write_settled f old new other x.answer y.answer x.right y.right in (
      e.1,
      told_once (λ (a : Result ℕ Refusal). size_of a ∷ []) e.0 x.sized y.sized,
      told_once (λ (a : Result ℕ Refusal). (told_by a).number) e.0 x.told y.told,
    )

pub sheet_read_settled : (t : List ℕ) (old held other : Arrays) (at at' : List ℕ) (m n : ℕ)
    → SheetRead t old held at m → SheetRead t old other at' n → (held ≡ other) × (at ≡ at') × (m ≡ n)
sheet_read_settled t old held other at at' m n x y =
    let e = read_settled t x.answer y.answer x.right y.right in (
      told_once (λ (a : Result Figures Refusal). arrays_after a old) e x.figures y.figures,
      told_once (λ (a : Result Figures Refusal). (told_by a).place ∷ []) e x.place y.place,
      told_once (λ (a : Result Figures Refusal). (told_by a).number) e x.told y.told,
    )

pub record_read_settled : (t : List ℕ) (before one two : Record.Rows) (old new other line line' : List ℕ) (m n : ℕ)
    → RecordRead t before one old new line m → RecordRead t before two old other line' n
    → (one ≡ two) × (new ≡ other) × (line ≡ line') × (m ≡ n)
record_read_settled t before one two old new other line line' m n x y =
    let e = RecordSettled.read_once t before one two x.answer y.answer x.right y.right in (
      e.1,
      told_once (λ (a : Result Header Refusal). head_after a old) e.0 x.head y.head,
      told_once (λ (a : Result Header Refusal). (told_by a).place ∷ []) e.0 x.place y.place,
      told_once (λ (a : Result Header Refusal). (told_by a).number) e.0 x.told y.told,
    )

pub flow_read_settled : (t before one two at at' : List ℕ) (m n : ℕ) → FlowRead t before one at m → FlowRead t before two at' n
    → (one ≡ two) × (at ≡ at') × (m ≡ n)
flow_read_settled t before one two at at' m n x y =
    let e = read_unique t before one two x.answer y.answer x.right y.right in (
      e.1,
      told_once (λ (v : Result Unit Refusal). (told_by v).place ∷ []) e.0 x.place y.place,
      told_once (λ (v : Result Unit Refusal). (told_by v).number) e.0 x.told y.told,
    )

-- The command (host/sheet.c) lends rows of at most 35,136 × 16 entries, and of a longer file it reads 34,328,709 bytes and some more:
-- by `report_cut` what is right of those is right of the whole file.
year_enough : 61 * (35136 * 16) + 35972 < 34328709
year_enough = omega arith
