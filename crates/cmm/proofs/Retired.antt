-- No call's answer has the number 8, which is given up (rule 4.8): no exported function gives it, and no report prints it.
-- Assumes nothing.
use Rattle.std.proofs.Common.{Result, Ok, Err, ℕ, ◌≡◌, sym, ◌∙◌, List}
use Rattle.refusals.specs.declared.Refusal.{Refusal}
use Rattle.refusals.specs.declared.Told.{Told}
use Rattle.refusals.specs.Table.{told_of, told_by}
use Rattle.refusals.proofs.Retired.{never_eight, verdict_never_eight}
use Rattle.figures.specs.declared.Figures.{Figures}
use Rattle.drainage_record_form.specs.Rows as Record
use Rattle.drainage_record.specs.declared.Header.{Header}
use Rattle.sheet_text.specs.Sheet.{text_of}
use Rattle.drainage_report.specs.Quantified.{answer_to}
use Rattle.drainage_report.specs.Report.{refusal_text, printed, Lent, output_of}
use Rattle.cmm.specs.Exported.{Arrays, Answered, SheetWritten, SheetRead, RecordRead, FlowRead}

-- ---- of each answer: three zeros, or a refusal's

pub quantify_never_eight : (a : Result Figures Refusal) → (told_by a).number ≡ 8 → ⊥
quantify_never_eight a e = verdict_never_eight a e

pub write_never_eight : (a : Result ℕ Refusal) → (told_by a).number ≡ 8 → ⊥
write_never_eight a e = verdict_never_eight a e

pub read_never_eight : (a : Result Figures Refusal) → (told_by a).number ≡ 8 → ⊥
read_never_eight a e = verdict_never_eight a e

pub record_never_eight : (a : Result Header Refusal) → (told_by a).number ≡ 8 → ⊥
record_never_eight a e = verdict_never_eight a e

-- ---- of what is printed: a sheet, or the three lines of another number

pub data NotEight : List ℕ → Type 0 where
  sheet : (f : Figures) → NotEight (text_of f)
  refusal : (t : Told) → (t.number ≡ 8 → ⊥) → NotEight (refusal_text t)

printed_no_eight : (a : Result Figures Refusal) → NotEight (printed a)
printed_no_eight (Ok f) = NotEight.sheet f
printed_no_eight (Err r) = NotEight.refusal (told_of r) (never_eight r)

pub report_no_eight : (a : Result Header Refusal) (rows : Record.Rows) (l : Lent) → NotEight (output_of a rows l)
report_no_eight (Ok h) rows l = printed_no_eight (answer_to h rows l.results)
report_no_eight (Err r) rows l = NotEight.refusal (told_of r) (never_eight r)

-- ---- of each exported function that gives a number

module _ (n : ℕ) (e : n ≡ 8) where
  -- of drainage gas and of ventilation air
  pub quantified_no_eight : {R : Type 0} (Promise : R → R → Result Figures Refusal → Type 0) (before after : R) (old new : Arrays) (at : List ℕ)
      → Answered Promise before after old new at n → ⊥
  quantified_no_eight Promise before after old new at x = quantify_never_eight x.answer (sym x.handed.told ∙ e)

  pub written_no_eight : (f : Figures) (old new size : List ℕ) → SheetWritten f old new size n → ⊥
  written_no_eight f old new size x = write_never_eight x.answer (sym x.told ∙ e)

  pub sheet_read_no_eight : (t : List ℕ) (old new : Arrays) (offset : List ℕ) → SheetRead t old new offset n → ⊥
  sheet_read_no_eight t old new offset x = read_never_eight x.answer (sym x.told ∙ e)

  pub record_read_no_eight : (t : List ℕ) (before after : Record.Rows) (old new line : List ℕ) → RecordRead t before after old new line n → ⊥
  record_read_no_eight t before after old new line x = record_never_eight x.answer (sym x.told ∙ e)

  pub flow_read_no_eight : (t before after at : List ℕ) → FlowRead t before after at n → ⊥
  flow_read_no_eight t before after at x = verdict_never_eight x.answer (sym x.told ∙ e)
