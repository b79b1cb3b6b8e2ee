-- The promise settles the output and every lent entry, a text longer than any record file is answered by its beginning, and rows
-- longer than a record needs make no difference.
-- Assumes nothing.
use Rattle.std.proofs.Common.{Result, Ok, Err, min}
use Prim.Native.Nat.{ℕ, ◌+◌, ◌*◌, ◌<◌, ◌≤◌}
use mathlib.Core.Path.{◌≡◌, sym, ap, ◌∙◌, subst}
use mathlib.Core.List.{List, ◌++◌}
use native.Mathlib.Omega.{arith}
use lib.ListN.{length, take, drop}
use Rattle.text.specs.Answer.{Leads}
use Rattle.refusals.specs.declared.Refusal.{Refusal}
use Rattle.refusals.specs.Table.{told_of, told_by}
use Rattle.drainage_record_form.specs.Rows.{room_of}
use Rattle.drainage_record_form.specs.File.{Headed}
use Rattle.drainage_record_form.proofs.Files.{headed_once}
use Rattle.drainage_record.specs.Read.{ReadRight, Refused}
use Rattle.drainage_record.specs.declared.Header.{Header}
use Rattle.drainage_record.proofs.Beginning.{read_cut}
use Rattle.drainage_record.proofs.Settled.{read_once}
use Rattle.drainage_report.specs.Report.{Lent, reader_rows, output_of, results_of, AsLong, Whatever, Reported}
use Rattle.drainage_report.proofs.Job.{Serves, same_room, served, lent_as}

-- The same text at the start of the same buffer.
leads_once : (w old new₁ new₂ : List ℕ) (n₁ n₂ : ℕ) → Leads w old new₁ n₁ → Leads w old new₂ n₂ → (new₁ ≡ new₂) × (n₁ ≡ n₂)
leads_once w old new₁ new₂ n₁ n₂ x y =
    let same : n₁ ≡ n₂ = x.size ∙ sym y.size in
    (x.is ∙ ap (λ (n : ℕ). w ++ drop n old) same ∙ sym y.is, same)

-- What is written, how long it is and what the rows hold is settled by the text and the rows' lengths and entries.
pub report_once : (t : List ℕ) (before after₁ after₂ : Lent) (old new₁ new₂ : List ℕ) (n₁ n₂ : ℕ) → Reported t before after₁ old new₁ n₁
    → Reported t before after₂ old new₂ n₂ → (new₁ ≡ new₂) × (n₁ ≡ n₂) × (after₁ ≡ after₂)
report_once t before after₁ after₂ old new₁ new₂ n₁ n₂ x y =
    let same : (x.answer ≡ y.answer) × (x.rows ≡ y.rows) = read_once t (reader_rows before) x.rows y.rows x.answer y.answer x.read
    y.read in
    let text : output_of y.answer y.rows before ≡ output_of x.answer x.rows before = λ i. output_of (sym same.0 i) (sym same.1 i) before in
    let wrote : (new₁ ≡ new₂) × (n₁ ≡ n₂) =
    leads_once (output_of x.answer x.rows before) old new₁ new₂ n₁ n₂ x.written (subst (λ (w : List ℕ). Leads w old new₂ n₂) text y.written) in
    (wrote.0, wrote.1, x.lent ∙ (λ i. lent_as (same.1 i) (results_of (same.0 i) (same.1 i) before)) ∙ sym y.lent)

-- Whatever is right of the first m bytes is right of the whole text, if no record file for these rows has m bytes. So a program that
-- reads at most m bytes answers for inputs of any length.
pub report_cut : (t : List ℕ) (m : ℕ) (before after : Lent) (old new : List ℕ) (n : ℕ) → 61 * room_of (reader_rows before) + 35972 < m
    → Reported (take m t) before after old new n → Reported t before after old new n
report_cut t m before after old new n long x =
    record {
      answer = x.answer;
      rows = x.rows;
      read = read_cut t m (reader_rows before) x.rows long x.answer x.read;
      written = x.written;
      lent = x.lent;
      settled = x.settled;
      whatever = λ k e. cut_other k e (x.whatever k e);
    }
  where
    cut_other : (k : Lent) → AsLong k before → Whatever (take m t) k (output_of x.answer x.rows before) → Whatever t k
        (output_of x.answer x.rows before)
    cut_other k e w =
        record {
          answer = w.answer;
          rows = w.rows;
          read = read_cut t m (reader_rows k) w.rows (subst (λ (r : ℕ). 61 * r + 35972 < m) (sym (same_room k before e)) long) w.answer w.read;
          output = w.output;
        }

-- Each of k's rows has at least as many entries as the shortest of the five series that l lends.
pub record Longer (k l : Lent) : Type 0 where
  pub series : room_of (reader_rows l) ≤ room_of (reader_rows k)
  pub outcome : room_of (reader_rows l) ≤ length k.results.outcome
  pub flow_used : room_of (reader_rows l) ≤ length k.results.flow
  pub content_used : room_of (reader_rows l) ≤ length k.results.content

longer_serves : (k l : Lent) → Longer l l → Longer k l → Serves k l
longer_serves k l own other =
    record {
      room = other.series;
      outcome = λ m h. both (length k.results.outcome) (length l.results.outcome) m h other.outcome own.outcome;
      flow_used = λ m h. both (length k.results.flow) (length l.results.flow) m h other.flow_used own.flow_used;
      content_used = λ m h. both (length k.results.content) (length l.results.content) m h other.content_used own.content_used;
    }
  where
    both : (a b m : ℕ) → m ≤ room_of (reader_rows l) → room_of (reader_rows l) ≤ a → room_of (reader_rows l) ≤ b → min a m ≡ min b m
    both a b m h p q = omega arith

-- Longer rows give the same output, unless the answer is 13. So a program may lend rows that are just as long as the record.
pub report_longer : (t : List ℕ) (k l after : Lent) (old new : List ℕ) (n : ℕ) → Longer l l → Longer k l → (x : Reported t l after old new n)
    → ((told_by x.answer).number ≡ 13 → ⊥) → Whatever t k (output_of x.answer x.rows l)
report_longer t k l after old new n own other x roomy = served t k l (longer_serves k l own other) x.rows x.answer x.read roomy

-- Rows that are as long as the first two lines say are long enough.
pub report_fits : (t : List ℕ) (l after : Lent) (old new : List ℕ) (n intervals devices : ℕ) → Headed t intervals devices
    → intervals * devices ≤ room_of (reader_rows l) → (x : Reported t l after old new n) → (told_by x.answer).number ≡ 13 → ⊥
report_fits t l after old new n intervals devices headed room x e = fits x.answer x.read e
  where
    refused : {r : Refusal} → Refused t (reader_rows l) x.rows r → (told_of r).number ≡ 13 → ⊥
    refused (Refused.room y) q =
        let same : (y.intervals ≡ intervals) × (y.devices ≡ devices) = headed_once y.intervals y.devices intervals devices y.headed headed in
        let product : y.intervals * y.devices ≡ intervals * devices = λ i. same.0 i * same.1 i in
        omega (arith, room, y.offence.2, product)
    refused (Refused.intervals y) q = omega (arith, q)
    refused (Refused.devices y) q = omega (arith, q)
    refused (Refused.line y) q = omega (arith, q)

    fits : (a : Result Header Refusal) → ReadRight t (reader_rows l) x.rows a → (told_by a).number ≡ 13 → ⊥
    fits (Err r) y q = refused y q
    fits (Ok h) y q = omega (arith, q)

-- The program's rows have 2,976 entries, and its buffer 217,600 bytes.
enough : 61 * 2976 + 35972 < 217600
enough = omega arith
