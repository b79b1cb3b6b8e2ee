-- What is printed for a text, for every text.
-- Assumes nothing.
use Rattle.std.specs.Prelude.{ℕ, ◌*◌, ◌≡◌, refl, List, ◌++◌, pos, length, replicate, Result, Ok, Err}
use Rattle.text.specs.Bytes.{bytes}
use Rattle.text.specs.Decimal.{dec}
use Rattle.text.specs.Line.{line_of}
use Rattle.text.specs.Answer.{Leads}
use Rattle.sheet_text.specs.Sheet.{text_of}
use Rattle.refusals.specs.declared.Refusal.{Refusal}
use Rattle.refusals.specs.declared.Refusal.TheVariants.{Line, Room}
use Rattle.refusals.specs.declared.Told.{Told}
use Rattle.refusals.specs.Table.{told_of}
use Rattle.protocol.specs.Ranges.{devices_most, device_checks, fuels_most}
use Rattle.columns.specs.Series as Series
use Rattle.columns.specs.Series.{Series, checks_of, fuel_of}
use Rattle.drainage.specs.Promise.{Settled}
use Rattle.figures.specs.declared.Figures.{Figures}
use Rattle.drainage_outcomes.specs.Rows.{Rows as ResultRows}
use Rattle.drainage_record_form.specs.Rows.{Rows}
use Rattle.drainage_record.specs.Read.{ReadRight}
use Rattle.drainage_record.specs.declared.Header.{Header}
use Rattle.drainage_report.specs.Quantified.{call_of, parts_of, parts_after, answer_to, results_after}

-- the three lines of a refusal (rule 13.2)
unfoldable pub refusal_text : Told → List ℕ
refusal_text a =
    line_of (bytes "refusal=") (pos a.number) ++ (line_of (bytes "device=") (pos a.device) ++ line_of (bytes "place=") (pos a.place))

-- The text of an answer: the sheet, or the refusal.
abbrev pub printed : Result Figures Refusal → List ℕ
printed (Ok f) = text_of f
printed (Err r) = refusal_text (told_of r)

-- What the caller lends: five series for the record and three result rows.
pub record Lent : Type 0 where
  pub series : Series
  pub results : ResultRows

-- the record's reader has those series, and rows of zeros for the rest
unfoldable pub reader_rows : Lent → Rows
reader_rows l =
    record {
      fuel = fuel_of (replicate fuels_most 0) (replicate fuels_most 0);
      kinds = replicate devices_most 0;
      checks = checks_of (replicate (2 * devices_most) 0) (replicate (device_checks * devices_most) 0) (replicate (device_checks * devices_most) (pos 0));
      series = l.series;
    }

-- What is printed: what quantification answers to the record, or the reader's refusal (rule 13.5).
abbrev pub output_of : Result Header Refusal → Rows → Lent → List ℕ
output_of (Ok h) rows l = printed (answer_to h rows l.results)
output_of (Err r) rows l = refusal_text (told_of r)

abbrev pub results_of : Result Header Refusal → Rows → Lent → ResultRows
results_of (Ok h) rows l = results_after h rows l.results
results_of (Err r) rows l = l.results

-- two that lend rows of the same lengths
pub record AsLong (l k : Lent) : Type 0 where
  pub series : Series.AsLong l.series k.series
  pub outcome : length l.results.outcome ≡ length k.results.outcome
  pub flow_used : length l.results.flow ≡ length k.results.flow
  pub content_used : length l.results.content ≡ length k.results.content

-- Of whoever lends rows of these lengths, whatever stands in them, this is the output.
pub record Whatever (t : List ℕ) (l : Lent) (w : List ℕ) : Type 0 where
  pub answer : Result Header Refusal
  pub rows : Rows
  pub read : ReadRight t (reader_rows l) rows answer
  pub output : w ≡ output_of answer rows l

-- The whole job: the text is read as ReadRight says, the output of what was read stands at the buffer's start, nothing else there
-- has changed, and every lent row holds what reading and quantification leave in it. A record's answer and result rows have all that
-- quantification promises, demand 3 with it (drainage/specs/Promise.antt, `Settled`).
pub record Reported (t : List ℕ) (before after : Lent) (old new : List ℕ) (n : ℕ) : Type 0 where
  pub answer : Result Header Refusal
  pub rows : Rows
  pub read : ReadRight t (reader_rows before) rows answer
  pub written : Leads (output_of answer rows before) old new n
  pub lent : after ≡ record { series = rows.series; results = results_of answer rows before }
  pub settled : (h : Header) → answer ≡ Ok h
      → Settled (call_of h rows before.results) (parts_of (h.devices * h.intervals) before.results) (parts_after h rows before.results)
      (answer_to h rows before.results)
  pub whatever : (other : Lent) → AsLong other before → Whatever t other (output_of answer rows before)

-- a line that is wrong, and a record that is too large, as they are printed
twelve : refusal_text (told_of (Line 3)) ≡ bytes "refusal=12\ndevice=0\nplace=3\n"
unfolding refusal_text dec
twelve = refl

thirteen : refusal_text (told_of Room) ≡ bytes "refusal=13\ndevice=0\nplace=0\n"
unfolding refusal_text dec
thirteen = refl
