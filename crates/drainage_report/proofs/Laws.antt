-- What is printed: how long it can be, and that it stands at the buffer's start. Assumes nothing.
use Rattle.std.proofs.Common.{ℕ, ◌+◌, ◌-◌, ◌*◌, ◌≤◌, ◌<◌, ◌≡◌, ap, ◌∙◌, subst, List, ◌++◌, length, take, drop, replicate, pos, Result, arith}
use mathlib.Core.List.{append_assoc}
use lib.ListN.{length-append}
use lib.Seq.{length-take-le}
use Rattle.text.specs.Bytes.{bytes}
use Rattle.text.specs.Line.{line_of}
use Rattle.text.specs.Answer.{Put, Leads}
use Rattle.text.proofs.Decimals.{dec_20}
use Rattle.text.proofs.Writing.{put-join, put_leads, line_length}
use Rattle.sheet_text.specs.Sheet.{sheet_most}
use Rattle.figures.specs.declared.Figures.{Figures}
use Rattle.refusals.specs.declared.Refusal.{Refusal}
use Rattle.refusals.specs.declared.Told.{Told}
use Rattle.columns.specs.Series.{Series, series_cut, series_take, checks_take, fuel_take}
use Rattle.drainage_judge.specs.Call.{Call}
use Rattle.drainage_judge.specs.Order.{judged}
use Rattle.protocol.specs.Ranges.{devices_most}
use Rattle.accounts.specs.Account.{account_size}
use Rattle.drainage_devices.specs.Devices.{results_with}
use Rattle.drainage.specs.Promise.{Settled, answer_by, results_by}
use Rattle.drainage_record_form.specs.Rows.{Rows}
use Rattle.drainage_record.specs.declared.Header.{Header}
use Rattle.drainage_outcomes.specs.Rows.{Rows as ResultRows, rows_of}
use Rattle.drainage_report.specs.Quantified.{Quantified, part_of, call_of, answer_to, parts_after}
use Rattle.drainage_report.specs.Report.{refusal_text}

-- No line with a number of 64 bits is longer than its key and 21 bytes.
pub line_most : (key : List ℕ) (v : ℕ) → v < 18446744073709551616 → length (line_of key (pos v)) ≤ length key + 21
line_most key v h = omega (arith, line_length key (pos v), dec_20 v h)

-- the three lines, one after the other
pub refusal_leads : (t : Told) (old one two new : List ℕ) (p q n : ℕ)
    → Put old 0 (line_of (bytes "refusal=") (pos t.number)) one p → Put one p (line_of (bytes "device=") (pos t.device)) two q
    → Put two q (line_of (bytes "place=") (pos t.place)) new n
    → t.number < 18446744073709551616 → t.device < 18446744073709551616 → t.place < 18446744073709551616 → sheet_most ≤ length old
    → Leads (refusal_text t) old new n
unfolding refusal_text
refusal_leads t old one two new p q n a b c hn hd hp room =
    put_leads (number ++ (device ++ place)) old new n joined
    (omega (
      arith,
      length-append number (device ++ place),
      length-append device place,
      line_most (bytes "refusal=") t.number hn,
      line_most (bytes "device=") t.device hd,
      line_most (bytes "place=") t.place hp,
    ))
  where
    number : List ℕ
    number = line_of (bytes "refusal=") (pos t.number)

    device : List ℕ
    device = line_of (bytes "device=") (pos t.device)

    place : List ℕ
    place = line_of (bytes "place=") (pos t.place)

    joined : Put old 0 (number ++ (device ++ place)) new n
    joined =
        subst (λ (w : List ℕ). Put old 0 w new n) (append_assoc number device place)
        (put-join old two new (number ++ device) place 0 q n (put-join old one two number device 0 p q a b) c)

-- ---- the call that a record makes

-- the parts of the result rows that are lent, and what follows them
abbrev pub parts_lent : ℕ → ResultRows → ResultRows
parts_lent m s = rows_of (take (part_of m s.outcome) s.outcome) (take (part_of m s.flow) s.flow) (take (part_of m s.content) s.content)

abbrev pub parts_kept : ℕ → ResultRows → ResultRows
parts_kept m s = rows_of (drop (part_of m s.outcome) s.outcome) (drop (part_of m s.flow) s.flow) (drop (part_of m s.content) s.content)

-- the call as it is made: of a series from 0 up to N × D, and of rows that are as long as their parts
abbrev call_with : Header → Rows → Series → ResultRows → Call
call_with h r series lent =
    record {
      intervals = h.intervals;
      devices = h.devices;
      mine = h.mine;
      kinds = take h.devices r.kinds;
      checks = checks_take h.devices r.checks;
      series = series;
      fuel = fuel_take h.fuels r.fuel;
      outcome_length = length lent.outcome;
      flow_row_length = length lent.flow;
      content_row_length = length lent.content;
    }

part_length : (m : ℕ) (row : List ℕ) → length (take (part_of m row) row) ≡ part_of m row
part_length m row = length-take-le (part_of m row) row (omega arith)

call_is : (h : Header) (r : Rows) (s : ResultRows) (series : Series) (lent : ResultRows)
    → series ≡ series_cut r.series 0 (h.devices * h.intervals) → lent ≡ parts_lent (h.devices * h.intervals) s → call_with h r series lent ≡ call_of h r s
unfolding call_of
call_is h r s series lent es el =
    let whole : h.devices * h.intervals - 0 ≡ h.devices * h.intervals = omega arith in
    (λ i. call_with h r (es i) (el i))
    ∙ (λ i. record {
      intervals = h.intervals;
      devices = h.devices;
      mine = h.mine;
      kinds = take h.devices r.kinds;
      checks = checks_take h.devices r.checks;
      series = series_take (whole i) r.series;
      fuel = fuel_take h.fuels r.fuel;
      outcome_length = part_length (h.devices * h.intervals) s.outcome i;
      flow_row_length = part_length (h.devices * h.intervals) s.flow i;
      content_row_length = part_length (h.devices * h.intervals) s.content i;
    })

pub quantified_is : (h : Header) (r : Rows) (s : ResultRows) (series : Series) (lent kept after : ResultRows) (accounts : List ℕ) (a : Result Figures Refusal)
    → series ≡ series_cut r.series 0 (h.devices * h.intervals) → lent ≡ parts_lent (h.devices * h.intervals) s
    → kept ≡ parts_kept (h.devices * h.intervals) s
    → Settled (call_with h r series lent) (results_with lent (replicate (devices_most * account_size) 0)) (results_with after accounts) a
    → Quantified h r s (rows_of (after.outcome ++ kept.outcome) (after.flow ++ kept.flow) (after.content ++ kept.content)) a
unfolding answer_to parts_after
quantified_is h r s series lent kept after accounts a es el ek x =
    let ec : call_with h r series lent ≡ call_of h r s = call_is h r s series lent es el in
    let left : results_with after accounts ≡ parts_after h r s =
    x.results ∙ (λ i. results_by (judged (ec i)) (ec i) (results_with (el i) (replicate (devices_most * account_size) 0))) in
    record {
      answer = x.answer ∙ ap (λ (k : Call). answer_by (judged k) k) ec;
      results = λ i.
          rows_of ((left i).outcome ++ (ek i).outcome) ((left i).flow ++ (ek i).flow) ((left i).content ++ (ek i).content);
    }
