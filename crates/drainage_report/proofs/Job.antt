-- The whole job from what its parts promise: the reader's answer, quantification's, and what was written. Assumes nothing.
use Rattle.std.proofs.Common.{Result, Ok, Err, min}
use Prim.Native.Nat.{ℕ, ◌*◌, ◌≤◌, ◌<◌}
use mathlib.Core.Path.{◌≡◌, refl, sym, ap, ◌∙◌, subst}
use mathlib.Core.Bool.{Bool, true, false}
use mathlib.Core.List.{List, [], ◌∷◌}
use native.Mathlib.Omega.{arith}
use lib.Dec.{leb}
use lib.IntN.{ℤ, pos}
use lib.ListN.{length, take, length-replicate}
use borrow.Author.Tests.{leb-true, leb-false}
use Rattle.rows.specs.Rows.{pick}
use Rattle.protocol.specs.Ranges.{intervals_most, devices_most, device_checks, fuels_most}
use Rattle.text.specs.Answer.{Leads}
use Rattle.columns.specs.Series.{Room, series_of, series_take, checks_take, fuel_take}
use Rattle.columns.proofs.Laws.{each_as_long}
use Rattle.refusals.specs.declared.Refusal.{Refusal}
use Rattle.refusals.specs.Table.{told_of, told_by}
use Rattle.drainage_judge.specs.Call.{Call}
use Rattle.drainage_judge.specs.Order.{judged}
use Rattle.steps.proofs.Clear.{within_most}
use Rattle.drainage.specs.Promise.{answer_by, Settled}
use Rattle.drainage.proofs.Settling.{settled_call}
use Rattle.figures.specs.declared.Figures.{Figures}
use Rattle.drainage_record_form.specs.Field.{Field}
use Rattle.drainage_record_form.specs.Plan.{Line, line_is}
use Rattle.drainage_record_form.specs.Rows.{Rows, with_series, store, stored, room_of, lesser}
use Rattle.drainage_record_form.specs.File.{Record, Limits, file}
use Rattle.drainage_record_form.proofs.Covered.{SameLong, covered, stored_long}
use Rattle.drainage_record.specs.Read.{ReadRight, RecordRead, Outside, NoRoom, Wrong, Refused}
use Rattle.drainage_record.specs.declared.Header.{Header}
use Rattle.drainage_outcomes.specs.Rows.{Rows as ResultRows}
use Rattle.drainage_report.specs.Quantified.{Roomy, Quantified, part_of, parts_of, parts_after, call_of, answer_to}
use Rattle.drainage_report.specs.Report.{refusal_text, printed, Lent, reader_rows, output_of, results_of, AsLong, Whatever, Reported}

lesser_both : (a b : ℕ) → (lesser a b ≤ a) × (lesser a b ≤ b)
lesser_both a b = by (leb a b) refl
  where
    by : (t : Bool) → leb a b ≡ t → (lesser a b ≤ a) × (lesser a b ≤ b)
    by true h = let e : lesser a b ≡ a = ap (λ (x : Bool). pick x a b) h in (omega arith, omega (arith, leb-true a b h))
    by false h = let e : lesser a b ≡ b = ap (λ (x : Bool). pick x a b) h in (omega (arith, leb-false a b h), omega arith)

-- Each series has at least as many entries as the shortest.
room_first : (a b c d e m : ℕ) → m ≤ lesser a (lesser b (lesser c (lesser d e))) → (m ≤ a) × (m ≤ b) × (m ≤ c) × (m ≤ d) × (m ≤ e)
room_first a b c d e m h =
    let x = lesser_both a (lesser b (lesser c (lesser d e))) in
    let y = lesser_both b (lesser c (lesser d e)) in
    let z = lesser_both c (lesser d e) in
    let t = lesser_both d e in
    (omega arith, omega arith, omega arith, omega arith, omega arith)

pub room_each : (r : Rows) (m : ℕ) → m ≤ room_of r → Room r.series m
room_each r m h =
    let s = r.series in
    let x = room_first (length s.flow) (length s.content) (length s.temp) (length s.press) (length s.status) m h in
    record { flow = x.0; content = x.1; temp = x.2; press = x.3; status = x.4 }

turned : (n d : ℕ) → d * n ≡ n * d
turned n d = omega arith

-- ---- what a record that was read is ready for

few_in : (n d m f : ℕ) (rest : List Line)
    → Record (line_is Field.intervals (pos n) ∷ line_is Field.devices (pos d) ∷ line_is Field.mine (pos m) ∷ line_is Field.fuels (pos f) ∷ rest) → f ≤ fuels_most
unfolding file
few_in n d m f rest r = r.2.2.2.1.1

module _ (t : List ℕ) (l : Lent) (after : Rows) (h : Header) (x : RecordRead t (reader_rows l) after h) where
  fuels_few : h.fuels ≤ fuels_most
  fuels_few = few_in h.intervals h.devices h.mine h.fuels x.rest (subst Record x.head x.follows)

  room_of_lem : Room (reader_rows l).series (h.intervals * h.devices)
  room_of_lem = room_each (reader_rows l) (h.intervals * h.devices) x.limits.entries

  pub ready : Roomy h after
  unfolding reader_rows
  ready =
      let n : h.intervals ≤ intervals_most = within_most h.intervals intervals_most x.limits.intervals in
      let d : h.devices ≤ devices_most = within_most h.devices devices_most x.limits.devices in
      let s : SameLong (stored x.lines (reader_rows l)) (reader_rows l) = stored_long x.lines (reader_rows l) in
      let k : SameLong after (reader_rows l) = subst (λ (r : Rows). SameLong r (reader_rows l)) (sym x.rows) s in
      let m : h.devices * h.intervals ≡ h.intervals * h.devices = turned h.intervals h.devices in
      record {
        few = n;
        few_devices = d;
        fuel =
            record {
              quantity = omega (arith, k.fuel.quantity, fuels_few, length-replicate {A = ℕ} fuels_most 0);
              factor = omega (arith, k.fuel.factor, fuels_few, length-replicate {A = ℕ} fuels_most 0);
            };
        kinds_room = omega (arith, k.kinds, d, length-replicate {A = ℕ} devices_most 0);
        checks =
            record {
              counts = omega (arith, k.checks.counts, d, length-replicate {A = ℕ} (2 * devices_most) 0);
              positions = omega (arith, k.checks.positions, d, length-replicate {A = ℕ} (device_checks * devices_most) 0);
              drifts = omega (arith, k.checks.drifts, d, length-replicate (device_checks * devices_most) (pos 0));
            };
        series = subst (Room after.series) (sym m) (each_as_long (λ e. h.intervals * h.devices ≤ e) k.series room_of_lem);
      }

pub ready_for : (t : List ℕ) (l : Lent) (after : Rows) (h : Header) (a : Result Header Refusal) → a ≡ Ok h → ReadRight t (reader_rows l) after a → Roomy h
    after
ready_for t l after h a e r = ready t l after h (subst (ReadRight t (reader_rows l) after) e r)

-- Reading leaves each row as long as it was.
pub read_long : (t : List ℕ) (before after : Rows) (a : Result Header Refusal) → ReadRight t before after a → SameLong after before
read_long t before after (Ok h) x = subst (λ (r : Rows). SameLong r before) (sym x.rows) (stored_long x.lines before)
read_long t before after (Err r) x = refused_long x
  where
    refused_long : {r : Refusal} → Refused t before after r → SameLong after before
    refused_long (Refused.intervals y) = subst (λ (w : Rows). SameLong w before) (sym y.same) (stored_long [] before)
    refused_long (Refused.devices y) = subst (λ (w : Rows). SameLong w before) (sym y.same) (stored_long [] before)
    refused_long (Refused.room y) = subst (λ (w : Rows). SameLong w before) (sym y.same) (stored_long [] before)
    refused_long (Refused.line y) = subst (λ (w : Rows). SameLong w before) (sym y.rows) (stored_long y.lines before)

-- ---- the rows but for the series

-- What a line leaves in the other rows does not depend on the series.
abbrev rest : Rows → Rows
rest r = with_series (series_of [] [] [] [] []) r

rest_store : (f : Field) (z : ℤ) (r : Rows) → rest (store f z r) ≡ rest (store f z (rest r))
rest_store Field.intervals z r = refl
rest_store Field.devices z r = refl
rest_store Field.mine z r = refl
rest_store Field.fuels z r = refl
rest_store (Field.quantity k) z r = refl
rest_store (Field.factor k) z r = refl
rest_store (Field.kind d) z r = refl
rest_store (Field.flow_checks d) z r = refl
rest_store (Field.content_checks d) z r = refl
rest_store (Field.at p) z r = refl
rest_store (Field.drift p) z r = refl
rest_store (Field.flow e) z r = refl
rest_store (Field.content e) z r = refl
rest_store (Field.temp e) z r = refl
rest_store (Field.press e) z r = refl
rest_store (Field.status e) z r = refl

rest_stored : (ls : List Line) (r s : Rows) → rest r ≡ rest s → rest (stored ls r) ≡ rest (stored ls s)
rest_stored [] r s e = e
rest_stored (l ∷ ls) r s e =
    rest_stored ls (store l.field l.value r) (store l.field l.value s)
    (rest_store l.field l.value r ∙ ap (λ (w : Rows). rest (store l.field l.value w)) e ∙ sym (rest_store l.field l.value s))

-- ---- neither what stands in the lent rows matters, nor that there is more room than a record needs

-- k has room for each record that l has room for, and quantification is handed result rows of the same lengths.
pub record Serves (k l : Lent) : Type 0 where
  pub room : room_of (reader_rows l) ≤ room_of (reader_rows k)
  pub outcome : (m : ℕ) → m ≤ room_of (reader_rows l) → part_of m k.results.outcome ≡ part_of m l.results.outcome
  pub flow_used : (m : ℕ) → m ≤ room_of (reader_rows l) → part_of m k.results.flow ≡ part_of m l.results.flow
  pub content_used : (m : ℕ) → m ≤ room_of (reader_rows l) → part_of m k.results.content ≡ part_of m l.results.content

module _ (t : List ℕ) (k l : Lent) (e : Serves k l) where
  outside_other : {after : Rows} {offends : ℕ → ℕ → Type 0} → Outside t (reader_rows l) after offends → Outside t (reader_rows k) (reader_rows k) offends
  outside_other x = record { intervals = x.intervals; devices = x.devices; headed = x.headed; offence = x.offence; same = refl }

  limits_other : (n d : ℕ) → Limits n d (room_of (reader_rows l)) → Limits n d (room_of (reader_rows k))
  limits_other n d x = record { intervals = x.intervals; devices = x.devices; entries = omega (arith, x.entries, e.room) }

  record_other : {after : Rows} {h : Header} → (x : RecordRead t (reader_rows l) after h) → RecordRead t (reader_rows k) (stored x.lines (reader_rows k)) h
  record_other {h = h} x =
      record {
        lines = x.lines;
        follows = x.follows;
        is = x.is;
        rest = x.rest;
        head = x.head;
        limits = limits_other h.intervals h.devices x.limits;
        rows = refl;
      }

  wrong_other : {after : Rows} {line : ℕ} → (x : Wrong t (reader_rows l) after line) → Wrong t (reader_rows k) (stored x.lines (reader_rows k)) line
  wrong_other x =
      record {
        lines = x.lines;
        first = x.first;
        number = x.number;
        fine = record { limits = λ n d y. limits_other n d (x.fine.limits n d y) };
        rows = refl;
      }

  -- The record covers each entry that quantification is lent.
  module _ (after : Rows) (h : Header) (x : RecordRead t (reader_rows l) after h) where
    alike : series_take (h.devices * h.intervals) (stored x.lines (reader_rows k)).series ≡ series_take (h.devices * h.intervals)
        (stored x.lines (reader_rows l)).series
    alike =
        subst (λ (m : ℕ). series_take m (stored x.lines (reader_rows k)).series ≡ series_take m (stored x.lines (reader_rows l)).series)
        (sym (turned h.intervals h.devices))
        (subst (λ (ls : List Line). series_take (h.intervals * h.devices) (stored ls (reader_rows k)).series ≡ series_take (h.intervals * h.devices)
        (stored ls (reader_rows l)).series) (sym x.head)
        (covered h.intervals h.devices (line_is Field.mine (pos h.mine) ∷ line_is Field.fuels (pos h.fuels) ∷ x.rest)
        (subst Record x.head x.follows) (reader_rows k) (reader_rows l)
        (room_of_lem t k (stored x.lines (reader_rows k)) h (record_other x)) (room_of_lem t l after h x)))

    within : h.devices * h.intervals ≤ room_of (reader_rows l)
    within = omega (arith, x.limits.entries, turned h.intervals h.devices)

    call_both : call_of h (stored x.lines (reader_rows k)) k.results ≡ call_of h (stored x.lines (reader_rows l)) l.results
    unfolding call_of reader_rows
    call_both =
        let others : rest (stored x.lines (reader_rows k)) ≡ rest (stored x.lines (reader_rows l)) = rest_stored x.lines (reader_rows k) (reader_rows l)
        refl in
        λ i. record {
          intervals = h.intervals;
          devices = h.devices;
          mine = h.mine;
          kinds = take h.devices (others i).kinds;
          checks = checks_take h.devices (others i).checks;
          series = alike i;
          fuel = fuel_take h.fuels (others i).fuel;
          outcome_length = e.outcome (h.devices * h.intervals) within i;
          flow_row_length = e.flow_used (h.devices * h.intervals) within i;
          content_row_length = e.content_used (h.devices * h.intervals) within i;
        }

  call_other : (after : Rows) (h : Header) (x : RecordRead t (reader_rows l) after h)
      → call_of h (stored x.lines (reader_rows k)) k.results ≡ call_of h after l.results
  call_other after h x = call_both after h x ∙ ap (λ (r : Rows). call_of h r l.results) (sym x.rows)

  answer_other : (after : Rows) (h : Header) (x : RecordRead t (reader_rows l) after h)
      → answer_to h after l.results ≡ answer_to h (stored x.lines (reader_rows k)) k.results
  unfolding answer_to
  answer_other after h x = ap (λ (c : Call). answer_by (judged c) c) (sym (call_other after h x))

  told_other : (r : Refusal) (rows : Rows) → Refused t (reader_rows k) rows r → Whatever t k (refusal_text (told_of r))
  told_other r rows y = record { answer = Err r; rows = rows; read = y; output = refl }

  -- Whoever is not refused for want of room gets the same output from k.
  pub served : (after : Rows) (a : Result Header Refusal) → ReadRight t (reader_rows l) after a → ((told_by a).number ≡ 13 → ⊥) → Whatever t k (output_of a after l)
  served after (Ok h) x roomy =
      record {
        answer = Ok h;
        rows = stored x.lines (reader_rows k);
        read = record_other x;
        output = ap printed (answer_other after h x);
      }
  served after (Err r) x roomy = refused_other x roomy
    where
      refused_other : {r : Refusal} → Refused t (reader_rows l) after r → ((told_of r).number ≡ 13 → ⊥) → Whatever t k (refusal_text (told_of r))
      refused_other (Refused.intervals y) roomy = told_other Refusal.Intervals (reader_rows k) (Refused.intervals (outside_other y))
      refused_other (Refused.devices y) roomy = told_other Refusal.Devices (reader_rows k) (Refused.devices (outside_other y))
      refused_other (Refused.room y) roomy = absurd (roomy refl)
      refused_other (Refused.line {l = n} y) roomy =
          told_other (Refusal.Line n) (stored y.lines (reader_rows k)) (Refused.line (wrong_other y))

-- ---- rows of the same lengths

pub same_room : (k l : Lent) → AsLong k l → room_of (reader_rows k) ≡ room_of (reader_rows l)
unfolding reader_rows
same_room k l e = let s = e.series in λ i. lesser (s.flow i) (lesser (s.content i) (lesser (s.temp i) (lesser (s.press i) (s.status i))))

as_long_serves : (k l : Lent) → AsLong k l → Serves k l
as_long_serves k l e =
    record {
      room = omega (arith, same_room k l e);
      outcome = λ m h. ap (λ (n : ℕ). min n m) e.outcome;
      flow_used = λ m h. ap (λ (n : ℕ). min n m) e.flow_used;
      content_used = λ m h. ap (λ (n : ℕ). min n m) e.content_used;
    }

module _ (t : List ℕ) (k l : Lent) (e : AsLong k l) where
  no_room : {after : Rows} → Outside t (reader_rows l) after (NoRoom (room_of (reader_rows l))) → Outside t (reader_rows k) (reader_rows k)
      (NoRoom (room_of (reader_rows k)))
  no_room y =
      record {
        intervals = y.intervals;
        devices = y.devices;
        headed = y.headed;
        offence = (y.offence.0, y.offence.1, subst (λ (m : ℕ). m < y.intervals * y.devices) (sym (same_room k l e)) y.offence.2);
        same = refl;
      }

  -- What stands in rows of the same lengths does not matter.
  pub whatever_else : (after : Rows) (a : Result Header Refusal) → ReadRight t (reader_rows l) after a → Whatever t k (output_of a after l)
  whatever_else after (Ok h) x = served t k l (as_long_serves k l e) after (Ok h) x (λ q. omega (arith, q))
  whatever_else after (Err r) x = refused_else x
    where
      refused_else : {r : Refusal} → Refused t (reader_rows l) after r → Whatever t k (refusal_text (told_of r))
      refused_else (Refused.room y) = told_other t k l (as_long_serves k l e) Refusal.Room (reader_rows k) (Refused.room (no_room y))
      refused_else (Refused.intervals y) =
          served t k l (as_long_serves k l e) after (Err Refusal.Intervals) (Refused.intervals y) (λ q. omega (arith, q))
      refused_else (Refused.devices y) =
          served t k l (as_long_serves k l e) after (Err Refusal.Devices) (Refused.devices y) (λ q. omega (arith, q))
      refused_else (Refused.line {l = n} y) =
          served t k l (as_long_serves k l e) after (Err (Refusal.Line n)) (Refused.line y) (λ q. omega (arith, q))

-- ---- the job

settled_record : (h : Header) (r : Rows) (s : ResultRows)
    → Settled (call_of h r s) (parts_of (h.devices * h.intervals) s) (parts_after h r s) (answer_to h r s)
unfolding parts_after answer_to
settled_record h r s = settled_call (call_of h r s) (parts_of (h.devices * h.intervals) s)

abbrev pub lent_as : Rows → ResultRows → Lent
lent_as r results = record { series = r.series; results = results }

module _ (t : List ℕ) (l : Lent) (rows : Rows) (old new : List ℕ) (n : ℕ) where
  pub reported : (a : Result Header Refusal) → ReadRight t (reader_rows l) rows a → Leads (output_of a rows l) old new n
      → Reported t l (lent_as rows (results_of a rows l)) old new n
  reported a r w =
      record {
        answer = a;
        rows = rows;
        read = r;
        written = w;
        lent = refl;
        settled = λ h e. settled_record h rows l.results;
        whatever = λ k e. whatever_else t k l e rows a r;
      }

  -- The reader refused: that is printed, and the result rows are as they were.
  pub reported_refusal : (a : Result Header Refusal) (r : Refusal) (b : Result Figures Refusal) (results : ResultRows) → a ≡ Err r
      → ReadRight t (reader_rows l) rows a → b ≡ Err r → results ≡ l.results → Leads (printed b) old new n → Reported t l (lent_as rows results) old new n
  reported_refusal a r b results e x eb er w =
      subst (λ (s : ResultRows). Reported t l (lent_as rows s) old new n) (sym er)
      (reported (Err r) (subst (ReadRight t (reader_rows l) rows) e x) (subst (λ (y : Result Figures Refusal). Leads (printed y) old new n) eb w))

  -- A record was read and quantified.
  pub reported_record : (a : Result Header Refusal) (h : Header) (b made : Result Figures Refusal) (results left : ResultRows) → a ≡ Ok h
      → ReadRight t (reader_rows l) rows a → b ≡ made → results ≡ left → Quantified h rows l.results left made → Leads (printed b) old new n
      → Reported t l (lent_as rows results) old new n
  reported_record a h b made results left e x eb er q w =
      subst (λ (s : ResultRows). Reported t l (lent_as rows s) old new n) (sym (er ∙ q.results))
      (reported (Ok h) (subst (ReadRight t (reader_rows l) rows) e x)
      (subst (λ (y : Result Figures Refusal). Leads (printed y) old new n) (eb ∙ q.answer) w))
