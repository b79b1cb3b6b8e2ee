-- The worked example (rule 14.1): its input as lines and as text, and what lines leave in rows.
-- Assumes nothing.
use Rattle.std.specs.Prelude.{◌≡◌, refl, List, [], ◌∷◌, pos, negsuc, drop}
use Rattle.std.proofs.Common.{arith}
use Rattle.text.specs.Bytes.{bytes}
use Rattle.text.specs.Decimal.{dec}
use Rattle.columns.specs.Series.{series_of, checks_of, fuel_of}
use Rattle.drainage_record_form.specs.Field as Field
use Rattle.drainage_record_form.specs.Field.{line_text}
use Rattle.drainage_record_form.specs.Plan.{Line, line_is, done, After, text_of}
use Rattle.drainage_record_form.specs.Rows.{Rows, stored}
use Rattle.drainage_record_form.specs.File.{device_lines, file, Record}

abbrev pub worked : List Line
worked =
    line_is Field.intervals (pos 1)
    ∷ line_is Field.devices (pos 1)
    ∷ line_is Field.mine (pos 0)
    ∷ line_is Field.fuels (pos 1)
    ∷ line_is (Field.quantity 0) (pos 1000)
    ∷ line_is (Field.factor 0) (pos 700000)
    ∷ line_is (Field.kind 0) (pos 2)
    ∷ line_is (Field.flow_checks 0) (pos 0)
    ∷ line_is (Field.content_checks 0) (pos 0)
    ∷ line_is (Field.flow 0) (pos 30000)
    ∷ line_is (Field.content 0) (pos 10000)
    ∷ line_is (Field.temp 0) (pos 2000)
    ∷ line_is (Field.press 0) (pos 101325)
    ∷ line_is (Field.status 0) (pos 1)
    ∷ []

pub worked_text : text_of worked ≡ bytes
    "intervals=1\ndevices=1\nmine=0\nfuels=1\nquantity=1000\nfactor=700000\nkind=2\nflow_checks=0\nch4_checks=0\nflow=30000\nch4=10000\ntemp=2000\npress=101325\nstatus=1\n"
unfolding line_text dec
worked_text = refl

-- Its device's lines, and all of them, follow the order of a record file.
device_follows : After (device_lines 1 0 done) (drop 6 worked) done
device_follows = search arith depth 30

pub worked_record : Record worked
unfolding file
worked_record = search (device_follows, arith) depth 30

-- rows for one fuel line, one device and two entries
abbrev blank : Rows
blank = record {
  fuel = fuel_of (9 ∷ []) (9 ∷ []);
  kinds = 9 ∷ [];
  checks = checks_of (9 ∷ 9 ∷ []) (9 ∷ []) (pos 9 ∷ []);
  series = series_of (9 ∷ 9 ∷ []) (9 ∷ 9 ∷ []) (pos 9 ∷ pos 9 ∷ []) (9 ∷ 9 ∷ []) (9 ∷ 9 ∷ []);
}

-- The example leaves each value in its row, and what it has no line for as it was.
worked_stored : stored worked blank ≡ record {
  fuel = fuel_of (1000 ∷ []) (700000 ∷ []);
  kinds = 2 ∷ [];
  checks = checks_of (0 ∷ 0 ∷ []) (9 ∷ []) (pos 9 ∷ []);
  series = series_of (30000 ∷ 9 ∷ []) (10000 ∷ 9 ∷ []) (pos 2000 ∷ pos 9 ∷ []) (101325 ∷ 9 ∷ []) (1 ∷ 9 ∷ []);
}
worked_stored = refl

-- An empty value means missing: the mark is entered (rules 12.3 and 12.11).
abbrev gap : List Line
gap =
    line_is (Field.flow 1) (pos 65535)
    ∷ line_is (Field.content 1) (pos 65535)
    ∷ line_is (Field.temp 1) (negsuc 32767)
    ∷ line_is (Field.press 1) (pos 0)
    ∷ line_is (Field.status 1) (pos 0)
    ∷ []

gap_text : text_of gap ≡ bytes "flow=\nch4=\ntemp=\npress=\nstatus=0\n"
unfolding line_text dec
gap_text = refl

gap_flow : (stored gap blank).series.flow ≡ 9 ∷ 65535 ∷ []
gap_flow = refl

gap_temp : (stored gap blank).series.temp ≡ pos 9 ∷ negsuc 32767 ∷ []
gap_temp = refl

-- One check of each instrument of device 1, of no interval: their places are 64 and 96.
abbrev checked : List Line
checked =
    line_is (Field.kind 1) (pos 1)
    ∷ line_is (Field.flow_checks 1) (pos 1)
    ∷ line_is (Field.at 64) (pos 0)
    ∷ line_is (Field.drift 64) (negsuc 599)
    ∷ line_is (Field.content_checks 1) (pos 1)
    ∷ line_is (Field.at 96) (pos 0)
    ∷ line_is (Field.drift 96) (pos 500)
    ∷ []

checked_text : text_of checked ≡ bytes "kind=1\nflow_checks=1\nat=0\ndrift=-600\nch4_checks=1\nat=0\ndrift=500\n"
unfolding line_text dec
checked_text = refl

checked_follows : After (device_lines 0 1 done) checked done
checked_follows = search arith depth 30
