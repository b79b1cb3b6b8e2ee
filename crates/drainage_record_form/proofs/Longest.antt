-- How long a record file can get: the longest text of each line, then of each part of the plan. Assumes nothing.
use Prim.Native.Nat.{ℕ, zero, suc, ◌+◌, ◌*◌, ◌≤◌, ◌<◌}
use mathlib.Core.Path.{◌≡◌, refl, sym, ap, subst}
use mathlib.Core.Bool.{Bool, true, false}
use mathlib.Core.List.{List, [], ◌∷◌, ◌++◌}
use native.Mathlib.Omega.{arith}
use native.Mathlib.Nat.{mul-le-mul_right, le_trans}
use lib.Dec.{leb}
use borrow.Author.Tests.{leb-true}
use lib.IntN.{ℤ, pos, negsuc}
use lib.ListN.{length, length-append}
use Rattle.rows.specs.Rows.{pick}
use Rattle.rows.proofs.Laws.{both_true}
use Rattle.protocol.specs.Ranges.{from_one, intervals_most, devices_most, checks_most, device_checks, fuels_most}
use Rattle.text.specs.Decimal.{Range, Fit, decimal}
use Rattle.text.proofs.Decimals.{tens, dec_length}
use Rattle.drainage_record_form.specs.Field.{Field, key_of, range_of, is_mark, line_text, natural}
use Rattle.drainage_record_form.specs.Plan.{Line, line_is, Plan, ask, times, text_of}
use Rattle.drainage_record_form.specs.File.{fuel_lines, check_lines, entry_lines, device_lines, file, Record, Begins, Headed, Limits, Fine}
use Rattle.drainage_record_form.proofs.Walking.{text_append}
use Rattle.drainage_record_form.proofs.Files.{begins_less}
use Rattle.drainage_record_form.proofs.Parts.{
  Part,
  part_none,
  part_ask,
  part_join,
  part_times,
  part_map,
  part_all,
  device_entries,
  from_content_checks,
  from_mine,
  with_head,
  Head,
  head,
  after_head,
}

-- ---- one line

-- A number of the range has at most k + 1 characters.
decimal_wide : (r : Range) (k : ℕ) (z : ℤ) → r.most < tens (suc k) → r.below < tens k → Fit r z → length (decimal z) ≤ suc k
decimal_wide r k (pos n) hm hb h = dec_length k n (omega (arith, h.1))
decimal_wide r zero (negsuc n) hm hb h = absurd (omega arith)
decimal_wide r (suc k) (negsuc n) hm hb h = omega (arith, dec_length k (suc n) (omega arith))

left_out : (b : Bool) (w : List ℕ) → length (pick b [] w) ≤ length w
left_out true w = omega arith
left_out false w = omega arith

-- A key of k bytes, a value of at most c characters and the byte 10.
line_by : (f : Field) (k c : ℕ) (z : ℤ) → length (key_of f) ≡ k → length (decimal z) ≤ c → length (line_text f z) ≤ k + c + 1
unfolding line_text
line_by f k c z hk h =
    omega (
      arith,
      length-append (key_of f) (pick (is_mark f z) [] (decimal z) ++ (10 ∷ [])),
      length-append (pick (is_mark f z) [] (decimal z)) (10 ∷ []),
      left_out (is_mark f z) (decimal z),
    )

line_wide : (f : Field) (k c : ℕ) (z : ℤ) → length (key_of f) ≡ k → (range_of f).most < tens (suc c) → (range_of f).below < tens c → Fit (range_of f) z
    → length (line_text f z) ≤ k + suc c + 1
line_wide f k c z hk hm hb h = line_by f k (suc c) z hk (decimal_wide (range_of f) c z hm hb h)

-- The longest text of a line, with its byte 10.
abbrev pub widest : Field → ℕ
widest Field.intervals = 21
widest Field.devices = 19
widest Field.mine = 16
widest Field.fuels = 9
widest (Field.quantity k) = 20
widest (Field.factor k) = 18
widest (Field.kind d) = 16
widest (Field.flow_checks d) = 15
widest (Field.content_checks d) = 14
widest (Field.at p) = 14
widest (Field.drift p) = 18
widest (Field.flow e) = 11
widest (Field.content e) = 10
widest (Field.temp e) = 12
widest (Field.press e) = 17
widest (Field.status e) = 11

pub line_widest : (f : Field) (z : ℤ) → Fit (range_of f) z → length (line_text f z) ≤ widest f
line_widest Field.intervals z h = line_wide Field.intervals 10 9 z refl (omega arith) (omega arith) h
line_widest Field.devices z h = line_wide Field.devices 8 9 z refl (omega arith) (omega arith) h
line_widest Field.mine z h = line_wide Field.mine 5 9 z refl (omega arith) (omega arith) h
line_widest Field.fuels z h = line_wide Field.fuels 6 1 z refl (omega arith) (omega arith) h
line_widest (Field.quantity k) z h = line_wide (Field.quantity k) 9 9 z refl (omega arith) (omega arith) h
line_widest (Field.factor k) z h = line_wide (Field.factor k) 7 9 z refl (omega arith) (omega arith) h
line_widest (Field.kind d) z h = line_wide (Field.kind d) 5 9 z refl (omega arith) (omega arith) h
line_widest (Field.flow_checks d) z h = line_wide (Field.flow_checks d) 12 1 z refl (omega arith) (omega arith) h
line_widest (Field.content_checks d) z h = line_wide (Field.content_checks d) 11 1 z refl (omega arith) (omega arith) h
line_widest (Field.at p) z h = line_wide (Field.at p) 3 9 z refl (omega arith) (omega arith) h
line_widest (Field.drift p) z h = line_wide (Field.drift p) 6 10 z refl (omega arith) (omega arith) h
line_widest (Field.flow e) z h = line_wide (Field.flow e) 5 4 z refl (omega arith) (omega arith) h
line_widest (Field.content e) z h = line_wide (Field.content e) 4 4 z refl (omega arith) (omega arith) h
line_widest (Field.temp e) z h = line_wide (Field.temp e) 5 5 z refl (omega arith) (omega arith) h
line_widest (Field.press e) z h = line_wide (Field.press e) 6 9 z refl (omega arith) (omega arith) h
line_widest (Field.status e) z h = line_wide (Field.status e) 7 2 z refl (omega arith) (omega arith) h

-- ---- one part

pub record Short (w : ℕ) (ls : List Line) : Type 0 where
  pub short : length (text_of ls) ≤ w

short_none : (w : ℕ) → Short w []
short_none w = record { short = omega arith }

short_line : (f : Field) (w x : ℕ) (z : ℤ) (ls : List Line) → Fit (range_of f) z → widest f + w ≤ x → Short w ls → Short x (line_is f z ∷ ls)
short_line f w x z ls h hx s =
    record { short = omega (arith, length-append (line_text f z) (text_of ls), line_widest f z h, s.short) }

short_join : (v w x : ℕ) (xs ys : List Line) → v + w ≤ x → Short v xs → Short w ys → Short x (xs ++ ys)
short_join v w x xs ys h a b =
    record { short = omega (arith, ap length (text_append xs ys), length-append (text_of xs) (text_of ys), a.short, b.short) }

ask_short : (f : Field) (next : ℤ → Plan → Plan) (w x : ℕ) → widest f + w ≤ x → ((z : ℤ) → Fit (range_of f) z → Part (next z) (Short w))
    → Part (λ rest. ask f (λ z. next z rest)) (Short x)
ask_short f next w x h more =
    part_ask f next (Short x) (λ z. Short w) more (λ z xs fit s. short_line f w x z xs fit h s)

join_short : (from to : Plan → Plan) (v w x : ℕ) → v + w ≤ x → Part from (Short v) → Part to (Short w) → Part (λ rest. from (to rest)) (Short x)
join_short from to v w x h a b = part_join from to (Short v) (Short w) (Short x) a b (λ xs ys s r. short_join v w x xs ys h s r)

grows : (i w : ℕ) → i * w + w ≤ suc i * w
grows i w = omega arith

times_short : (body : ℕ → Plan → Plan) (w n : ℕ) → ((i : ℕ) → Part (body i) (Short w)) → Part (times n body) (Short (n * w))
times_short body w n one =
    part_times body (λ i. Short (i * w)) (λ i. Short w) (short_none (0 * w)) one
    (λ i xs ys s r. short_join (i * w) w (suc i * w) xs ys (grows i w) s r) n

-- at most so many
times_most : (body : ℕ → Plan → Plan) (w n most : ℕ) → n ≤ most → ((i : ℕ) → Part (body i) (Short w)) → Part (times n body) (Short (most * w))
times_most body w n most h one =
    part_map (times n body) (Short (n * w)) (Short (most * w)) (λ xs s. record { short = le_trans s.short (mul-le-mul_right w h) })
    (times_short body w n one)

nothing : Part (λ rest. rest) (Short 0)
nothing = part_none (Short 0) (short_none 0)

-- ---- the parts of a record

fuel_short : (k : ℕ) → Part (fuel_lines k) (Short 38)
fuel_short k =
    ask_short (Field.quantity k) _ 18 38 (omega arith) (λ q h.
    ask_short (Field.factor k) _ 0 18 (omega arith) (λ f g. nothing))

check_short : (p : ℕ) → Part (check_lines p) (Short 32)
check_short p =
    ask_short (Field.at p) _ 18 32 (omega arith) (λ a h.
    ask_short (Field.drift p) _ 0 18 (omega arith) (λ d g. nothing))

entry_short : (e : ℕ) → Part (entry_lines e) (Short 61)
entry_short e =
    ask_short (Field.flow e) _ 50 61 (omega arith) (λ f h.
    ask_short (Field.content e) _ 40 50 (omega arith) (λ c h.
    ask_short (Field.temp e) _ 28 40 (omega arith) (λ t h.
    ask_short (Field.press e) _ 11 28 (omega arith) (λ p h.
    ask_short (Field.status e) _ 0 11 (omega arith) (λ s h. nothing)))))

-- No more of them than a count's range has.
counted : (f : Field) (z : ℤ) (most : ℕ) → (range_of f).most ≡ most → Fit (range_of f) z → natural z ≤ most
counted f (pos n) most e h = omega (arith, h.1)
counted f (negsuc n) most e h = omega arith

-- 45 bytes, the checks of either instrument, and the entries
device_short : (n d : ℕ) → Part (device_lines n d) (Short (n * 61 + 2093))
device_short n d =
    ask_short (Field.kind d) _ (n * 61 + 2077) (n * 61 + 2093) (omega arith) (λ k hk.
    ask_short (Field.flow_checks d) _ (n * 61 + 2062) (n * 61 + 2077) (omega arith) (λ c hc.
    join_short (times (natural c) (λ j. check_lines (device_checks * d + j))) (from_content_checks n d) (checks_most * 32) (n * 61 + 1038) (n * 61 + 2062)
    (omega arith)
    (times_most (λ j. check_lines (device_checks * d + j)) 32 (natural c) checks_most (counted (Field.flow_checks d) c checks_most refl hc)
    (λ j. check_short (device_checks * d + j)))
    (ask_short (Field.content_checks d) _ (n * 61 + 1024) (n * 61 + 1038) (omega arith) (λ e he.
    join_short (times (natural e) (λ j. check_lines (device_checks * d + checks_most + j))) (device_entries n d) (checks_most * 32) (n * 61) (n * 61 + 1024)
    (omega arith)
    (times_most (λ j. check_lines (device_checks * d + checks_most + j)) 32 (natural e) checks_most (counted (Field.content_checks d) e checks_most refl he)
    (λ j. check_short (device_checks * d + checks_most + j)))
    (times_short (λ i. entry_lines (d * n + i)) 61 n (λ i. entry_short (d * n + i)))))))

-- what comes after the first two lines
body_short : (n d : ℕ) → Part (from_mine n d) (Short (d * (n * 61 + 2093) + 2457))
body_short n d =
    ask_short Field.mine _ (d * (n * 61 + 2093) + 2441) (d * (n * 61 + 2093) + 2457) (omega arith) (λ m hm.
    ask_short Field.fuels _ (d * (n * 61 + 2093) + 2432) (d * (n * 61 + 2093) + 2441) (omega arith) (λ f hf.
    join_short (times (natural f) fuel_lines) (times d (device_lines n)) (fuels_most * 38) (d * (n * 61 + 2093)) (d * (n * 61 + 2093) + 2432) (omega arith)
    (times_most fuel_lines 38 (natural f) fuels_most (counted Field.fuels f fuels_most refl hf) fuel_short)
    (times_short (device_lines n) (n * 61 + 2093) d (device_short n))))

-- 27 bytes of the first two lines
file_short : (n d room a b c : ℕ) → d ≤ devices_most → n * d ≤ room → a ≤ 16 → b ≤ 11 → c ≤ d * (n * 61 + 2093) + 2457 → a + (b + c) ≤ 61 * room + 35972
file_short n d room a b c hd hr ha hb hc = omega arith

from_one_lem : (most n : ℕ) → from_one most n ≡ true → n ≤ most
from_one_lem most n e = leb-true n most (both_true (leb 1 n) (leb n most) e).1

-- A record whose N and D are in their limits is no longer than this.
pub record_longest : (n d room : ℕ) (ls : List Line) → Record (with_head n d ls) → Limits n d room
    → length (text_of (with_head n d ls)) ≤ 61 * room + 35972
record_longest n d room ls h l =
    let a : List ℕ = line_text Field.intervals (pos n) in
    let b : List ℕ = line_text Field.devices (pos d) in
    rw (length-append a (b ++ text_of ls), length-append b (text_of ls))
    (file_short n d room (length a) (length b) (length (text_of ls)) (from_one_lem devices_most d l.devices) l.entries
    (line_by Field.intervals 10 5 (pos n) refl (dec_length 4 n (omega (arith, from_one_lem intervals_most n l.intervals))))
    (line_by Field.devices 8 2 (pos d) refl (dec_length 1 d (omega (arith, from_one_lem devices_most d l.devices))))
    (part_all (from_mine n d) (Short (d * (n * 61 + 2093) + 2457)) ls (body_short n d) (after_head n d ls h)).short)

-- ---- beginnings

text_grows : (xs ys : List Line) → length (text_of xs) ≤ length (text_of (xs ++ ys))
text_grows xs ys = omega (arith, ap length (text_append xs ys), length-append (text_of xs) (text_of ys))

-- The first two lines of a beginning are the text's head.
pub begins_headed : (t : List ℕ) (n d : ℕ) (ls : List Line) → Begins t (with_head n d ls) → Headed t n d
begins_headed t n d ls b = begins_less (with_head n d []) ls b

-- The first line alone.
one_short : (l : Line) (more : List Line) → Record (l ∷ more) → length (text_of (l ∷ [])) ≤ 21
unfolding file
one_short l more h = by l.field h.0 h.1
  where
    by : (f : Field) → f ≡ Field.intervals → Fit (range_of Field.intervals) l.value → length (line_text f l.value ++ []) ≤ 21
    by f e g =
        omega (
          arith,
          length-append (line_text f l.value) [],
          ap (λ (x : Field). length (line_text x l.value)) e,
          line_widest Field.intervals l.value g,
        )

begun_short : (t : List ℕ) (room : ℕ) (ls : List Line) → Fine t room → Begins t ls → Head ls → length (text_of ls) ≤ 61 * room + 35972
begun_short t room ls fine b h =
    let front : List Line = with_head h.n h.d [] in
    let all : Record (front ++ (h.rest ++ b.more)) = subst (λ (l : List Line). Record (l ++ b.more)) h.is b.follows in
    le_trans (text_grows ls b.more)
    (subst (λ (l : List Line). length (text_of (l ++ b.more)) ≤ 61 * room + 35972) (sym h.is)
    (record_longest h.n h.d room (h.rest ++ b.more) all
    (fine.limits h.n h.d (begins_headed t h.n h.d h.rest (subst (Begins t) h.is b)))))

-- What a text with right N and D begins with is no longer than this.
pub begins_longest : (t : List ℕ) (room : ℕ) (ls : List Line) → Fine t room → Begins t ls → length (text_of ls) ≤ 61 * room + 35972
begins_longest t room [] fine b = omega arith
begins_longest t room (l ∷ []) fine b = omega (arith, one_short l b.more b.follows)
begins_longest t room (l ∷ k ∷ ls) fine b = begun_short t room (l ∷ k ∷ ls) fine b (head (l ∷ k ∷ ls) b.more b.follows (omega arith))
