-- What the readers' answers mean, over any form of numbers.
use Rattle.std.specs.Prelude.{ℕ, ◌+◌, ◌^◌, ◌≤◌, ◌<◌, ◌≡◌, List, ◌++◌, length, take, drop, get_or, ℤ, pos, Result, Ok, Err}
use Rattle.std.proofs.lemmas.List.Edits.{sets}
use Rattle.text.specs.declared.Wrong.{Wrong}
use Rattle.text.specs.Form.{Form, Of, ReadAs, Broken, Stands}

-- A value, of the number that `of` says, and the place after it, or the place where the text breaks off.
abbrev pub ReadIn : {A : Type 0} → (A → ℤ) → Form ℤ → List ℕ → ℕ → Result (A × ℕ) Wrong → Type 0
ReadIn of f t start (Ok (v, stop)) = ReadAs f t start stop (of v)
ReadIn of f t start (Err w) = Broken (Of f) t start w.place

-- The same of an unsigned value, and of a signed one.
abbrev pub NaturalIn : Form ℤ → List ℕ → ℕ → Result (ℕ × ℕ) Wrong → Type 0
NaturalIn = ReadIn pos

abbrev pub SignedIn : Form ℤ → List ℕ → ℕ → Result (ℤ × ℕ) Wrong → Type 0
SignedIn = ReadIn (λ z. z)

-- The first n bytes of the key stand in t from `start`, and no more of it does.
pub record Matched (t : List ℕ) (start : ℕ) (key : List ℕ) (n : ℕ) : Type 0 where
  pub most : n ≤ length key
  pub stands : Stands t start (start + n) (take n key)
  pub ends : n < length key → start + n < length t → get_or t (start + n) 0 ≡ get_or key n 0 → ⊥

-- w was written from `start`, where the buffer has room, nothing else changed, and `stop` is the place after it.
pub record Put (old : List ℕ) (start : ℕ) (w new : List ℕ) (stop : ℕ) : Type 0 where
  pub stops : stop ≡ start + length w
  pub is : new ≡ sets old start w

-- rule 11.9: w stands at the buffer's start, n is its length, and no byte after its end has changed. `part` says that n
-- is the length of the buffer's part that holds it.
pub record Leads (w old new : List ℕ) (n : ℕ) : Type 0 where
  pub size : n ≡ length w
  pub room : n ≤ length old
  pub is : new ≡ w ++ drop n old
  pub part : n ≡ length (take n new)

-- What a reader of numbers is asked: a place of the text, a range with a number in it, an end that is no digit.
pub record Asked (t : List ℕ) (start least most end : ℕ) : Type 0 where
  pub within : start ≤ length t
  pub low : least ≤ 1
  pub range : least ≤ most
  pub stop : end < 48

pub record AskedSigned (t : List ℕ) (start below most end : ℕ) : Type 0 where
  pub within : start ≤ length t
  pub some : 1 ≤ below
  pub negative : below ≤ 2 ^ 63
  pub positive : most < 2 ^ 63
  pub stop : end < 48
