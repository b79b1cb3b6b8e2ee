-- What it means to read a text, stated by languages and by no machine: a form writes a text for each value that it takes,
-- its language is the texts that it writes, and a refusal says how far some text of the language goes along with what is read.
use Rattle.std.specs.Prelude.{ℕ, suc, ◌≤◌, ◌<◌, ◌≡◌, List, [], ◌∷◌, ◌++◌, length, take, get_or}

-- The text of each value, and the values that are taken.
pub record Form (A : Type 0) : Type 1 where
  pub text : A → List ℕ
  pub takes : A → Type 0

-- The form's language: p is the text of a value that is taken.
pub record Of {A : Type 0} (f : Form A) (p : List ℕ) : Type 0 where
  pub value : A
  pub taken : f.takes value
  pub is : p ≡ f.text value

-- Some text of the language begins with p.
pub record Begun (L : List ℕ → Type 0) (p : List ℕ) : Type 0 where
  pub rest : List ℕ
  pub belongs : L (p ++ rest)

-- Some text of the language begins with p and goes on after it.
pub record Started (L : List ℕ → Type 0) (p : List ℕ) : Type 0 where
  pub next : ℕ
  pub rest : List ℕ
  pub belongs : L (p ++ (next ∷ rest))

-- The bytes of t from `start` to `stop` are w, all inside t.
pub record Stands (t : List ℕ) (start stop : ℕ) (w : List ℕ) : Type 0 where
  pub within : stop ≤ length t
  pub is : take stop t ≡ take start t ++ w

-- The text of the value a, which is taken, stands in t from `start` to `stop`.
pub record ReadAs {A : Type 0} (f : Form A) (t : List ℕ) (start stop : ℕ) (a : A) : Type 0 where
  pub taken : f.takes a
  pub stands : Stands t start stop (f.text a)

-- From `start` no text of L stands in t: the bytes up to k begin one and are none yet,
-- and with the byte at k, if there is one, they begin none.
pub record Broken (L : List ℕ → Type 0) (t : List ℕ) (start k : ℕ) : Type 0 where
  pub read : List ℕ
  pub stands : Stands t start k read
  pub begins : Started L read
  pub ends : k < length t → Begun L (read ++ (get_or t k 0 ∷ [])) → ⊥

-- rule 11.7, with the sheets for L: t is no text of L, some text of L begins with the first k bytes of t, and none with
-- the first k + 1. If t only stops short there is no byte at k, and k is t's length.
pub record RefusedAt (L : List ℕ → Type 0) (t : List ℕ) (k : ℕ) : Type 0 where
  pub within : k ≤ length t
  pub begins : Begun L (take k t)
  pub ends : k < length t → Begun L (take (suc k) t) → ⊥
  pub none : L t → ⊥
