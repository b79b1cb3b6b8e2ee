-- Decimal numbers (rule 11.2), and ranges of them.
use Rattle.std.specs.Prelude.{ℕ, zero, suc, ◌+◌, ◌/◌, ◌%◌, ◌≤◌, ◌<◌, ◌≡◌, refl, Bool, true, false, List, [], ◌∷◌, ◌++◌, ltb, ℤ, pos, negsuc}
use Rattle.text.specs.Bytes.{bytes}
use Rattle.text.specs.Form.{Form}

-- The digits of v, told whether v is below ten: then one digit, else those of v / 10 and the last one.
-- Any fuel above v gives them all.
abbrev pub digits_by : ℕ → Bool → ℕ → List ℕ
digits_by zero small v = []
digits_by (suc fuel) true v = (48 + v) ∷ []
digits_by (suc fuel) false v = digits_by fuel (ltb (v / 10) 10) (v / 10) ++ ((48 + v % 10) ∷ [])

-- rule 11.2: no leading zero, 0 itself being one digit, and no plus.
unfoldable pub dec : ℕ → List ℕ
dec v = digits_by (suc v) (ltb v 10) v

-- rule 11.2: a minus directly before the digits. `negsuc n` is -(n + 1): so there is no minus zero.
abbrev pub decimal : ℤ → List ℕ
decimal (pos n) = dec n
decimal (negsuc n) = 45 ∷ dec (suc n)

-- The numbers from `least` to `most`, and from -1 down to -`below`.
pub record Range : Type 0 where
  pub least : ℕ
  pub most : ℕ
  pub below : ℕ

abbrev pub Fit : Range → ℤ → Type 0
Fit r (pos n) = (r.least ≤ n) × (n ≤ r.most)
Fit r (negsuc n) = n < r.below

abbrev pub plain : ℕ → ℕ → Range
plain least most = record { least = least; most = most; below = 0 }

abbrev pub signed : ℕ → ℕ → Range
signed below most = record { least = 0; most = most; below = below }

-- A number of the range, ended by a byte.
abbrev pub number : Range → ℕ → Form ℤ
number r end = record { text = λ z. decimal z ++ (end ∷ []); takes = Fit r }

zero_is : dec 0 ≡ bytes "0"
unfolding dec
zero_is = refl

largest_is : dec 18446744073709551615 ≡ bytes "18446744073709551615"
unfolding dec
largest_is = refl

least_is : decimal (negsuc 9223372036854775807) ≡ bytes "-9223372036854775808"
unfolding dec
least_is = refl
