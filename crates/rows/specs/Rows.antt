-- The vocabulary of lists that every specification here shares. A row is written by an index function: what stands at
-- each interval, and not how it got there.
-- Assumes nothing.
use Rattle.std.specs.Prelude.{ℕ, zero, suc, ◌+◌, ◌-◌, ◌*◌, ◌≤◌, ◌<◌, ◌≡◌, refl, Bool, true, false, List, [], ◌∷◌, ◌++◌, eqb, length, take, drop}

-- the first of two where a test holds, else the second
abbrev pub pick {ℓ} : {A : Type ℓ} → Bool → A → A → A
pick true a b = a
pick false a b = b

abbrev pub both : Bool → Bool → Bool
both true b = b
both false b = false

abbrev pub either : Bool → Bool → Bool
either true b = true
either false b = b

-- the row f 0, f 1, .., f (n - 1)
abbrev pub build {ℓ} : {A : Type ℓ} → ℕ → (ℕ → A) → List A
build zero f = []
build (suc n) f = build n f ++ (f n ∷ [])

-- f 0 + f 1 + .. + f (n - 1)
abbrev pub sum_to : ℕ → (ℕ → ℕ) → ℕ
sum_to zero f = 0
sum_to (suc n) f = sum_to n f + f n

-- the sum of a list's entries
abbrev pub total : List ℕ → ℕ
total [] = 0
total (x ∷ xs) = x + total xs

-- 1 if x is j, else 0
abbrev pub hit : ℕ → ℕ → ℕ
hit x j = pick (eqb x j) 1 0

-- how many of f 0, .., f (n - 1) are j
abbrev pub count_of : ℕ → (ℕ → ℕ) → ℕ → ℕ
count_of n f j = sum_to n (λ k. hit (f k) j)

-- the test holds at each index below n
abbrev pub every : ℕ → (ℕ → Bool) → Bool
every zero p = true
every (suc n) p = both (every n p) (p n)

-- the rows g 0, g 1, .., g (d - 1), one after the other
abbrev pub join {ℓ} : {A : Type ℓ} → ℕ → (ℕ → List A) → List A
join zero g = []
join (suc d) g = join d g ++ g d

-- the part of a row from a up to, and without, e
abbrev pub cut {ℓ} : {A : Type ℓ} → List A → ℕ → ℕ → List A
cut xs a e = take (e - a) (drop a xs)

-- the row with its part from a up to e replaced by ys
abbrev pub put {ℓ} : {A : Type ℓ} → List A → ℕ → ℕ → List A → List A
put xs a e ys = take a xs ++ (ys ++ drop (e - a) (drop a xs))

-- What a writer of the entries from a up to e keeps up: whatever row f was right up to a, and goes on as g there, is right
-- up to e, and what comes after is as it was.
pub record Continued {A : Type 0} (a e : ℕ) (g : ℕ → A) (old new : List A) : Type 0 where
  pub continued : (f : ℕ → A) (base : List A) → length base ≡ length old → ((i : ℕ) → a ≤ i → i < e → f i ≡ g i)
      → old ≡ build a f ++ drop a base → new ≡ build e f ++ drop e base
  pub same_length : length new ≡ length old

-- r is the first index below n at which the test holds, or n if there is none
pub record FirstOf (n : ℕ) (p : ℕ → Bool) (r : ℕ) : Type 0 where
  pub within : r ≤ n
  pub before : (k : ℕ) → k < r → p k ≡ false
  pub found : r < n → p r ≡ true

-- that index, computed
abbrev pub first : ℕ → (ℕ → Bool) → ℕ
first zero p = 0
first (suc n) p = pick (eqb (first n p) n) (pick (p n) n (suc n)) (first n p)

built : build 3 (λ k. k * k) ≡ 0 ∷ 1 ∷ 4 ∷ []
built = refl

summed : sum_to 4 (λ k. k * k) ≡ 14
summed = refl

counted : count_of 5 (λ k. k * k) 4 ≡ 1
counted = refl

joined : join 2 (λ d. build 2 (λ k. 10 * d + k)) ≡ 0 ∷ 1 ∷ 10 ∷ 11 ∷ []
joined = refl

cut_out : cut {A = ℕ} (5 ∷ 6 ∷ 7 ∷ 8 ∷ []) 1 3 ≡ 6 ∷ 7 ∷ []
cut_out = refl

put_back : put {A = ℕ} (5 ∷ 6 ∷ 7 ∷ 8 ∷ []) 1 3 (0 ∷ 1 ∷ []) ≡ 5 ∷ 0 ∷ 1 ∷ 8 ∷ []
put_back = refl

first_seven : first 9 (λ k. eqb k 7) ≡ 7
first_seven = refl

first_none : first 9 (λ k. eqb k 9) ≡ 9
first_none = refl
