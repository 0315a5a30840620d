-- Document 01, "The two indexes": a table is a list of 64-bit keys, strictly rising.
use Rattle.std.specs.Prelude.{Bool, cond, Option, Some, None, List, [], ◌∷◌, ℕ, zero, suc, ◌-◌, ◌^◌, ◌<◌, min, leb, ltb, length, get_or}
use Rattle.words.specs.Keys.{shared_bits}

-- a table has at most so many keys
abbrev pub most_keys : ℕ
most_keys = 32768

-- the key of row i
abbrev pub key_at : List ℕ → ℕ → ℕ
key_at T i = get_or T i 0

-- the keys have 64 bits and rise strictly
pub record Table (T : List ℕ) : Type 0 where
  pub fits : (i : ℕ) → i < length T → key_at T i < 2 ^ 64
  pub rises : (i : ℕ) → suc i < length T → key_at T i < key_at T (suc i)

-- of the d rows from row i on the first that is not above the one before it; 0 if there is none
unfoldable pub fall_from : List ℕ → ℕ → ℕ → ℕ
fall_from T i zero = 0
fall_from T i (suc d) = cond (leb (key_at T i) (key_at T (i - 1))) i (fall_from T (suc i) d)

-- the first row that is not above the one before it; 0 if there is none
abbrev pub first_fall : List ℕ → ℕ
first_fall T = fall_from T 1 (length T - 1)

-- that row, or none
abbrev pub fall_of : List ℕ → Option ℕ
fall_of T = cond (ltb 0 (first_fall T)) (Some (first_fall T)) None

-- how many of the keys pass the test
unfoldable pub count : (ℕ → Bool) → List ℕ → ℕ
count p [] = zero
count p (x ∷ xs) = cond (p x) (suc (count p xs)) (count p xs)

-- how many keys are smaller than x
abbrev pub smaller : List ℕ → ℕ → ℕ
smaller T x = count (λ k. ltb k x) T

-- how many leading bits x shares with all of the keys: 64 if there are none
unfoldable pub shared_with : ℕ → List ℕ → ℕ
shared_with x [] = 64
shared_with x (k ∷ ks) = min (shared_bits x k) (shared_with x ks)

-- how many leading bits all of the keys share
unfoldable pub shared_by_all : List ℕ → ℕ
shared_by_all [] = 64
shared_by_all (k ∷ ks) = shared_with k ks

-- f 0, f 1, .., f (n - 1)
unfoldable pub listed : ℕ → (ℕ → ℕ) → List ℕ
listed zero f = []
listed (suc n) f = f 0 ∷ listed n (λ i. f (suc i))
