-- Document 01, "`rowcheck`": numbers in decimal without leading zeros, and as 16 lower-case hexadecimal digits.
use Rattle.std.specs.Prelude.{ℕ, zero, suc, ◌+◌, ◌-◌, ◌/◌, ◌%◌, ◌^◌, ◌<◌, ◌≤◌, Bool, true, false, cond, List, [], ◌∷◌, ◌++◌, ◌≡◌, ltb, leb, Result, Ok, Err}
use Rattle.digits.specs.Texts.{Has, Hasnt}
use Rattle.digits.specs.declared.Read.{Read}
use Rattle.digits.specs.declared.Unread.{Unread}
use Rattle.digits.specs.declared.Unread.TheVariants.{Over, Wrong}

-- the byte of a digit below 16: `0` to `9`, then `a` to `f`
abbrev pub glyph : ℕ → ℕ
glyph d = cond (ltb d 10) (48 + d) (87 + d)

-- the last k digits of n in base b, the highest first
unfoldable pub digits_in : ℕ → ℕ → ℕ → List ℕ
digits_in b zero n = []
digits_in b (suc k) n = digits_in b k (n / b) ++ (glyph (n % b) ∷ [])

-- how many digits n has in decimal: one if it is below ten (the Bool says so), otherwise one more than n / 10 has; k
-- bounds the steps
unfoldable pub count_in : ℕ → Bool → ℕ → ℕ
count_in zero b n = 1
count_in (suc k) true n = 1
count_in (suc k) false n = suc (count_in k (ltb (n / 10) 10) (n / 10))

-- n in decimal, in as many digits as it has, so with no leading zero
unfoldable pub decimal_text : ℕ → List ℕ
decimal_text n = digits_in 10 (count_in n (ltb n 10) n) n

-- n as 16 hexadecimal digits
unfoldable pub hex_text : ℕ → List ℕ
hex_text n = digits_in 16 16 n

-- the largest 64-bit number
abbrev pub most_word : ℕ
most_word = 2 ^ 64 - 1

-- a number's text and the byte e that ends it
abbrev pub ended : (ℕ → List ℕ) → ℕ → ℕ → List ℕ
ended text e v = text v ++ (e ∷ [])

-- `0` to `9`
abbrev pub is_digit : ℕ → Bool
is_digit b = cond (ltb b 48) false (leb b 57)

-- what a reader says of s at i that takes a decimal number of any size and the byte e after it, which is no digit
unfoldable pub ReadsAmount : ℕ → ℕ → List ℕ → ℕ → Result Read Unread → Type 0
ReadsAmount most e s i (Ok r) =
    (is_digit e ≡ false) × (r.value ≤ most) × Has s i (ended decimal_text e r.value) r.next
ReadsAmount most e s i (Err (Over j)) =
    (is_digit e ≡ false) × ((v : ℕ) × (most < v) × Has s i (ended decimal_text e v) j)
ReadsAmount most e s i (Err Wrong) = (v : ℕ) → is_digit e ≡ false → Hasnt s i (ended decimal_text e v)
