-- Document 01, "`rowcheck`": lines of a tag, a number and a line feed, and what is said of n such lines at a position.
use Rattle.std.specs.Prelude.{ℕ, ◌+◌, ◌<◌, ◌≤◌, List, [], ◌∷◌, ◌++◌, ◌≡◌, length, drop, Option, Some, None}
use Rattle.digits.specs.Texts.{Has, Hasnt}
use Rattle.digits.specs.Numbers.{decimal_text, hex_text, ended}
use Rattle.lines.specs.declared.Kind.{Kind}
use Rattle.lines.specs.declared.Kind.TheVariants.{Decimal, Hex}

-- a number's text
abbrev pub number_text : Kind → ℕ → List ℕ
number_text Decimal = decimal_text
number_text Hex = hex_text

-- a line: a tag such as `key=`, a number, a line feed
abbrev pub line : Kind → List ℕ → ℕ → List ℕ
line kind tag v = tag ++ ended (number_text kind) 10 v

-- a text for each number, one after the other
unfoldable pub texts : (ℕ → List ℕ) → List ℕ → List ℕ
texts line [] = []
texts line (x ∷ xs) = line x ++ texts line xs

-- a line of one kind for each number
abbrev pub lines : Kind → List ℕ → List ℕ → List ℕ
lines kind tag = texts (line kind tag)

-- all of the numbers are at most `most`
abbrev pub AllWithin : ℕ → List ℕ → Type 0
AllWithin most [] = Unit {0}
AllWithin most (x ∷ xs) = (x ≤ most) × AllWithin most xs

-- what a reader says that looks for the text t at i
unfoldable pub Expects : List ℕ → List ℕ → ℕ → Option ℕ → Type 0
Expects t s i (Some j) = Has s i t j
Expects t s i None = Hasnt s i t

-- the lines of the n numbers xs up to `most` stand at i and end at j
pub record LinesAt (most : ℕ) (line : ℕ → List ℕ) (n : ℕ) (s : List ℕ) (i j : ℕ) (xs : List ℕ) : Type 0 where
  pub count : length xs ≡ n
  pub within : AllWithin most xs
  pub stand : Has s i (texts line xs) j

-- no lines of n numbers up to `most` stand at i
abbrev pub NoLines : ℕ → (ℕ → List ℕ) → ℕ → List ℕ → ℕ → Type 0
NoLines most line n s i = (xs : List ℕ) → length xs ≡ n → AllWithin most xs → Hasnt s i (texts line xs)

-- what a reader says that looks for the lines of n numbers up to `most` at i
unfoldable pub Lined : ℕ → (ℕ → List ℕ) → ℕ → List ℕ → ℕ → Option ℕ → Type 0
Lined most line n s i (Some j) = (xs : List ℕ) × LinesAt most line n s i j xs
Lined most line n s i None = NoLines most line n s i

-- the same, with the numbers put at the start of `out`, which is left as `after`. Where the lines are not all there
-- or don't fit, what stands from place n on is as it was; and all of it, where they don't fit
unfoldable pub Loads : ℕ → (ℕ → List ℕ) → ℕ → List ℕ → ℕ → List ℕ → List ℕ → Option ℕ
    → Type 0
Loads most line n s i out after (Some j) =
    (n ≤ length out) × ((xs : List ℕ) × LinesAt most line n s i j xs × (after ≡ xs ++ drop n out))
Loads most line n s i out after None = (n ≤ length out → NoLines most line n s i)
    × (length after ≡ length out) × (drop n after ≡ drop n out) × (length out < n → after ≡ out)

-- what is left of a room after the text t, if it fits
unfoldable pub Leaves : List ℕ → ℕ → Option ℕ → Type 0
Leaves t room (Some left) = left + length t ≡ room
Leaves t room None = room < length t
