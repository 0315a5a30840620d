-- Each contract of `lines` leaves one result, and the loaders' one memory where the lines stand; that the writers'
-- leave one result and one memory is `WriterDetermined` of `digits`. Limits are 64-bit numbers.
use Rattle.std.specs.Prelude.{ℕ, ◌≤◌, List, ◌≡◌, length, drop, Option, Some, None}
use Rattle.digits.specs.Texts.{Reads}
use Rattle.digits.specs.Numbers.{most_word}
use Rattle.digits.specs.declared.Read.{Read}
use Rattle.lines.specs.Lines.{line, Expects, Lined, Loads, Leaves}
use Rattle.lines.specs.declared.Kind.{Kind}

-- `expect`
abbrev pub ExpectDetermined : Type 0
ExpectDetermined = (t s : List ℕ) (i : ℕ) (r q : Option ℕ) → Expects t s i r → Expects t s i q → r ≡ q

-- `read_line`
abbrev pub LineDetermined : Type 0
LineDetermined = (most : ℕ) (kind : Kind) (tag s : List ℕ) (i : ℕ) (r q : Option Read) → most ≤ most_word
    → Reads most (line kind tag) s i r → Reads most (line kind tag) s i q → r ≡ q

-- `lines_end`
abbrev pub LinesDetermined : Type 0
LinesDetermined = (most : ℕ) (kind : Kind) (tag : List ℕ) (n : ℕ) (s : List ℕ) (i : ℕ) (r q : Option ℕ)
    → most ≤ most_word
    → Lined most (line kind tag) n s i r → Lined most (line kind tag) n s i q → r ≡ q

-- memory after two loads of n numbers that said the same: equal where the numbers are loaded, and otherwise equal
-- from place n on
abbrev pub SameLoad : ℕ → Option ℕ → List ℕ → List ℕ → Type 0
SameLoad n (Some j) a b = a ≡ b
SameLoad n None a b = (length a ≡ length b) × (drop n a ≡ drop n b)

-- the loaders
abbrev pub LoadDetermined : Type 0
LoadDetermined = (most : ℕ) (kind : Kind) (tag : List ℕ) (n : ℕ) (s : List ℕ) (i : ℕ) (out a b : List ℕ)
    (r q : Option ℕ) → most ≤ most_word
    → Loads most (line kind tag) n s i out a r → Loads most (line kind tag) n s i out b q
    → (r ≡ q) × SameLoad n r a b

-- what tells the room that is left
abbrev pub RoomDetermined : Type 0
RoomDetermined = (t : List ℕ) (room : ℕ) (r q : Option ℕ) → Leaves t room r → Leaves t room q → r ≡ q
