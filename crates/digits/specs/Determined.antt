-- Each contract of `digits` leaves one result, and a writer's one memory.
use Rattle.std.specs.Prelude.{ℕ, ◌≤◌, List, ◌≡◌, Option, Result}
use Rattle.digits.specs.Texts.{Reads, Writes}
use Rattle.digits.specs.Numbers.{hex_text, ended, most_word, ReadsAmount}
use Rattle.digits.specs.declared.Read.{Read}
use Rattle.digits.specs.declared.Unread.{Unread}

-- `read_decimal`
abbrev pub DecimalDetermined : Type 0
DecimalDetermined = (most e : ℕ) (s : List ℕ) (i : ℕ) (r q : Result Read Unread)
    → ReadsAmount most e s i r → ReadsAmount most e s i q → r ≡ q

-- `read_hex`, whose limit is a 64-bit number
abbrev pub HexDetermined : Type 0
HexDetermined = (most e : ℕ) (s : List ℕ) (i : ℕ) (r q : Option Read) → most ≤ most_word
    → Reads most (ended hex_text e) s i r → Reads most (ended hex_text e) s i q → r ≡ q

-- every writer
abbrev pub WriterDetermined : Type 0
WriterDetermined = (t out : List ℕ) (i : ℕ) (a b : List ℕ) (r q : Option ℕ)
    → Writes t out i a r → Writes t out i b q → (r ≡ q) × (a ≡ b)
