-- What `mark` asks for, the tests of the entry passed.
use Rattle.std.specs.Prelude.{◌≡◌, Option, Some, List, ℕ, ◌<◌, length}

-- a row has a byte
abbrev pub HasByte : List ℕ → Option ℕ → Type 0
HasByte bytes at = (r : ℕ) → at ≡ Some r → r < length bytes
