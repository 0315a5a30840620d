-- What the contracts of inner functions cite: a run of digits, the number that it says, and the value of one
-- hexadecimal digit.
use Rattle.std.specs.Prelude.{ℕ, ◌+◌, ◌-◌, ◌*◌, ◌<◌, ◌≤◌, true, false, List, [], ◌∷◌, ◌≡◌, length, get_or, Option, Some, None, Result, Ok, Err}
use Rattle.digits.specs.Numbers.{glyph, is_digit}
use Rattle.digits.specs.declared.Read.{Read}
use Rattle.digits.specs.declared.Unread.{Unread}
use Rattle.digits.specs.declared.Unread.TheVariants.{Over, Wrong}

-- j is the end of the run of digits at i
pub record Run (s : List ℕ) (i j : ℕ) : Type 0 where
  pub order : i ≤ j
  pub within : j ≤ length s
  pub digits : (k : ℕ) → i ≤ k → k < j → is_digit (get_or s k 0) ≡ true
  pub stop : j < length s → is_digit (get_or s j 0) ≡ false

-- the number of a run of digits, after a
abbrev pub folded : ℕ → List ℕ → ℕ
folded a [] = a
folded a (b ∷ bs) = folded (a * 10 + (b - 48)) bs

-- v, if it is at most `most`, and the position j
unfoldable pub Limited : ℕ → ℕ → ℕ → Result Read Unread → Type 0
Limited most v j (Ok r) = (r.value ≡ v) × (v ≤ most) × (r.next ≡ j)
Limited most v j (Err (Over k)) = (most < v) × (k ≡ j)
Limited most v j (Err Wrong) = ⊥

-- what a reader says of the byte b that takes a hexadecimal digit: its number
abbrev pub Hexes : ℕ → Option ℕ → Type 0
Hexes b (Some d) = (d ≤ 15) × (glyph d ≡ b)
Hexes b None = (d : ℕ) → d ≤ 15 → glyph d ≡ b → ⊥
