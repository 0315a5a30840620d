-- Cells that are being filled.
use Rattle.std.specs.Prelude.{◌≡◌, List, ℕ, ◌<◌, get_or}
use Rattle.std.specs.Int.Bits.{bit_xor}
use Rattle.jams.specs.Jam.{Touches}

-- the value of item i: the xor of its three cells
unfoldable pub value_of : (ℕ → ℕ → ℕ) → List ℕ → ℕ → ℕ
value_of e cells i = bit_xor (bit_xor (get_or cells (e 0 i) 0) (get_or cells (e 1 i) 0)) (get_or cells (e 2 i) 0)

-- what is stored at one of item i's cells, c, so that i's value is w
abbrev pub fix : (ℕ → ℕ → ℕ) → List ℕ → ℕ → ℕ → ℕ → ℕ
fix e cells i c w = bit_xor (bit_xor (get_or cells c 0) w) (value_of e cells i)

-- each item below t has the wanted value
unfoldable pub Valued : (ℕ → ℕ → ℕ) → ℕ → (ℕ → ℕ) → List ℕ → Type 0
Valued e t want cells = (i : ℕ) → i < t → value_of e cells i ≡ want i

-- a cell that no item touches is 0
unfoldable pub Clean : (ℕ → ℕ → ℕ) → ℕ → ℕ → List ℕ → Type 0
Clean e t cap cells = (c : ℕ) → c < cap → ((i : ℕ) → i < t → Touches e i c → ⊥) → get_or cells c 0 ≡ 0
