-- Document 01, "Static maps": the cells of a map, those that an item touches, and its value.
use Rattle.std.specs.Prelude.{List, ℕ, ◌+◌, ◌*◌, ◌/◌, ◌%◌, ◌^◌, ◌≤◌, get_or}
use Rattle.std.specs.Int.Bits.{bit_xor}
use Rattle.words.specs.Mix.{item_hash}

-- M: the segment size for t items
abbrev pub segment : ℕ → ℕ
segment t = 42 * t / 100 + 3

-- C(t): the cells of a map of t items
abbrev pub cell_count : ℕ → ℕ
cell_count t = 3 * segment t

-- 2 × C(t) + 2 × t: the numbers of work that building a map of t items takes
abbrev pub work_count : ℕ → ℕ
work_count t = 2 * cell_count t + 2 * t

-- the cell of a hash in segment j of m cells: h mod M, M + (h / 2^21 mod M), 2 M + (h / 2^42 mod M)
unfoldable pub cell_of : ℕ → ℕ → ℕ → ℕ
cell_of m j h = j * m + h / 2 ^ (21 * j) % m

-- a segment size of a map of at most 32,768 items
pub record Segment (m : ℕ) : Type 0 where
  pub some : 3 ≤ m
  pub small : m ≤ 13765

-- the value of a hash: the xor of its three cells
unfoldable pub value_at : ℕ → List ℕ → ℕ → ℕ
value_at m cells h =
    bit_xor (bit_xor (get_or cells (cell_of m 0 h) 0) (get_or cells (cell_of m 1 h) 0)) (get_or cells (cell_of m 2 h) 0)

-- what a map of t items says of an item
abbrev pub map_value : List ℕ → ℕ → ℕ → ℕ → ℕ
map_value cells t seed item = value_at (segment t) cells (item_hash item seed)
