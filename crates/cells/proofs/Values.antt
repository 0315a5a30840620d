-- Where the cells of an item are, and on which cells its value depends. Assumes nothing.
use mathlib.Core.Path.{◌≡◌}
use mathlib.Core.List.{List}
use Prim.Native.Nat.{ℕ, ◌*◌, ◌/◌, ◌%◌, ◌^◌, ◌≤◌, ◌<◌}
use native.Mathlib.Nat.{zero-add, zero-mul, div-one, mod-lt, mul-le-mul_right}
use native.Mathlib.Omega.{arith}
use lib.ListN.{take}
use lib.Seq.{get_or-take}
use Rattle.words.specs.Mix.{item_hash}
use Rattle.cells.specs.Cells.{segment, cell_count, cell_of, value_at, map_value}

-- each of the three cells is one of the map's
pub cell_below : (m j h : ℕ) → 0 < m → j ≤ 2 → cell_of m j h < 3 * m
unfolding cell_of
cell_below m j h some few = omega (arith, mul-le-mul_right m few, mod-lt (h / 2 ^ (21 * j)) some)

-- the first cell is the hash modulo m
pub first_cell : (m h : ℕ) → cell_of m 0 h ≡ h % m
unfolding cell_of
first_cell m h = simp (div-one, zero-mul, zero-add)

-- the map's own cells decide the value of every item
pub value_take : (cells : List ℕ) (t seed x : ℕ)
    → map_value (take (cell_count t) cells) t seed x ≡ map_value cells t seed x
unfolding value_at
value_take cells t seed x =
    let m = segment t in
    let h = item_hash x seed in
    let some : 0 < m = omega arith in
    rw (
      get_or-take (cell_count t) cells (cell_of m 0 h) 0 (cell_below m 0 h some (omega arith)),
      get_or-take (cell_count t) cells (cell_of m 1 h) 0 (cell_below m 1 h some (omega arith)),
      get_or-take (cell_count t) cells (cell_of m 2 h) 0 (cell_below m 2 h some (omega arith)),
    )
