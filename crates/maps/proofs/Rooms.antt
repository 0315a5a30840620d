-- Room for a map: one of fewer items has no more cells and takes no more work. Assumes nothing.
use Prim.Native.Nat.{ℕ, ◌≤◌}
use native.Mathlib.Omega.{arith}
use Rattle.cells.specs.Cells.{cell_count, work_count}

fewer_cells : (k n : ℕ) → k ≤ n → cell_count k ≤ cell_count n
fewer_cells k n h = omega arith

pub fewer_work : (k n : ℕ) → k ≤ n → work_count k ≤ work_count n
fewer_work k n h = omega (arith, fewer_cells k n h)
