-- Document 01, "Refusal numbers and their order": the numbers of cells and of work that named lengths are made of, for n
-- keys and bucket size b.
use Rattle.std.specs.Prelude.{ℕ, ◌+◌, ◌-◌}
use Rattle.cells.specs.Cells.{cell_count, work_count}
use Rattle.tables.specs.Delimiters.{buckets}

-- t: the handles of n keys, none if n < 2
abbrev pub handle_count : ℕ → ℕ
handle_count n = n - 2

-- C(n) + C(k) call cells
abbrev pub call_cells : ℕ → ℕ → ℕ
call_cells n b = cell_count n + cell_count (buckets n b)

-- C(t) handle cells
abbrev pub handle_cells : ℕ → ℕ
handle_cells n = cell_count (handle_count n)

-- work for map 1, which is enough for maps 2 and 3
abbrev pub call_work : ℕ → ℕ
call_work n = work_count n
