-- Request One, with Six and Eight: the named lengths of the stores of the slim profile, for n keys in buckets of b
-- rows, k of them.
use Rattle.std.specs.Prelude.{ℕ}
use Rattle.cells.specs.Cells.{cell_count}
use Rattle.tables.specs.Delimiters.{buckets}
use Rattle.tables.specs.Lengths.{handle_cells, call_work}
use Rattle.stores.specs.Limits.{limited}
use Rattle.stores.specs.Sizes.{LendSaid, sizes, refused}
use Rattle.stores.specs.declared.Sizes.{Sizes}

-- C(n) offset cells (store 1), C(k - 2) handle cells (C(0) if k < 2), k for left, right and the lengths, beside so much
-- work and so many row bytes
abbrev pub slim_sizes : (n b work bytes : ℕ) → Sizes
slim_sizes n b work bytes =
    let k = buckets n b in
    record {
      cells = cell_count n;
      handles = handle_cells k;
      left = k;
      right = k;
      work = work;
      lengths = k;
      bytes = bytes;
    }

-- the build takes work for the map on all keys, 2 × C(n) + 2 × n, and is lent no row bytes
abbrev pub slim_build_sizes : ℕ → ℕ → Sizes
slim_build_sizes n b = slim_sizes n b (call_work n) 0

-- the ask takes no work, and reads a byte for each row of the whole table
abbrev pub slim_ask_sizes : ℕ → ℕ → Sizes
slim_ask_sizes n b = slim_sizes n b 0 n

-- what a caller lends in all
abbrev pub slim_lend_sizes : ℕ → ℕ → Sizes
slim_lend_sizes n b = slim_sizes n b (call_work n) n

-- what a caller is told: refusal 1, then 2, then the lengths
unfoldable pub slim_lengths : ℕ → ℕ → LendSaid
slim_lengths n b = limited refused n b (sizes (slim_lend_sizes n b))
