-- Document 01, "Refusal numbers and their order", and requests Six and Eight: refusal 4, and the named lengths of the
-- stores that each entry of the full index is lent, for n keys and bucket size b. (Those of the slim profile stand in
-- slimstores.) A request that adds a store adds a field and a line here.
use Rattle.std.specs.Prelude.{cond, Option, Some, None, Result, Ok, Err, ℕ, ◌≤◌, ltb}
use Rattle.refusals.specs.Numbers.{store_number, number, names}
use Rattle.refusals.specs.declared.Store.{Store}
use Rattle.refusals.specs.declared.Refusal.{Refusal}
use Rattle.tables.specs.Lengths.{call_cells, handle_cells, call_work}
use Rattle.stores.specs.Limits.{limited}
use Rattle.stores.specs.declared.Sizes.{Sizes}

-- the first store that is shorter than it has to be, 0 if none is: 1 call or offset cells, 2 handle cells, 3 left, 4
-- right, 5 work, 6 lengths, 7 row bytes
unfoldable pub short_store : (have want : Sizes) → ℕ
short_store have want =
    cond (ltb have.cells want.cells) 1
    (cond (ltb have.handles want.handles) 2
    (cond (ltb have.left want.left) 3
    (cond (ltb have.right want.right) 4
    (cond (ltb have.work want.work) 5
    (cond (ltb have.lengths want.lengths) 6
    (cond (ltb have.bytes want.bytes) 7 0))))))

-- the number of the store that is named, 0 if none is
abbrev pub number_named : Option Store → ℕ
number_named None = 0
number_named (Some store) = store_number store

-- no store is shorter than it has to be
pub record Fits (have want : Sizes) : Type 0 where
  pub cells : want.cells ≤ have.cells
  pub handles : want.handles ≤ have.handles
  pub left : want.left ≤ have.left
  pub right : want.right ≤ have.right
  pub work : want.work ≤ have.work
  pub lengths : want.lengths ≤ have.lengths
  pub bytes : want.bytes ≤ have.bytes

-- the stores of n keys in buckets of b rows, beside so many row bytes: C(n) + C(k) call cells, C(t) handle cells, n for
-- left, right and the lengths, and work for map 1, 2 × C(n) + 2 × n
abbrev pub store_sizes : (n b bytes : ℕ) → Sizes
store_sizes n b bytes = record {
  cells = call_cells n b;
  handles = handle_cells n;
  left = n;
  right = n;
  work = call_work n;
  lengths = n;
  bytes = bytes;
}

-- the full build is lent no row bytes
abbrev pub full_sizes : ℕ → ℕ → Sizes
full_sizes n b = store_sizes n b 0

-- what a caller lends in all: a byte for each row too (request Eight), which the call ask reads
abbrev pub lend_sizes : ℕ → ℕ → Sizes
lend_sizes n b = store_sizes n b n

-- the call ask reads the call cells and the row bytes, and the neighbour ask the handle cells, left, right and the
-- lengths
abbrev pub call_sizes : ℕ → ℕ → Sizes
call_sizes n b = record { cells = call_cells n b; handles = 0; left = 0; right = 0; work = 0; lengths = 0; bytes = n }

abbrev pub neighbour_sizes : ℕ → Sizes
neighbour_sizes n = record { cells = 0; handles = handle_cells n; left = n; right = n; work = 0; lengths = n; bytes = 0 }

-- what a caller is told: the named lengths, or a refusal's number and what it names
pub data LendSaid : Type 0 where
  sizes : Sizes → LendSaid
  refused : ℕ → ℕ → LendSaid

abbrev pub said_by_lend : Result Sizes Refusal → LendSaid
said_by_lend (Ok s) = sizes s
said_by_lend (Err r) = refused (number r) (names r)

-- refusals 1 and 2, then the lengths
unfoldable pub named_lengths : ℕ → ℕ → LendSaid
named_lengths n b = limited refused n b (sizes (lend_sizes n b))
