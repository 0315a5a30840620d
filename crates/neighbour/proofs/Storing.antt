-- What the build of map 3 over the bounds of the splits leaves, beside their lengths. Assumes nothing.
use mathlib.Core.Path.{◌≡◌, ap, ◌∙◌}
use mathlib.Core.List.{List, ◌++◌}
use Prim.Native.Nat.{ℕ, ◌≤◌}
use native.Mathlib.Omega.{arith}
use lib.ListN.{length, drop}
use lib.Seq.{drop_at}
use Rattle.std.specs.Prelude.{Result, Ok}
use Rattle.cells.specs.Cells.{work_count}
use Rattle.cells.specs.Memory.{cleared}
use Rattle.cells.proofs.Sweeping.{cleared_within}
use Rattle.tables.specs.Tables.{Table, listed}
use Rattle.tables.specs.Lengths.{handle_count, handle_cells, call_work}
use Rattle.tables.specs.Delimiters.{delimiters, Bucketed}
use Rattle.tables.proofs.Lists.{length_listed}
use Rattle.stores.specs.Stores.{Stores}
use Rattle.splits.specs.Splits.{left_entry, right_entry, length_entry, left_store, right_store}
use Rattle.items.specs.Items.{handle_items, Bounds}
use Rattle.items.proofs.Handling.{length_handles, stores_bounds}
use Rattle.maps.specs.Built.{Room}
use Rattle.maps.proofs.Determined.{cells_beyond}
use Rattle.maps.proofs.Rooms.{fewer_work}
use Rattle.neighbour.specs.Build.{NeighbourFilled}
use Rattle.neighbour.specs.Inner.{Storable, StoresBuilt}

-- a store with its first n entries written
written_beyond : (n : ℕ) (entry : ℕ → ℕ) (old : List ℕ) → drop n (listed n entry ++ drop n old) ≡ drop n old
written_beyond n entry old = drop_at (listed n entry) (drop n old) n (length_listed n entry)

-- the bounds that are written lead map 3, and the cells and the work are long enough for it
module _ {b : ℕ} {keys handles left right work lengths : List ℕ}
    (S : Storable b keys handles left right work lengths) where
  pub handles_source : {left' right' : List ℕ} → left' ≡ left_store (delimiters b keys) left
      → right' ≡ right_store (delimiters b keys) right → Bounds b keys left' right'
  handles_source l r = rw (l, r) (stores_bounds b keys left right S.table S.bucketed S.left_long S.right_long)

  pub handles_room : Room (handle_items (delimiters b keys)) handles work
  handles_room =
      let D = delimiters b keys in
      record { for_cells = rw (length_handles D) S.handles_long; for_work = rw (length_handles D) S.work_long }

-- k delimiters, and room for so many; the work for a map of all keys is enough
pub storable : {b : ℕ} {keys handles left right work lengths : List ℕ} {k : ℕ} → length (delimiters b keys) ≡ k
    → Table keys → Bucketed b keys → k ≤ length keys → handle_cells k ≤ length handles → k ≤ length left
    → k ≤ length right → call_work (length keys) ≤ length work → k ≤ length lengths
    → Storable b keys handles left right work lengths
storable {keys = keys} {k = k} is t counted fewer hl ll rl wl nl = record {
  table = t;
  bucketed = counted;
  handles_long = rw is hl;
  left_long = rw is ll;
  right_long = rw is rl;
  work_long = rw is (omega (arith, fewer_work (handle_count k) (length keys) (omega arith), wl));
  lengths_long = rw is nl;
}

-- what the build of the stores leaves
module _ {T : List ℕ} {seed : ℕ} {handles left right work lengths : List ℕ} {answer : Result (Unit {0}) ℕ}
    {handles' left' right' work' lengths' : List ℕ}
    (B : StoresBuilt T seed handles left right work lengths answer handles' left' right' work' lengths') where
  -- the work is that of a map before it, which was longer
  pub swept_after : (n : ℕ) (old : List ℕ) → length T ≤ n → work ≡ cleared (call_work n) old
      → work' ≡ cleared (call_work n) old
  swept_after n old fewer e =
      let w = work_count (length (handle_items T)) in
      let less : w ≤ call_work n = rw (length_handles T) (fewer_work (handle_count (length T)) n (omega arith)) in
      B.map₃.swept ∙ ap (cleared w) e ∙ cleared_within w (call_work n) old less

  -- whatever it answers, past the named lengths of k keys the stores are as they were
  module _ {k : ℕ} (is : length T ≡ k) where
    pub handles_beyond : drop (handle_cells k) handles' ≡ drop (handle_cells k) handles
    handles_beyond = rw (← is) (rw (length_handles T) at (cells_beyond seed (handle_items T) B.map₃))

    pub left_beyond : drop k left' ≡ drop k left
    left_beyond = rw (← is) (ap (drop (length T)) B.lefts ∙ written_beyond (length T) (left_entry T) left)

    pub right_beyond : drop k right' ≡ drop k right
    right_beyond = rw (← is) (ap (drop (length T)) B.rights ∙ written_beyond (length T) (right_entry T) right)

    pub lengths_beyond : drop k lengths' ≡ drop k lengths
    lengths_beyond = rw (← is) (ap (drop (length T)) B.lens ∙ written_beyond (length T) (length_entry T) lengths)

-- where there is no jam the neighbour index is there
pub stores_filled : {T : List ℕ} {seed : ℕ} {S : Stores} (S' : Stores) {work work' : List ℕ}
    → StoresBuilt T seed S.handles S.left S.right work S.lengths (Ok tt) S'.handles S'.left S'.right
    work' S'.lengths
    → NeighbourFilled T seed S S'
stores_filled S' B = record { handles = B.map₃.accepted.1; left = B.lefts; right = B.rights; lengths = B.lens }
