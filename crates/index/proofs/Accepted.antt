-- What an accepted build says of its inputs, and leaves. Assumes nothing.
use mathlib.Core.Path.{◌≡◌, sym, ap, ◌∙◌}
use mathlib.Core.List.{List}
use Prim.Native.Nat.{ℕ, ◌+◌, ◌<◌, zero-le}
use native.Mathlib.Omega.{arith}
use lib.ListN.{length, get_or, drop, length-drop}
use Rattle.refusals.specs.Numbers.{taken}
use Rattle.cells.specs.Cells.{cell_count, map_value}
use Rattle.tables.specs.Tables.{Table}
use Rattle.tables.specs.Lengths.{handle_count}
use Rattle.tables.proofs.Rising.{no_fall_table}
use Rattle.stores.specs.Sizes.{Fits, full_sizes, neighbour_sizes}
use Rattle.stores.specs.Stores.{Stores, Seeds, sizes_of}
use Rattle.stores.specs.Judged.{judged}
use Rattle.stores.specs.declared.Sizes.{Sizes}
use Rattle.stores.proofs.Judging.{Passed, judged_passed}
use Rattle.splits.specs.Splits.{left_entry, right_entry, length_entry, handle_item, handle_split}
use Rattle.splits.proofs.Stores.{entered_length}
use Rattle.items.specs.Items.{Sorted, handle_items}
use Rattle.items.proofs.Handling.{length_handles, handle_is, split_is}
use Rattle.callask.specs.Inner.{Askable}
use Rattle.walks.specs.Walk.{Stored}
use Rattle.neighbour.specs.Build.{NeighbourFilled}
use Rattle.neighbour.proofs.Asking.{has, stored_by}
use Rattle.verdicts.specs.Ended.{Ended}
use Rattle.verdicts.proofs.Ending.{when_taken}
use Rattle.full.specs.Build.{NoJams, FullFilled, FullBuilt}
use Rattle.index.specs.Answers.{Words}

-- an accepted build of whichever maps: the tests passed, none of them has a jam, and the stores are filled
pub record Accepted (keys : List ℕ) (b : ℕ) (want : Sizes) (NoJam : Type 0) (Fill : Stores → Type 0)
    (S S' : Stores) : Type 0 where
  pub passed : Passed keys b (sizes_of S) want
  pub jamless : NoJam
  pub filled : Fill S'

pub build_accepted : {keys : List ℕ} {b : ℕ} {want : Sizes} {Jams : (map size : ℕ) → Type 0} {NoJam : Type 0}
    {Fill : Stores → Type 0} {S S' : Stores} → Ended (judged keys b (sizes_of S) want) want Jams NoJam Fill S taken S'
    → Accepted keys b want NoJam Fill S S'
build_accepted B =
    let A = when_taken B in record { passed = judged_passed _ _ _ _ A.0; jamless = A.1; filled = A.2 }

module _ {keys : List ℕ} {b : ℕ} {want : Sizes} {NoJam : Type 0} {Fill : Stores → Type 0} {S S' : Stores}
    (A : Accepted keys b want NoJam Fill S S') where
  pub accepted_table : Words keys → Table keys
  accepted_table w = no_fall_table keys w A.passed.rises

  pub accepted_sorted : Words keys → Sorted b keys
  accepted_sorted w =
      let P = A.passed in
      record { table = accepted_table w; two = P.two; most = P.most; few = P.few }

-- stores that have room for the walk over T, and are what it needs
abbrev pub RoomFor : List ℕ → Stores → Type 0
RoomFor T S = Fits (has S.handles S.left S.right S.lengths) (neighbour_sizes (length T))

abbrev pub StoredIn : List ℕ → ℕ → Stores → Type 0
StoredIn T seed S = Stored T (map_value S.handles (handle_count (length T)) seed) S.left S.right S.lengths

-- so are those of a neighbour index that is filled, over any list T
module _ {T : List ℕ} {seed : ℕ} {S S' : Stores} (N : NeighbourFilled T seed S S') where
  pub filled_room : RoomFor T S → RoomFor T S'
  filled_room R =
      let n = length T in
      record {
        cells = zero-le;
        handles = omega (arith, R.handles, N.handles.long);
        left = rw (N.left, entered_length n (left_entry T) S.left R.left) R.left;
        right = rw (N.right, entered_length n (right_entry T) S.right R.right) R.right;
        work = zero-le;
        lengths = rw (N.lengths, entered_length n (length_entry T) S.lengths R.lengths) R.lengths;
        bytes = zero-le;
      }

  -- map 3 gives each of its items the split that it stands for
  map_stored : (i : ℕ) → i + 2 < length T
      → map_value S'.handles (handle_count (length T)) seed (handle_item T (handle_split T i)) ≡ handle_split T i
  map_stored i h =
      let there : i < length (handle_items T) = omega (arith, length_handles T) in
      ap (λ (x : ℕ). map_value S'.handles (handle_count (length T)) seed x) (sym (handle_is T i h))
      ∙ ap (λ (t : ℕ). map_value S'.handles t seed (get_or (handle_items T) i 0)) (sym (length_handles T))
      ∙ N.handles.valued i there ∙ split_is T i h

  pub filled_stored : StoredIn T seed S'
  filled_stored =
      rw (N.left, N.right, N.lengths)
      (stored_by T (map_value S'.handles (handle_count (length T)) seed) S.left S.right S.lengths map_stored)

-- the full build
abbrev pub FullAccepted : (keys : List ℕ) (b : ℕ) (s : Seeds) (S S' : Stores) → Type 0
FullAccepted keys b s S S' = Accepted keys b (full_sizes (length keys) b) (NoJams keys b s) (FullFilled keys b s S) S S'

pub full_accepted : {keys : List ℕ} {b : ℕ} {s : Seeds} {S S' : Stores} → FullBuilt keys b s S taken S'
    → FullAccepted keys b s S S'
full_accepted B = build_accepted B

module _ {keys : List ℕ} {b : ℕ} {s : Seeds} {S S' : Stores} (A : FullAccepted keys b s S S') where
  -- the stores are as long as they were, so they can be asked
  pub accepted_askable : Askable keys b S'.cells
  accepted_askable =
      let P = A.passed in
      let c = cell_count (length keys) in
      let part : length (drop c S'.cells) ≡ length (drop c S.cells) = A.filled.call.map₂.long in
      record {
        few = P.few;
        two = P.two;
        most = P.most;
        cells_long = omega (arith, P.fits.cells, length-drop c S.cells, length-drop c S'.cells);
      }

  pub accepted_fits : RoomFor keys S'
  accepted_fits =
      let F = A.passed.fits in
      filled_room A.filled.neighbour (record {
        cells = zero-le;
        handles = F.handles;
        left = F.left;
        right = F.right;
        work = zero-le;
        lengths = F.lengths;
        bytes = zero-le;
      })

  pub accepted_stored : StoredIn keys s.three S'
  accepted_stored = filled_stored A.filled.neighbour
