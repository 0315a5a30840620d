-- What stands at each number of map 3, and that the stores, where they hold the bounds, lead to the split of each
-- item. Assumes nothing.
use mathlib.Core.Path.{◌≡◌}
use mathlib.Core.List.{List}
use Prim.Native.Nat.{ℕ, ◌+◌, ◌-◌, ◌≤◌, ◌<◌}
use native.Mathlib.Omega.{arith}
use lib.ListN.{length, get_or}
use Rattle.tables.specs.Tables.{Table}
use Rattle.tables.specs.Delimiters.{delimiters, Bucketed}
use Rattle.tables.proofs.Lists.{length_listed, listed_at}
use Rattle.tables.proofs.Delimiting.{length_delimiters, buckets_le, delimiters_table}
use Rattle.splits.specs.Splits.{root, split_beside, handle_item, handle_split, left_entry, right_entry, left_store}
use Rattle.splits.specs.Splits.{right_store}
use Rattle.splits.specs.Inner.{SplitOf, Rising, Bounded}
use Rattle.splits.proofs.Parents.{left_root}
use Rattle.splits.proofs.Handles.{split_ok}
use Rattle.splits.proofs.Stores.{entered_length, entered_at}
use Rattle.items.specs.Items.{handle_items, handle_splits, Bounds}

module _ (D : List ℕ) where
  pub length_handles : length (handle_items D) ≡ length D - 2
  unfolding handle_items
  length_handles = length_listed (length D - 2) _

  pub handle_is : (i : ℕ) → i + 2 < length D → get_or (handle_items D) i 0 ≡ handle_item D (handle_split D i)
  unfolding handle_items
  handle_is i h = listed_at (length D - 2) _ i (omega arith)

  pub length_splits : length (handle_splits D) ≡ length D - 2
  unfolding handle_splits
  length_splits = length_listed (length D - 2) _

  pub split_is : (i : ℕ) → i + 2 < length D → get_or (handle_splits D) i 0 ≡ handle_split D i
  unfolding handle_splits
  split_is i h = listed_at (length D - 2) _ i (omega arith)

module _ (b : ℕ) (T left right : List ℕ) (k : Bounds b T left right) where
  -- there are no more of them than a table has keys
  pub delimiters_few : length (delimiters b T) ≤ 32768
  delimiters_few = omega (arith, length_delimiters b T, buckets_le (length T) b k.bucketed.some, k.bucketed.rows)

  module _ (i : ℕ) (h : i + 2 < length (delimiters b T)) where
    -- the split of item i, by the root that entry 0 of `left` holds
    pub split_beside_told : split_beside (get_or left 0 0) i ≡ handle_split (delimiters b T) i
    unfolding handle_split
    split_beside_told = rw (k.left_is 0 (omega arith), left_root (delimiters b T))

    -- the stores hold its bounds, and it is not the root
    pub split_bounded : Bounded (delimiters b T) left right (handle_split (delimiters b T) i) × (handle_split (delimiters b T) i ≡ root (delimiters b T) → ⊥)
    split_bounded =
        let m = handle_split (delimiters b T) i in
        let ok = split_ok (delimiters b T) i h in
        let split : SplitOf (delimiters b T) m = record { pos = ok.0; small = ok.1 } in
        let rising : Rising (delimiters b T) m =
        record { table = delimiters_table b T k.bucketed.some k.table; split = split } in
        let left_is = k.left_is m ok.1 in
        let right_is = k.right_is m ok.1 in
        (record { rising = rising; left_room = omega arith; right_room = omega arith; left_is = left_is; right_is = right_is }, ok.2)

    -- it fits 16 bits
    pub split_small : handle_split (delimiters b T) i < 32768
    split_small = omega (arith, delimiters_few, split_ok (delimiters b T) i h)

-- the stores that a build of bounds leaves are such
pub stores_bounds : (b : ℕ) (T lefts rights : List ℕ) → Table T → Bucketed b T
    → length (delimiters b T) ≤ length lefts
    → length (delimiters b T) ≤ length rights
    → Bounds b T (left_store (delimiters b T) lefts) (right_store (delimiters b T) rights)
stores_bounds b T lefts rights t bucketed left_room right_room =
    let D = delimiters b T in
    record {
      table = t;
      bucketed = bucketed;
      left_room = rw (entered_length (length D) (left_entry D) lefts left_room) left_room;
      right_room = rw (entered_length (length D) (right_entry D) rights right_room) right_room;
      left_is = entered_at (length D) (left_entry D) lefts;
      right_is = entered_at (length D) (right_entry D) rights;
    }
