-- Document 01, "Call index" and "Neighbour index", and request One: the items of maps 1, 2 and 3, and of map 1 of the
-- slim profile, and their values, in number order.
use Rattle.std.specs.Prelude.{◌≡◌, List, ℕ, ◌+◌, ◌-◌, ◌*◌, ◌/◌, ◌%◌, ◌≤◌, ◌<◌, length, get_or}
use Rattle.tables.specs.Tables.{Table, most_keys, listed}
use Rattle.tables.specs.Delimiters.{buckets, delimiters, Bucketed}
use Rattle.tables.specs.Buckets.{bucket_length, bucket_prefix}
use Rattle.splits.specs.Splits.{handle_item, handle_split, left_entry, right_entry}
use Rattle.items.specs.declared.Items.{Items}
use Rattle.items.specs.declared.Items.TheVariants.{Keys, Prefixes, Handles, Offsets}

-- map 1, on the n keys: 256 × the length of the row's bucket + the row minus the bucket's first row
unfoldable pub key_values : ℕ → List ℕ → List ℕ
key_values b T = listed (length T) (λ r. 256 * bucket_length b T (r / b) + r % b)

-- map 2, on the k bucket prefixes
unfoldable pub prefix_items : ℕ → List ℕ → List ℕ
prefix_items b T = listed (buckets (length T) b) (bucket_prefix b T)

-- its values are the bucket numbers
unfoldable pub bucket_numbers : ℕ → List ℕ → List ℕ
bucket_numbers b T = listed (buckets (length T) b) (λ i. i)

-- map 3, on the n - 2 handles of the splits of a rising list D of n keys
unfoldable pub handle_items : List ℕ → List ℕ
handle_items D = listed (length D - 2) (λ i. handle_item D (handle_split D i))

-- its values are the splits
unfoldable pub handle_splits : List ℕ → List ℕ
handle_splits D = listed (length D - 2) (handle_split D)

-- map 1 of the slim profile, on the n keys too: the whole value is the offset, the row minus its bucket's first row
unfoldable pub offset_values : ℕ → List ℕ → List ℕ
offset_values b T = listed (length T) (λ r. r % b)

-- the items of a map over buckets of b rows; map 3 is that of their last keys, of the whole table with b = 1
unfoldable pub items_of : Items → ℕ → List ℕ → List ℕ
items_of Keys b T = T
items_of Prefixes b T = prefix_items b T
items_of Handles b T = handle_items (delimiters b T)
items_of Offsets b T = T

-- and their values
unfoldable pub values_of : Items → ℕ → List ℕ → List ℕ
values_of Keys b T = key_values b T
values_of Prefixes b T = bucket_numbers b T
values_of Handles b T = handle_splits (delimiters b T)
values_of Offsets b T = offset_values b T

-- what maps 1 and 2, and the offsets, are built from: a table, and a bucket size within its limits
pub record Sorted (b : ℕ) (T : List ℕ) : Type 0 where
  pub table : Table T
  pub two : 2 ≤ b
  pub most : b ≤ 256
  pub few : length T ≤ most_keys

-- what map 3 is built from: a table whose last keys of buckets have their bounds in the stores
pub record Bounds (b : ℕ) (T left right : List ℕ) : Type 0 where
  pub table : Table T
  pub bucketed : Bucketed b T
  pub left_room : length (delimiters b T) ≤ length left
  pub right_room : length (delimiters b T) ≤ length right
  pub left_is : (m : ℕ) → m < length (delimiters b T) → get_or left m 0 ≡ left_entry (delimiters b T) m
  pub right_is : (m : ℕ) → m < length (delimiters b T) → get_or right m 0 ≡ right_entry (delimiters b T) m

-- what a map is built from
abbrev pub Source : Items → ℕ → List ℕ → List ℕ → List ℕ → Type 0
Source Keys b T left right = Sorted b T
Source Prefixes b T left right = Sorted b T
Source Handles b T left right = Bounds b T left right
Source Offsets b T left right = Sorted b T

-- it is there where the items of the map are asked for
pub record Known (w : Items) (b : ℕ) (T left right : List ℕ) : Type 0 where
  pub source : Source w b T left right
