-- What stands at each number of maps 1 and 2 and of the offsets, and that the value of a key and the prefix of its
-- bucket lead back to its row. Assumes nothing.
use mathlib.Core.Path.{◌≡◌}
use mathlib.Core.List.{List}
use Prim.Native.Nat.{ℕ, ◌+◌, ◌*◌, ◌/◌, ◌%◌, ◌≤◌, ◌<◌}
use native.Mathlib.Nat.{mod-lt, div-mul-le_self, div-add-mod', lt-div-mul-add}
use native.Mathlib.Omega.{arith}
use lib.ListN.{length, get_or}
use Rattle.words.specs.Keys.{prefix_item}
use Rattle.tables.specs.Tables.{key_at}
use Rattle.tables.specs.Delimiters.{buckets, bucket_end, Bucketed}
use Rattle.tables.specs.Buckets.{bucket_length, bucket_prefix}
use Rattle.tables.proofs.Lists.{length_listed, listed_at}
use Rattle.tables.proofs.Delimiting.{bucket_there, next_row}
use Rattle.tables.proofs.Bucketing.{length_small, prefix_same}
use Rattle.items.specs.Items.{key_values, prefix_items, bucket_numbers, offset_values, Sorted}

-- a row is its bucket's first row and its offset
pub row_is : (b r : ℕ) → r / b * b + r % b ≡ r
row_is b r = div-add-mod' r b

-- which fits a byte
pub offset_small : (b r : ℕ) → 1 ≤ b → b ≤ 256 → r % b < 256
offset_small b r some most = omega (arith, mod-lt r {m = b} some)

-- buckets of two rows or more can be counted
pub sorted_bucketed : {b : ℕ} {T : List ℕ} → Sorted b T → Bucketed b T
sorted_bucketed s = record { some = omega arith; most = s.most; rows = s.few }

module _ (b : ℕ) (T : List ℕ) where
  pub length_prefixes : length (prefix_items b T) ≡ buckets (length T) b
  unfolding prefix_items
  length_prefixes = length_listed (buckets (length T) b) _

  pub prefix_is : (i : ℕ) → i < buckets (length T) b → get_or (prefix_items b T) i 0 ≡ bucket_prefix b T i
  unfolding prefix_items
  prefix_is i h = listed_at (buckets (length T) b) _ i h

  pub length_numbers : length (bucket_numbers b T) ≡ buckets (length T) b
  unfolding bucket_numbers
  length_numbers = length_listed (buckets (length T) b) _

  pub number_is : (i : ℕ) → i < buckets (length T) b → get_or (bucket_numbers b T) i 0 ≡ i
  unfolding bucket_numbers
  number_is i h = listed_at (buckets (length T) b) _ i h

  pub length_key_values : length (key_values b T) ≡ length T
  unfolding key_values
  length_key_values = length_listed (length T) _

  pub key_value_is : (r : ℕ) → r < length T → get_or (key_values b T) r 0 ≡ 256 * bucket_length b T (r / b) + r % b
  unfolding key_values
  key_value_is r h = listed_at (length T) _ r h

  pub length_offsets : length (offset_values b T) ≡ length T
  unfolding offset_values
  length_offsets = length_listed (length T) _

  pub offset_is : (r : ℕ) → r < length T → get_or (offset_values b T) r 0 ≡ r % b
  unfolding offset_values
  offset_is r h = listed_at (length T) _ r h

  module _ (s : Sorted b T) (r : ℕ) (h : r < length T) where
    -- the row's bucket is there, and the row lies in it
    pub row_bucket : r / b < buckets (length T) b
    row_bucket = bucket_there (length T) b (r / b) (omega arith) (omega (arith, div-mul-le_self r b))

    row_low : r / b * b ≤ r
    row_low = div-mul-le_self r b

    row_high : r < bucket_end (length T) b (r / b)
    row_high = let some : 1 ≤ b = omega arith in omega (arith, next_row (r / b) b, lt-div-mul-add {a = r} some)

    pub row_offset : r % b < 256
    row_offset = offset_small b r (omega arith) s.most

    pub bits_small : bucket_length b T (r / b) ≤ 63
    bits_small = length_small T s.table b (r / b) (omega arith) row_bucket

    -- the value of a key tells its bucket's length and its offset
    pub value_length : get_or (key_values b T) r 0 / 256 ≡ bucket_length b T (r / b)
    value_length = rw (key_value_is r h) (omega (arith, row_offset))

    pub value_offset : get_or (key_values b T) r 0 % 256 ≡ r % b
    value_offset = rw (key_value_is r h) (omega (arith, row_offset))

    -- it fits 16 bits
    pub key_value_small : 256 * bucket_length b T (r / b) + r % b < 65536
    key_value_small = omega (arith, row_offset, bits_small)

    -- the first bits of a key, as many as its bucket's length, are its bucket's item in map 2
    pub row_prefix : prefix_item (key_at T r) (bucket_length b T (r / b)) ≡ get_or (prefix_items b T) (r / b) 0
    row_prefix =
        rw (prefix_is (r / b) row_bucket)
        (prefix_same T s.table b (r / b) (omega arith) row_bucket r row_low row_high)
