-- Document 01, "Neighbour index": the splits of a rising list T of n keys. Split m, 1 ≤ m < n, is the trie's inner
-- node between the rows m - 1 and m; its string is the first len m bits of key m.
use Rattle.std.specs.Prelude.{cond, List, ◌++◌, ℕ, zero, suc, ◌+◌, ◌-◌, max, eqb, leb, ltb, length, drop}
use Rattle.words.specs.Keys.{first_bits, shared_bits, prefix_item}
use Rattle.words.specs.Fat.{fattest_of}
use Rattle.tables.specs.Tables.{key_at, count, listed}

-- how many leading bits the keys of rows m - 1 and m share
abbrev pub len : List ℕ → ℕ → ℕ
len T m = shared_bits (key_at T (m - 1)) (key_at T m)

-- the rows with the split's string go from left up to, not including, right: before them stand the keys whose first
-- len bits are smaller
unfoldable pub left : List ℕ → ℕ → ℕ
left T m = count (λ k. ltb (first_bits (len T m) k) (first_bits (len T m) (key_at T m))) T

-- and those whose first len bits are smaller or the same stand before right
unfoldable pub right : List ℕ → ℕ → ℕ
right T m = count (λ k. leb (first_bits (len T m) k) (first_bits (len T m) (key_at T m))) T

-- of r, 0 for none, and a later split m the one with the smaller len
abbrev pub smaller_of : List ℕ → ℕ → ℕ → ℕ
smaller_of T r m = cond (eqb r 0) m (cond (ltb (len T m) (len T r)) m r)

-- of the splits 1 to m the one with the smallest len; 0 if there is none
unfoldable pub root_to : List ℕ → ℕ → ℕ
root_to T zero = zero
root_to T (suc m) = smaller_of T (root_to T m) (suc m)

-- the root: the split with the smallest len; 0 if there are fewer than two keys
abbrev pub root : List ℕ → ℕ
root T = root_to T (length T - 1)

-- the parent's length q: the larger of len (left m) where left m > 0, and len (right m) where right m < n
unfoldable pub parent_len : List ℕ → ℕ → ℕ
parent_len T m =
    max (cond (ltb 0 (left T m)) (len T (left T m)) 0) (cond (ltb (right T m) (length T)) (len T (right T m)) 0)

-- the length of the handle of a split other than the root: the 2-fattest f with q < f ≤ len m
unfoldable pub handle_len : List ℕ → ℕ → ℕ
handle_len T m = fattest_of (parent_len T m) (len T m)

-- the handle, as an item: the first f bits of key m
unfoldable pub handle_item : List ℕ → ℕ → ℕ
handle_item T m = prefix_item (key_at T m) (handle_len T m)

-- the split that item i of map 3 stands for: the n - 2 items are the handles of the splits other than r, the root, in
-- order
abbrev pub split_beside : ℕ → ℕ → ℕ
split_beside r i = cond (ltb (i + 1) r) (i + 1) (i + 2)

unfoldable pub handle_split : List ℕ → ℕ → ℕ
handle_split T i = split_beside (root T) i

-- entry m of the store `left`: left m, and the root at entry 0
unfoldable pub left_entry : List ℕ → ℕ → ℕ
left_entry T m = cond (eqb m 0) (root T) (left T m)

-- entry m of the store `right`: right m, and 0 at entry 0
unfoldable pub right_entry : List ℕ → ℕ → ℕ
right_entry T m = cond (eqb m 0) 0 (right T m)

-- what a build leaves in the store `left`: n entries, and beyond them what was there
abbrev pub left_store : List ℕ → List ℕ → List ℕ
left_store T old = listed (length T) (left_entry T) ++ drop (length T) old

-- and in the store `right`
abbrev pub right_store : List ℕ → List ℕ → List ℕ
right_store T old = listed (length T) (right_entry T) ++ drop (length T) old

-- request Six, entry m of the store of lengths: len m, and 0 at entry 0
unfoldable pub length_entry : List ℕ → ℕ → ℕ
length_entry T m = cond (eqb m 0) 0 (len T m)

-- what a build leaves in the store of lengths
abbrev pub length_store : List ℕ → List ℕ → List ℕ
length_store T old = listed (length T) (length_entry T) ++ drop (length T) old
