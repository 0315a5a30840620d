-- S4: the ends of a split's rows by jumping over the rows of longer splits. Assumes nothing.
use mathlib.Core.Path.{◌≡◌, sym, ◌∙◌}
use mathlib.Core.Bool.{Bool, true, false}
use mathlib.Core.List.{List}
use Prim.Native.Nat.{ℕ, ◌-◌, ◌≤◌, ◌<◌}
use native.Mathlib.Nat.{le_refl, le_of_lt}
use native.Mathlib.Omega.{arith}
use borrow.Author.Tests.{ltb-true, leb-true, leb-false, lt-ltb, le-leb}
use lib.Dec.{leb, ltb}
use lib.ListN.{length}
use Rattle.tables.specs.Tables.{key_at, Table}
use Rattle.splits.specs.Splits.{len, left, right, left_entry, right_entry}
use Rattle.splits.specs.Inner.{Rising, goes_on}
use Rattle.basics.proofs.Bools.{both}
use Rattle.splits.proofs.Rows.{share_down, len_lt, len_iff, rows_own, left_lt, right_gt}
use Rattle.splits.proofs.Rows.{right_le, rows_are}
use Rattle.splits.proofs.Parents.{left_split, right_split}

-- row j is a split with a string of l bits or more, or it is none
pub goes_true : (T : List ℕ) (j l : ℕ) → goes_on T j l ≡ true → (0 < j) × (j < length T) × (l ≤ len T j)
goes_true T j l e =
    let p = both (leb 1 j) _ e in
    let q = both (ltb j (length T)) (leb l (len T j)) p.1 in
    (leb-true 1 j p.0, ltb-true j (length T) q.0, leb-true l (len T j) q.1)

pub goes_false : (T : List ℕ) (j l : ℕ) → goes_on T j l ≡ false → 0 < j → j < length T → len T j < l
goes_false T j l e h g = leb-false l (len T j) (rw (le-leb 1 j h, lt-ltb j (length T) g) at e)

pub goes_last : (T : List ℕ) (j l : ℕ) → 0 < j → j < length T → leb l (len T j) ≡ goes_on T j l
goes_last T j l h g = rw (le-leb 1 j h, lt-ltb j (length T) g)

module _ (T : List ℕ) (t : Table T) (m : ℕ) (pos : 0 < m) (small : m < length T) where
  -- of two splits that share row i, all rows of the one with as long a string, or a longer, are rows of the other
  within : (j i : ℕ) → 0 < j → j < length T → len T m ≤ len T j → left T j ≤ i → i < right T j
      → left T m ≤ i → i < right T m
      → (k : ℕ) → left T j ≤ k → k < right T j → (left T m ≤ k) × (k < right T m)
  within j i h s l low high low' high' k a b =
      let one = rows_own T t j h s k a b in
      let two = rows_own T t j h s i low high in
      let same =
      share_down (len T m) (len T j) (key_at T k) (key_at T i) l (le_of_lt (len_lt T t j h s)) (one ∙ sym two) in
      (rows_are T t m pos small k (omega (arith, right_le T t j h s))).1
      (same ∙ rows_own T t m pos small i low' high')

  -- so its ends lie within
  nested : (j i : ℕ) → 0 < j → j < length T → len T m ≤ len T j → left T j ≤ i → i < right T j
      → left T m ≤ i → i < right T m
      → (left T m ≤ left T j) × (right T j ≤ right T m)
  nested j i h s l low high low' high' =
      let all = within j i h s l low high low' high' in
      omega (arith, all (left T j) (le_refl (left T j)) (omega arith), all (right T j - 1) (omega arith) (omega arith))

  -- a row within m's rows, other than the first, is a split with as long a string
  goes_within : (j : ℕ) → left T m < j → j < right T m → goes_on T j (len T m) ≡ false → ⊥
  goes_within j h g e =
      let le = right_le T t m pos small in
      let p : 0 < j = omega arith in
      let s : j < length T = omega arith in
      let one = rows_own T t m pos small (j - 1) (omega arith) (omega arith) in
      let two = rows_own T t m pos small j (omega arith) g in
      let longer = (len_iff T t j p s (len T m) (le_of_lt (len_lt T t m pos small))).1 (one ∙ sym two) in
      omega (arith, goes_false T j (len T m) e p s)

-- the jumps of the code, for the split m whose length is l: `go` is whether it jumps on from row j
module _ (T : List ℕ) (m l : ℕ) (r : Rising T m) (e : l ≡ len T m) {go : Bool} (j : ℕ) (tested : go ≡ goes_on T j l) where
  pos : 0 < m
  pos = r.split.pos

  small : m < length T
  small = r.split.small

  pub goes_split : go ≡ true → (0 < j) × (j < length T) × (len T m ≤ len T j)
  goes_split on = goes_true T j (len T m) (rw e at (sym tested ∙ on))

  stays : go ≡ false → goes_on T j (len T m) ≡ false
  stays off = rw e at (sym tested ∙ off)

  -- to the left, from row j to v, and where the jumps stop
  pub left_turn : (v : ℕ) → go ≡ true → j < m → left T m ≤ j → (0 < j → v ≡ left_entry T j)
      → (v < j) × (left T m ≤ v)
  left_turn v on g i is =
      let p = goes_split on in
      let stored : v ≡ left T j = is p.0 ∙ left_split T j p.0 in
      let lt = left_lt T r.table j p.0 p.1 in
      let gt = right_gt T r.table j p.0 p.1 in
      let end = right_gt T r.table m pos small in
      rw stored (lt, (nested T r.table m pos small j j p.0 p.1 p.2 (omega arith) gt i (omega arith)).0)

  pub left_stop : go ≡ false → j < m → left T m ≤ j → j ≡ left_entry T m
  left_stop off g i =
      let end = right_gt T r.table m pos small in
      let no : ¬ (left T m < j) = λ h. goes_within T r.table m pos small j h (omega arith) (stays off) in
      rw (left_split T m pos) (omega arith)

  -- and to the right
  pub right_turn : (v : ℕ) → go ≡ true → m < j → j ≤ right T m → (j < length T → v ≡ right_entry T j)
      → (j < v) × (j < length T) × (v ≤ right T m)
  right_turn v on g i is =
      let p = goes_split on in
      let stored : v ≡ right T j = is p.1 ∙ right_split T j p.0 in
      let lt = left_lt T r.table j p.0 p.1 in
      let gt = right_gt T r.table j p.0 p.1 in
      let end = left_lt T r.table m pos small in
      let ends =
      nested T r.table m pos small j (j - 1) p.0 p.1 p.2 (omega arith) (omega arith) (omega arith)
      (omega arith) in
      rw stored (gt, p.1, ends.1)

  pub right_stop : go ≡ false → m < j → j ≤ right T m → j ≡ right_entry T m
  right_stop off g i =
      let end = left_lt T r.table m pos small in
      let no : ¬ (j < right T m) = λ h. goes_within T r.table m pos small j (omega arith) h (stays off) in
      rw (right_split T m pos) (omega arith)
