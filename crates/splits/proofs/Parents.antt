-- The root, the entries of the stores, and the parent's length of a split. Assumes nothing.
use mathlib.Core.Path.{◌≡◌, refl, sym}
use mathlib.Core.Bool.{Bool, true, false, cond}
use mathlib.Core.List.{List}
use Prim.Native.Nat.{ℕ, zero, suc, ◌-◌, ◌≤◌, ◌<◌, max, zero-le}
use native.Mathlib.Nat.{le_refl}
use native.Mathlib.Decide.{dec_le}
use native.Mathlib.Omega.{arith}
use borrow.Author.Tests.{ltb-true, ltb-false, eqb-true, eqb-false, lt-ltb, le-ltb, ne_eqb}
use lib.Dec.{ltb, eqb}
use lib.ListN.{length}
use Rattle.words.specs.Keys.{first_bits}
use Rattle.tables.specs.Tables.{key_at, Table}
use Rattle.splits.specs.Splits.{len, left, right, smaller_of, root_to, root, parent_len}
use Rattle.splits.specs.Splits.{left_entry, right_entry, length_entry}
use Rattle.splits.specs.Vouched.{RootLeast, RootOnly}
use Rattle.basics.proofs.Bools.{by_test}
use Rattle.splits.proofs.Rows.{left_lt, right_gt, right_le, rows_own, left_len, right_len, one_split}

-- of the splits 1 to M, r has the smallest len
record Smallest (T : List ℕ) (M r : ℕ) : Type 0 where
  some : 0 < M → 0 < r
  within : r ≤ M
  least : (m : ℕ) → 0 < m → m ≤ M → len T r ≤ len T m

root_to_smallest : (T : List ℕ) (M : ℕ) → Smallest T M (root_to T M)
unfolding root_to
root_to_smallest T zero = record { some = λ h. h; within = zero-le; least = λ m h l. absurd (omega arith) }
root_to_smallest T (suc M) =
    step (root_to T M) (root_to_smallest T M) (eqb (root_to T M) 0) refl (ltb (len T (suc M)) (len T (root_to T M))) refl
  where
    step : (r : ℕ) → Smallest T M r → (a : Bool) → eqb r 0 ≡ a → (b : Bool)
        → ltb (len T (suc M)) (len T r) ≡ b
        → Smallest T (suc M) (cond a (suc M) (cond b (suc M) r))
    step r S true e b e' =
        let none : r ≡ 0 = eqb-true r 0 e in
        let no : ¬ (0 < M) = λ h. (omega (arith, S.some h)) in
        record {
          some = λ h. h;
          within = le_refl (suc M);
          least = λ m h l. (let is : m ≡ suc M = omega arith in rw is (le_refl _));
        }
    step r S false e true e' =
        let less : len T (suc M) < len T r = ltb-true _ _ e' in
        record {
          some = λ h. h;
          within = le_refl (suc M);
          least = λ m h l. elim (dec_le m M) [
            | yes g ↦ omega (arith, S.least m h g)
            | no g ↦ (let is : m ≡ suc M = omega arith in rw is (le_refl _))
          ];
        }
    step r S false e false e' =
        let more : len T r ≤ len T (suc M) = ltb-false _ _ e' in
        let pos : 0 < r = omega (arith, eqb-false r 0 e) in
        record {
          some = λ h. pos;
          within = omega (arith, S.within);
          least = λ m h l. elim (dec_le m M) [
            | yes g ↦ S.least m h g
            | no g ↦ (let is : m ≡ suc M = omega arith in rw is more)
          ];
        }

-- the root is a split, and no split has a shorter string
pub root_pos : (T : List ℕ) → 2 ≤ length T → 0 < root T
root_pos T h = (root_to_smallest T (length T - 1)).some (omega arith)

pub root_lt : (T : List ℕ) → 2 ≤ length T → root T < length T
root_lt T h = omega (arith, (root_to_smallest T (length T - 1)).within)

pub root_least : RootLeast
root_least T m h l = (root_to_smallest T (length T - 1)).least m h (omega arith)

-- the root by one more split, k = m: that split where its length is smaller, and otherwise the root so far
root_more : (T : List ℕ) (m : ℕ) → 0 < m → root_to T m ≡ smaller_of T (root_to T (m - 1)) m
unfolding root_to
root_more T zero h = absurd (omega arith)
root_more T (suc k) h = let e : suc k - 1 ≡ k = omega arith in rw e

pub root_one : (T : List ℕ) → root_to T 1 ≡ 1
unfolding root_to
root_one T = refl

pub root_none : (T : List ℕ) → length T < 2 → root T ≡ 0
unfolding root_to
root_none T h = let e : length T - 1 ≡ 0 = omega arith in rw e

pub root_shorter : (T : List ℕ) (k m r : ℕ) → k ≡ m → 0 < m → 0 < r → r ≡ root_to T (m - 1)
    → len T m < len T r → root_to T k ≡ m
root_shorter T k m r e pos some is h =
    rw (e, root_more T m pos, ← is, ne_eqb r 0 (λ z. omega arith), lt-ltb (len T m) (len T r) h)

pub root_kept : (T : List ℕ) (k m r : ℕ) → k ≡ m → 0 < m → 0 < r → r ≡ root_to T (m - 1)
    → len T r ≤ len T m → root_to T k ≡ r
root_kept T k m r e pos some is h =
    rw (e, root_more T m pos, ← is, ne_eqb r 0 (λ z. omega arith), le-ltb (len T m) (len T r) h)

pub ruleset rooting = (root_one, root_none, root_shorter, root_kept)

-- the entries of the stores
pub left_root : (T : List ℕ) → left_entry T 0 ≡ root T
unfolding left_entry
left_root T = refl

pub right_root : (T : List ℕ) → right_entry T 0 ≡ 0
unfolding right_entry
right_root T = refl

pub left_split : (T : List ℕ) (m : ℕ) → 0 < m → left_entry T m ≡ left T m
unfolding left_entry
left_split T m h = rw (ne_eqb m 0 (λ z. omega arith))

pub right_split : (T : List ℕ) (m : ℕ) → 0 < m → right_entry T m ≡ right T m
unfolding right_entry
right_split T m h = rw (ne_eqb m 0 (λ z. omega arith))

-- and those of the store of lengths
pub length_first : (T : List ℕ) → length_entry T 0 ≡ 0
unfolding length_entry
length_first T = refl

pub length_split : (T : List ℕ) (m : ℕ) → 0 < m → length_entry T m ≡ len T m
unfolding length_entry
length_split T m h = rw (ne_eqb m 0 (λ z. omega arith))

-- the parent's length
pub parent_left : (T : List ℕ) (m : ℕ) → 0 < left T m → len T (left T m) ≤ parent_len T m
unfolding parent_len
parent_left T m h = rw (lt-ltb 0 (left T m) h) (omega arith)

pub parent_right : (T : List ℕ) (m : ℕ) → right T m < length T → len T (right T m) ≤ parent_len T m
unfolding parent_len
parent_right T m h = rw (lt-ltb (right T m) (length T) h) (omega arith)

pub parent_lt : (T : List ℕ) (m f : ℕ) → 0 < f → (0 < left T m → len T (left T m) < f)
    → (right T m < length T → len T (right T m) < f) → parent_len T m < f
unfolding parent_len
parent_lt T m f h p q =
    let below : (b : Bool) (k : ℕ) → (b ≡ true → k < f) → cond b k 0 < f =
    λ b k g. by_test b (λ e. rw e (g e)) (λ e. rw e h) in
    omega (
      arith,
      below (ltb 0 (left T m)) (len T (left T m)) (λ e. p (ltb-true 0 (left T m) e)),
      below (ltb (right T m) (length T)) (len T (right T m)) (λ e. q (ltb-true (right T m) (length T) e)),
    )

module _ (T : List ℕ) (t : Table T) where
  -- a split with as short a string as any has all rows
  pub all_rows : (m : ℕ) → 0 < m → m < length T
      → ((k : ℕ) → 0 < k → k < length T → len T m ≤ len T k)
      → (left T m ≡ 0) × (right T m ≡ length T)
  all_rows m pos small least =
      let lt = left_lt T t m pos small in
      let gt = right_gt T t m pos small in
      let le = right_le T t m pos small in
      let none : ¬ (0 < left T m) =
      λ g. (omega (arith, left_len T t m pos small g, least (left T m) g (omega arith))) in
      let none' : ¬ (right T m < length T) =
      λ g. (omega (arith, right_len T t m pos small g, least (right T m) (omega arith) g)) in
      omega arith

  -- so all rows share the root's string
  pub root_all : (i : ℕ) → i < length T → 2 ≤ length T
      → first_bits (len T (root T)) (key_at T i) ≡ first_bits (len T (root T)) (key_at T (root T))
  root_all i s h =
      let p = root_pos T h in
      let q = root_lt T h in
      let all = all_rows (root T) p q (root_least T) in
      rows_own T t (root T) p q i (omega arith) (omega arith)

-- and the root is the only split with the smallest len
pub root_only : RootOnly
root_only T t m pos small h =
    let two : 2 ≤ length T = omega arith in
    let rp = root_pos T two in
    let rs = root_lt T two in
    let all = all_rows T t m pos small (λ k p s. omega (arith, root_least T k p s)) in
    sym (one_split T t m (root T) pos small (omega arith) (omega arith) (root_least T m pos small))

module _ (T : List ℕ) (t : Table T) where
  -- the parent of a split other than the root has a shorter string
  pub parent_shorter : (m : ℕ) → 0 < m → m < length T → (m ≡ root T → ⊥) → parent_len T m < len T m
  parent_shorter m pos small other =
      let some : ¬ (len T m ≤ len T (root T)) = λ g. other (root_only T t m pos small g) in
      parent_lt T m (len T m) (omega arith) (left_len T t m pos small) (right_len T t m pos small)

  -- the first of m's rows stands before m, so it is one of the table's, and the row after the last stands after m, so
  -- it isn't row 0
  pub ends_apart : (m : ℕ) → 0 < m → m < length T → (left_entry T m < length T) × (0 < right_entry T m)
  ends_apart m pos small =
      rw (left_split T m pos, right_split T m pos) (omega (arith, left_lt T t m pos small, right_gt T t m pos small))

-- the parent's length by the entries of the stores
pub parent_by : (T : List ℕ) (m : ℕ) → 0 < m
    → max (cond (ltb 0 (left_entry T m)) (len T (left_entry T m)) 0)
    (cond (ltb (right_entry T m) (length T)) (len T (right_entry T m)) 0) ≡ parent_len T m
unfolding parent_len
parent_by T m pos = rw (left_split T m pos, right_split T m pos)
