-- W4: at the deepest split on x's path the last comparison finds how many keys are smaller than x. Assumes nothing.
use mathlib.Core.Path.{◌≡◌, sym, ap, ◌∙◌}
use mathlib.Core.List.{List}
use Prim.Native.Nat.{ℕ, suc, ◌-◌, ◌≤◌, ◌<◌}
use native.Mathlib.Nat.{le_refl, le_of_lt}
use native.Mathlib.Decide.{dec_le}
use native.Mathlib.Omega.{arith}
use borrow.Author.Tests.{ltb-true, ltb-false, leb-true, leb-false, eqb-true, eqb-false, lt-ltb, le-leb}
use lib.Dec.{leb, eqb}
use lib.ListN.{length}
use lib.Pow.{shr_mono}
use Rattle.words.specs.Keys.{first_bits, bit_at}
use Rattle.tables.specs.Tables.{key_at, Table, smaller}
use Rattle.splits.specs.Splits.{len, left, right}
use Rattle.basics.proofs.Bools.{by_test}
use Rattle.splits.proofs.Rows.{next_bit, less_by, smaller_edge, len_lt, len_iff}
use Rattle.splits.proofs.Rows.{neighbours, rows_below, rows_above, low_side, high_side}
use Rattle.splits.proofs.Rows.{left_lt, right_gt, right_le}
use Rattle.walks.specs.Walk.{before, decide}
use Rattle.walks.proofs.Paths.{OnPath}
use Rattle.walks.proofs.Descending.{Deepest}

module _ (T : List ℕ) (t : Table T) (x : ℕ) where
  -- where x stands between two rows, the split between them is on its path
  between_on : (c : ℕ) → 0 < c → c < length T → key_at T (c - 1) < x → x ≤ key_at T c → OnPath T x c
  between_on c pos small h l = record { pos = pos; small = small; same = same }
    where
      same : first_bits (len T c) x ≡ first_bits (len T c) (key_at T c)
      same =
          let lo : first_bits (len T c) (key_at T (c - 1)) ≤ first_bits (len T c) x =
          shr_mono (64 - len T c) (le_of_lt h) in
          let hi : first_bits (len T c) x ≤ first_bits (len T c) (key_at T c) = shr_mono (64 - len T c) l in
          omega (arith, neighbours T t c pos small)

  abbrev c : ℕ
  c = smaller T x

  -- the keys below row c are smaller than x, and the others are not
  pub smaller_low : (i : ℕ) → i < c → key_at T i < x
  smaller_low i h = ltb-true (key_at T i) x ((smaller_edge T t x).low i h)

  pub smaller_high : (i : ℕ) → c ≤ i → i < length T → x ≤ key_at T i
  smaller_high i h l = ltb-false (key_at T i) x ((smaller_edge T t x).high i h l)

  pub smaller_most : c ≤ length T
  smaller_most = (smaller_edge T t x).most

  -- at the deepest split x stands before its rows, at the split, or after its rows
  module _ (m : ℕ) (D : Deepest T x m) where
    pos : 0 < m
    pos = D.path.pos

    small : m < length T
    small = D.path.small

    from_left : left T m ≤ c
    from_left =
        let no : ¬ (c < left T m) = λ g. (
        let in_table : c < length T = omega (arith, small, left_lt T t m pos small) in
        let under : first_bits (len T m) (key_at T c) < first_bits (len T m) x =
        rw D.path.same (rows_below T t m pos small c g) in
        omega (arith, smaller_high c (le_refl c) in_table, less_by (len T m) (key_at T c) x under)) in
        omega arith

    to_right : c ≤ right T m
    to_right =
        let b = right T m in
        let no : ¬ (b < c) = λ g. (
        let in_table : b < length T = omega (arith, smaller_most) in
        let over : first_bits (len T m) x < first_bits (len T m) (key_at T b) =
        rw D.path.same (rows_above T t m pos small b (le_refl b) in_table) in
        omega (arith, smaller_low b g, less_by (len T m) x (key_at T b) over)) in
        omega arith

    -- a split between would be on the path, and longer
    no_deeper : left T m < c → c < right T m → (c ≡ m → ⊥) → ⊥
    no_deeper h g ne =
        let in_table : c < length T = omega (arith, right_le T t m pos small) in
        let p : 0 < c = omega arith in
        let P = between_on c p in_table (smaller_low (c - 1) (omega arith)) (smaller_high c (le_refl c) in_table) in
        let both-sides : first_bits (suc (len T m)) (key_at T (c - 1)) ≡ first_bits (suc (len T m)) (key_at T c) =
        elim (dec_le m c) [
          | yes k ↦ high_side T t m pos small (c - 1) (omega arith) (omega arith)
              ∙ sym (high_side T t m pos small c k g)
          | no k ↦ low_side T t m pos small (c - 1) (omega arith) (omega arith)
              ∙ sym (low_side T t m pos small c (omega arith) (omega arith))
        ] in
        omega (arith, D.deep c P, (len_iff T t c p in_table (suc (len T m)) (len_lt T t m pos small)).1 both-sides)

    bit_zero : bit_at (len T m) x ≡ 0 → c ≤ m
    bit_zero e =
        let lt = len_lt T t m pos small in
        let side = high_side T t m pos small m (le_refl m) (right_gt T t m pos small) in
        let less = less_by (suc (len T m)) x (key_at T m) (omega (arith, next_bit (len T m) x lt, D.path.same)) in
        let no : ¬ (m < c) = λ g. (omega (arith, smaller_low m g)) in
        omega arith

    bit_one : ¬ (bit_at (len T m) x ≡ 0) → m ≤ c
    bit_one e =
        let lt = len_lt T t m pos small in
        let side = low_side T t m pos small (m - 1) (omega (arith, left_lt T t m pos small)) (omega (arith, pos)) in
        let less = less_by (suc (len T m)) (key_at T (m - 1)) x
        (omega (arith, next_bit (len T m) x lt, D.path.same)) in
        let no : ¬ (c < m) = λ g. (omega (arith, smaller_high (m - 1) (omega arith) (omega (arith, small)))) in
        omega arith

    pub decides : decide T x (len T m) (left T m) m (right T m) ≡ before c
    unfolding decide
    decides =
        let a = left T m in
        let b = right T m in
        let am : a < m = left_lt T t m pos small in
        let mb : m < b = right_gt T t m pos small in
        let bn : b ≤ length T = right_le T t m pos small in
        let ac : a ≤ c = from_left in
        let cb : c ≤ b = to_right in
        let ms : m < length T = small in
        rw (lt-ltb a m am, lt-ltb m b mb, le-leb b (length T) bn)
        (by_test (eqb (bit_at (len T m) x) 0)
        (λ e.
        let cm : c ≤ m = bit_zero (eqb-true _ _ e) in
        rw e (by_test (leb x (key_at T a))
        (λ k. let no : ¬ (a < c) = λ g. (omega (arith, smaller_low a g, leb-true x (key_at T a) k)) in
        let is : a ≡ c = omega arith in rw k (ap before is))
        (λ k.
        let no : ¬ (c ≤ a) = λ g. (omega (arith, smaller_high a g (omega arith), leb-false x (key_at T a) k)) in
        let no' : ¬ (c < m) = λ g. no_deeper (omega arith) (omega arith) (λ z. omega arith) in
        let is : m ≡ c = omega arith in
        rw k (ap before is))))
        (λ e.
        let mc : m ≤ c = bit_one (eqb-false _ _ e) in
        rw e (by_test (leb x (key_at T m))
        (λ k. let no : ¬ (m < c) = λ g. (omega (arith, smaller_low m g, leb-true x (key_at T m) k)) in
        let is : m ≡ c = omega arith in rw k (ap before is))
        (λ k.
        let no : ¬ (c ≤ m) = λ g. (omega (arith, smaller_high m g ms, leb-false x (key_at T m) k)) in
        let no' : ¬ (c < b) = λ g. no_deeper (omega arith) g (λ z. omega arith) in
        let is : b ≡ c = omega arith in
        rw k (ap before is)))))
