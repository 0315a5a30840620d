-- Map 3's items: the handles of the splits other than the root, pairwise different. Assumes nothing.
use mathlib.Core.Path.{◌≡◌, sym, ◌∙◌}
use mathlib.Core.List.{List}
use mathlib.Core.Logic.{◌⊎◌, inl, inr, ⊎_elim}
use Prim.Native.Nat.{ℕ, ◌+◌, ◌-◌, ◌≤◌, ◌<◌}
use native.Mathlib.Nat.{le_of_lt}
use native.Mathlib.Decide.{dec_le}
use native.Mathlib.Omega.{arith}
use borrow.Author.Tests.{ltb-true, ltb-false}
use lib.Dec.{ltb}
use lib.ListN.{length}
use Rattle.words.specs.Keys.{first_bits, prefix_item}
use Rattle.words.specs.Fat.{Fattest}
use Rattle.words.proofs.Fatness.{fattest_of_found, fattest_one}
use Rattle.words.proofs.Items.{item_inj}
use Rattle.tables.specs.Tables.{key_at, Table}
use Rattle.splits.specs.Splits.{len, left, right, root, parent_len, handle_len, handle_item, handle_split}
use Rattle.basics.proofs.Bools.{by_test}
use Rattle.splits.proofs.Rows.{share_down, between, len_lt, len_iff, neighbours, rows_own, left_lt, right_gt}
use Rattle.splits.proofs.Rows.{one_split}
use Rattle.splits.proofs.Parents.{parent_left, parent_right, parent_shorter, root_pos, root_lt}

module _ (T : List ℕ) (t : Table T) where
  module _ (m : ℕ) (pos : 0 < m) (small : m < length T) (other : m ≡ root T → ⊥) where
    pub handle_fattest : Fattest (parent_len T m) (len T m) (handle_len T m)
    unfolding handle_len
    handle_fattest =
        let lt = len_lt T t m pos small in
        fattest_of_found (parent_len T m) (len T m) (parent_shorter T t m pos small other) (omega arith)

    -- only the split's rows have its handle
    pub handle_rows : (i : ℕ) → i < length T
        → first_bits (handle_len T m) (key_at T i) ≡ first_bits (handle_len T m) (key_at T m)
        → (left T m ≤ i) × (i < right T m)
    handle_rows i s e =
        let f = handle_len T m in
        let a = left T m in
        let b = right T m in
        let lt = left_lt T t m pos small in
        let gt = right_gt T t m pos small in
        let q : parent_len T m < f = handle_fattest.above in
        let top : f ≤ 64 = omega (arith, handle_fattest.within, len_lt T t m pos small) in
        let no : ¬ (i < a) = λ g. (
        let h : 0 < a = omega arith in
        let one = between T t f i (a - 1) m (omega arith) (omega arith) small e in
        let two = between T t f i a m (omega arith) (omega arith) small e in
        omega (arith, parent_left T m h, (len_iff T t a h (omega arith) f top).1 (one ∙ sym two))) in
        let no' : ¬ (b ≤ i) = λ g. (
        let h : b < length T = omega arith in
        let one = between T t f m (b - 1) i (omega arith) (omega arith) s (sym e) in
        let two = between T t f m b i (omega arith) g s (sym e) in
        omega (arith, parent_right T m h, (len_iff T t b (omega arith) h f top).1 (one ∙ sym two))) in
        omega arith

    -- whatever is the 2-fattest number of the range gives the handle
    pub handle_by : (f : ℕ) → Fattest (parent_len T m) (len T m) f → prefix_item (key_at T m) f ≡ handle_item T m
    unfolding handle_item
    handle_by f F = rw (fattest_one F handle_fattest)

  -- J8: the handles of two splits differ
  pub handle_inj : (m k : ℕ) → 0 < m → m < length T → (m ≡ root T → ⊥) → 0 < k → k < length T
      → (k ≡ root T → ⊥) → handle_item T m ≡ handle_item T k → m ≡ k
  unfolding handle_item
  handle_inj m k mp ms mo kp ks ko e =
      let f = handle_len T m in
      let g = handle_len T k in
      let F = handle_fattest m mp ms mo in
      let G = handle_fattest k kp ks ko in
      let fl : f ≤ len T m = F.within in
      let gl : g ≤ len T k = G.within in
      let mt = len_lt T t m mp ms in
      let kt = len_lt T t k kp ks in
      let r = item_inj (key_at T m) (key_at T k) f g (omega arith) (omega arith) e in
      let same : f ≡ g = r.0 in
      let fk : f ≤ len T k = omega arith in
      let bits : first_bits f (key_at T k) ≡ first_bits f (key_at T m) = sym r.1 in
      let bits' : first_bits g (key_at T m) ≡ first_bits g (key_at T k) = rw (← same) r.1 in
      let near : first_bits f (key_at T (k - 1)) ≡ first_bits f (key_at T k) =
      share_down f (len T k) (key_at T (k - 1)) (key_at T k) fk (le_of_lt kt) (neighbours T t k kp ks) in
      let near' : first_bits g (key_at T (m - 1)) ≡ first_bits g (key_at T m) =
      share_down g (len T m) (key_at T (m - 1)) (key_at T m) (omega arith) (le_of_lt mt) (neighbours T t m mp ms) in
      let k₁ = handle_rows m mp ms mo k ks bits in
      let k₀ = handle_rows m mp ms mo (k - 1) (omega arith) (near ∙ bits) in
      let m₁ = handle_rows k kp ks ko m ms bits' in
      let m₀ = handle_rows k kp ks ko (m - 1) (omega arith) (near' ∙ bits') in
      let longer = (len_iff T t m mp ms (len T k) (le_of_lt kt)).1
      (rows_own T t k kp ks (m - 1) m₀.0 m₀.1 ∙ sym (rows_own T t k kp ks m m₁.0 m₁.1)) in
      sym (one_split T t m k mp ms (omega arith) k₁.1 longer)

-- map 3's items stand for the splits other than the root, each for another
split_cases : (T : List ℕ) (i : ℕ)
    → ((i + 1 < root T) × (handle_split T i ≡ i + 1)) ⊎ ((root T ≤ i + 1) × (handle_split T i ≡ i + 2))
unfolding handle_split
split_cases T i =
    by_test (ltb (i + 1) (root T)) (λ e. inl (ltb-true (i + 1) (root T) e, rw e))
    (λ e. inr (ltb-false (i + 1) (root T) e, rw e))

pub split_ok : (T : List ℕ) (i : ℕ) → i + 2 < length T
    → (0 < handle_split T i) × (handle_split T i < length T) × (handle_split T i ≡ root T → ⊥)
split_ok T i h =
    ⊎_elim (λ p. (omega (arith, p.1), omega (arith, p.1), λ e. omega (arith, p.0, p.1)))
    (λ p. (omega (arith, p.1), omega (arith, p.1), λ e. omega (arith, p.0, p.1))) (split_cases T i)

pub split_inj : (T : List ℕ) (i j : ℕ) → handle_split T i ≡ handle_split T j → i ≡ j
split_inj T i j e =
    ⊎_elim (λ p. ⊎_elim (λ q. omega (arith, p.1, q.1)) (λ q. omega (arith, p.0, p.1, q.0, q.1)) (split_cases T j))
    (λ p. ⊎_elim (λ q. omega (arith, p.0, p.1, q.0, q.1)) (λ q. omega (arith, p.1, q.1)) (split_cases T j))
    (split_cases T i)

pub split_onto : (T : List ℕ) (m : ℕ) → 0 < m → m < length T → (m ≡ root T → ⊥)
    → (i : ℕ) × (i + 2 < length T) × (handle_split T i ≡ m)
split_onto T m pos small other =
    let two : 2 ≤ length T = omega arith in
    let rp : 0 < root T = root_pos T two in
    let rs : root T < length T = root_lt T two in
    elim (dec_le m (root T)) [
      | yes h ↦ (m - 1, omega arith, ⊎_elim (λ p. omega (arith, p.1)) (λ p. absurd (omega (arith, p.0))) (split_cases T (m - 1)))
      | no h ↦ (m - 2, omega arith, ⊎_elim (λ p. absurd (omega (arith, p.0))) (λ p. omega (arith, p.1)) (split_cases T (m - 2)))
    ]

-- the items of map 3 are pairwise different
pub items_differ : (T : List ℕ) → Table T → (i j : ℕ) → i + 2 < length T → j + 2 < length T
    → handle_item T (handle_split T i) ≡ handle_item T (handle_split T j) → i ≡ j
items_differ T t i j hi hj e =
    let p = split_ok T i hi in
    let q = split_ok T j hj in
    split_inj T i j (handle_inj T t (handle_split T i) (handle_split T j) p.0 p.1 p.2 q.0 q.1 q.2 e)

-- a map that gives each item its split leads each handle to its split
pub handles_by_items : (T : List ℕ) (lookUp : ℕ → ℕ)
    → ((i : ℕ) → i + 2 < length T → lookUp (handle_item T (handle_split T i)) ≡ handle_split T i)
    → (m : ℕ) → 0 < m → m < length T → (m ≡ root T → ⊥) → lookUp (handle_item T m) ≡ m
handles_by_items T lookUp items m pos small other =
    let s = split_onto T m pos small other in
    rw s.2 at (items s.0 s.1)
