-- The rows of a rising table: where a test that passes up to some row turns, and what the rows of a split share.
-- Assumes nothing.
use mathlib.Core.Path.{◌≡◌, refl, sym, ◌∙◌}
use mathlib.Core.Bool.{Bool, true, false, cond}
use mathlib.Core.List.{List, [], ◌∷◌}
use mathlib.Core.Logic.{◌↔◌}
use Prim.Native.Nat.{ℕ, zero, suc, ◌+◌, ◌-◌, ◌*◌, ◌≤◌, ◌<◌, zero-le, suc-le-suc}
use native.Mathlib.Nat.{le_refl, le_of_lt, le_of_suc-le-suc}
use native.Mathlib.Omega.{arith}
use borrow.Author.Tests.{ltb-true, ltb-false, leb-true, leb-false, lt-ltb, le-leb}
use lib.Dec.{leb, ltb}
use lib.ListN.{length}
use lib.Pow.{shr-shr, shr_mono}
use Rattle.words.specs.Keys.{first_bits, bit_at}
use Rattle.words.proofs.Sharing.{halve, shared_iff, shared_lt, parting_bits}
use Rattle.tables.specs.Tables.{key_at, Table, count, smaller}
use Rattle.tables.proofs.Rising.{keys_rise, keys_above}
use Rattle.splits.specs.Splits.{len, left, right}
use Rattle.splits.specs.Vouched.{RowsAre}
use Rattle.basics.proofs.Bools.{not_both}

-- a key's first l + 1 bits are its first l and bit l
pub next_bit : (l x : ℕ) → l < 64 → first_bits (suc l) x ≡ 2 * first_bits l x + bit_at l x
next_bit l x h =
    let k = 63 - l in
    let e : 64 - suc l ≡ k = omega arith in
    let e' : 64 - l ≡ suc k = omega arith in
    rw (e, e') (omega (arith, halve x k))

-- keys that share bits share fewer
pub share_down : (j l a b : ℕ) → j ≤ l → l ≤ 64 → first_bits l a ≡ first_bits l b
    → first_bits j a ≡ first_bits j b
share_down j l a b h hl e =
    let k : 64 - j ≡ (64 - l) + (l - j) = omega arith in
    rw (k, ← shr-shr a (64 - l) (l - j), ← shr-shr b (64 - l) (l - j), e)

-- the key with the smaller first bits is smaller
pub less_by : (l a b : ℕ) → first_bits l a < first_bits l b → a < b
less_by l a b h =
    let no : ¬ (b ≤ a) = λ g. (let m : first_bits l b ≤ first_bits l a = shr_mono (64 - l) g in omega arith) in
    omega arith

-- the test passes at the rows below c, and at no other
pub record Edge (p : ℕ → Bool) (T : List ℕ) (c : ℕ) : Type 0 where
  pub low : (i : ℕ) → i < c → p (key_at T i) ≡ true
  pub high : (i : ℕ) → c ≤ i → i < length T → p (key_at T i) ≡ false
  pub most : c ≤ length T

-- a test that passes at no row after one at which it fails has an edge, and the edge is the count
pub edge : (p : ℕ → Bool) (T : List ℕ)
    → ((i : ℕ) → suc i < length T → p (key_at T (suc i)) ≡ true → p (key_at T i) ≡ true)
    → Edge p T (count p T)
unfolding count
edge p [] down = record { low = λ i h. absurd (omega arith); high = λ i h l. absurd (omega arith); most = zero-le }
edge p (x ∷ xs) down = step (p x) refl (edge p xs (λ i h. down (suc i) (suc-le-suc h)))
  where
    step : (b : Bool) → p x ≡ b → Edge p xs (count p xs)
        → Edge p (x ∷ xs) (cond b (suc (count p xs)) (count p xs))
    step true e E = record { low = low; high = high; most = suc-le-suc E.most }
      where
        low : (i : ℕ) → i < suc (count p xs) → p (key_at (x ∷ xs) i) ≡ true
        low zero h = e
        low (suc i) h = E.low i (le_of_suc-le-suc h)

        high : (i : ℕ) → suc (count p xs) ≤ i → i < length (x ∷ xs) → p (key_at (x ∷ xs) i) ≡ false
        high zero h l = absurd (omega arith)
        high (suc i) h l = E.high i (le_of_suc-le-suc h) (le_of_suc-le-suc l)
    step false e E = record { low = λ i h. absurd (omega (arith, none)); high = high; most = omega (arith, none) }
      where
        none : count p xs ≡ 0
        none =
            let no : ¬ (0 < count p xs) = λ h. not_both (down 0 (omega (arith, E.most)) (E.low 0 h)) e in
            omega arith

        high : (i : ℕ) → count p xs ≤ i → i < length (x ∷ xs) → p (key_at (x ∷ xs) i) ≡ false
        high zero h l = e
        high (suc i) h l = E.high i (omega (arith, none)) (le_of_suc-le-suc l)

module _ (T : List ℕ) (t : Table T) where
  pub bits_le : (l i j : ℕ) → i ≤ j → j < length T → first_bits l (key_at T i) ≤ first_bits l (key_at T j)
  bits_le l i j h g = shr_mono (64 - l) (keys_rise T t i j h g)

  -- rows between rows that share bits share them
  pub between : (l i j k : ℕ) → i ≤ j → j ≤ k → k < length T
      → first_bits l (key_at T i) ≡ first_bits l (key_at T k)
      → first_bits l (key_at T j) ≡ first_bits l (key_at T k)
  between l i j k h g s e = omega (arith, bits_le l i j h (omega arith), bits_le l j k g s)

  -- how many keys are smaller than x: the row before which x stands
  pub smaller_edge : (x : ℕ) → Edge (λ k. ltb k x) T (smaller T x)
  smaller_edge x =
      edge (λ k. ltb k x) T
      (λ i h e. lt-ltb (key_at T i) x (omega (arith, ltb-true (key_at T (suc i)) x e, t.rises i h)))

  -- the split m
  module _ (m : ℕ) (pos : 0 < m) (small : m < length T) where
    prior : key_at T (m - 1) < key_at T m
    prior = keys_above T t (m - 1) m (omega arith) small

    pub len_lt : len T m < 64
    len_lt = shared_lt (key_at T (m - 1)) (key_at T m) (t.fits (m - 1) (omega arith)) (t.fits m small) prior

    -- rows m - 1 and m share the first L bits exactly if L is at most len
    pub len_iff : (L : ℕ) → L ≤ 64
        → (L ≤ len T m) ↔ (first_bits L (key_at T (m - 1)) ≡ first_bits L (key_at T m))
    len_iff L h = shared_iff (key_at T (m - 1)) (key_at T m) (t.fits (m - 1) (omega arith)) (t.fits m small) L h

    -- and part at bit len
    pub len_bits : (bit_at (len T m) (key_at T (m - 1)) ≡ 0) × (bit_at (len T m) (key_at T m) ≡ 1)
    len_bits = parting_bits (key_at T (m - 1)) (key_at T m) (t.fits (m - 1) (omega arith)) (t.fits m small) prior

    abbrev own : ℕ → ℕ
    own i = first_bits (len T m) (key_at T i)

    pub neighbours : own (m - 1) ≡ own m
    neighbours = (len_iff (len T m) (le_of_lt len_lt)).0 (le_refl _)

    left_edge : Edge (λ k. ltb (first_bits (len T m) k) (own m)) T (left T m)
    unfolding left
    left_edge = edge (λ k. ltb (first_bits (len T m) k) (own m)) T
        (λ i h e.
        let up = bits_le (len T m) i (suc i) (omega arith) h in
        lt-ltb (own i) (own m) (omega (arith, ltb-true (own (suc i)) (own m) e)))

    right_edge : Edge (λ k. leb (first_bits (len T m) k) (own m)) T (right T m)
    unfolding right
    right_edge = edge (λ k. leb (first_bits (len T m) k) (own m)) T
        (λ i h e.
        let up = bits_le (len T m) i (suc i) (omega arith) h in
        le-leb (own i) (own m) (omega (arith, leb-true (own (suc i)) (own m) e)))

    -- rows below left have smaller first bits, rows from right on larger ones, those between the split's own
    pub rows_below : (i : ℕ) → i < left T m → own i < own m
    rows_below i h = ltb-true (own i) (own m) (left_edge.low i h)

    pub rows_above : (i : ℕ) → right T m ≤ i → i < length T → own m < own i
    rows_above i h l = leb-false (own i) (own m) (right_edge.high i h l)

    pub rows_own : (i : ℕ) → left T m ≤ i → i < right T m → own i ≡ own m
    rows_own i h l =
        let fit : right T m ≤ length T = right_edge.most in
        let not-above = leb-true (own i) (own m) (right_edge.low i l) in
        omega (arith, ltb-false (own i) (own m) (left_edge.high i h (omega arith)))

    pub left_lt : left T m < m
    left_lt =
        let no : ¬ (m ≤ left T m) = λ h. (omega (arith, rows_below (m - 1) (omega arith), neighbours)) in
        omega arith

    pub right_gt : m < right T m
    right_gt = let no : ¬ (right T m ≤ m) = λ h. (omega (arith, rows_above m h small)) in omega arith

    pub right_le : right T m ≤ length T
    right_le = right_edge.most

    -- the first len + 1 bits of the split's rows: those of row m - 1 before m, those of row m from it on
    pub low_side : (i : ℕ) → left T m ≤ i → i < m → first_bits (suc (len T m)) (key_at T i) ≡ 2 * own m
    low_side i h g =
        let same = rows_own i h (omega (arith, right_gt)) in
        let up = bits_le (suc (len T m)) i (m - 1) (omega arith) (omega arith) in
        let last = next_bit (len T m) (key_at T (m - 1)) len_lt in
        omega (arith, next_bit (len T m) (key_at T i) len_lt, neighbours, len_bits.0)

    pub high_side : (i : ℕ) → m ≤ i → i < right T m → first_bits (suc (len T m)) (key_at T i) ≡ 2 * own m + 1
    high_side i h g =
        let same = rows_own i (omega (arith, left_lt)) g in
        let up = bits_le (suc (len T m)) m i h (omega (arith, right_le)) in
        omega (arith, next_bit (len T m) (key_at T i) len_lt, next_bit (len T m) (key_at T m) len_lt, len_bits.1)

  -- S2: at the ends of a split's rows stand splits with shorter strings
  pub left_len : (m : ℕ) → 0 < m → m < length T → 0 < left T m → len T (left T m) < len T m
  left_len m pos small h =
      let l = len T m in
      let a = left T m in
      let a_lt : a < m = left_lt m pos small in
      let below = rows_below m pos small (a - 1) (omega arith) in
      let own = rows_own m pos small a (le_refl a) (omega (arith, right_gt m pos small)) in
      let no : ¬ (l ≤ len T a) =
      λ g. (omega (arith, (len_iff a h (omega arith) l (le_of_lt (len_lt m pos small))).0 g)) in
      omega arith

  pub right_len : (m : ℕ) → 0 < m → m < length T → right T m < length T → len T (right T m) < len T m
  right_len m pos small h =
      let l = len T m in
      let b = right T m in
      let b-gt : m < b = right_gt m pos small in
      let above = rows_above m pos small b (le_refl b) h in
      let own = rows_own m pos small (b - 1) (omega (arith, left_lt m pos small)) (omega arith) in
      let no : ¬ (l ≤ len T b) =
      λ g. (omega (arith, (len_iff b (omega arith) h l (le_of_lt (len_lt m pos small))).0 g)) in
      omega arith

  -- S3: a split with its string as long stands at no other of a split's rows
  pub one_split : (m k : ℕ) → 0 < m → m < length T → left T m < k → k < right T m → len T k ≤ len T m
      → k ≡ m
  one_split m k pos small h g le =
      let p : 0 < k = omega arith in
      let s : k < length T = omega (arith, right_le m pos small) in
      let longer : first_bits (suc (len T m)) (key_at T (k - 1)) ≡ first_bits (suc (len T m)) (key_at T k) → ⊥ =
      λ e. (omega (arith, (len_iff k p s (suc (len T m)) (len_lt m pos small)).1 e)) in
      let not-above : ¬ (m < k) =
      λ l. longer (high_side m pos small (k - 1) (omega arith) (omega arith) ∙ sym (high_side m pos small k (omega arith) g)) in
      let not_below : ¬ (k < m) =
      λ l. longer (low_side m pos small (k - 1) (omega arith) (omega arith) ∙ sym (low_side m pos small k (omega arith) l)) in
      omega arith

-- so the rows with the split's string are those from left up to right
pub rows_are : RowsAre
rows_are T t m pos small i s = (
  λ p. rows_own T t m pos small i p.0 p.1,
  λ e. (
      let low : ¬ (i < left T m) = λ g. (omega (arith, rows_below T t m pos small i g)) in
      let high : ¬ (right T m ≤ i) = λ g. (omega (arith, rows_above T t m pos small i g s)) in
      omega arith),
)
