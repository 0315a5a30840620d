-- The laws of buckets: all keys of a bucket share the bits that its first and its last share, and no two buckets have
-- the same prefix. Assumes nothing.
use mathlib.Core.Path.{◌≡◌, sym, ap, ◌∙◌}
use mathlib.Core.Bool.{Bool, true, false, cond}
use mathlib.Core.List.{List, [], ◌∷◌}
use mathlib.Core.Logic.{◌⊎◌, ⊎_elim}
use Prim.Native.Nat.{ℕ, zero, suc, ◌+◌, ◌-◌, ◌*◌, ◌/◌, ◌%◌, ◌^◌, ◌≤◌, ◌<◌}
use native.Mathlib.Nat.{sub-zero, zero-sub, suc-sub-suc, min-eq_left, eq-or-lt_of_le, mul-le-mul_right}
use native.Mathlib.Omega.{arith}
use borrow.Author.Tests.{eq-eqb, ne_eqb, ltb-true, ltb-false}
use lib.Dec.{ltb}
use lib.ListN.{length, take, drop}
use lib.Seq.{slice, slice-cons, slice_empty, length-slice, take-nil}
use lib.Pow.{shr_mono}
use Rattle.basics.proofs.Bools.{differ, past_test}
use Rattle.words.specs.Keys.{shared_bits, prefix_item}
use Rattle.words.proofs.Sharing.{halve, shared_le, shared_iff, shared_lt, shared_min, parting}
use Rattle.words.proofs.Items.{item_inj}
use Rattle.tables.specs.Tables.{most_keys, key_at, Table, shared_with, shared_by_all}
use Rattle.tables.specs.Delimiters.{buckets, bucket_end}
use Rattle.tables.specs.Buckets.{bucket_of, bucket_length, bucket_prefix, has_bucket, bucket_view}
use Rattle.tables.proofs.Rising.{keys_rise, keys_above}
use Rattle.tables.proofs.Delimiting.{bucket_begins, bucket_ends, next_row}

-- a part, as a function hands it back
pub part_slice : (f t : ℕ) (l : List ℕ) → take (t - f) (drop f l) ≡ slice f t l
part_slice zero t l = rw (sub-zero t)
part_slice (suc f) zero l = rw (zero-sub (suc f))
part_slice (suc f) (suc t) [] = take-nil (suc t - suc f)
part_slice (suc f) (suc t) (x ∷ xs) = rw (suc-sub-suc t f) (part_slice f t xs)

-- of three keys in order the first two part at a bit, which is set in the third too if that shares the bits before it
third : (a l c k : ℕ) → a / 2 ^ suc k ≡ l / 2 ^ suc k → a / 2 ^ k < l / 2 ^ k → l ≤ c
    → a / 2 ^ suc k ≡ c / 2 ^ suc k
    → (c / 2 ^ k ≡ l / 2 ^ k) × (c / 2 ^ k % 2 ≡ 1)
third a l c k p q h e = omega (arith, halve a k, halve l k, halve c k, shr_mono k h)

-- bucket i's first and last key, and whether they are one key or there are more
abbrev first_key : ℕ → List ℕ → ℕ → ℕ
first_key b T i = key_at T (i * b)

abbrev last_key : ℕ → List ℕ → ℕ → ℕ
last_key b T i = key_at T (bucket_end (length T) b i - 1)

abbrev One : ℕ → List ℕ → ℕ → Type 0
One b T i = suc (i * b) ≡ bucket_end (length T) b i

abbrev More : ℕ → List ℕ → ℕ → Type 0
More b T i = suc (i * b) < bucket_end (length T) b i

module _ (T : List ℕ) (t : Table T) where
  -- what a key at or below row f shares with all rows from f up to, not including, e is what it shares with the last
  -- of them
  shared_with_slice : (d x f e : ℕ) → x ≤ key_at T f → f + suc d ≡ e → e ≤ length T
      → shared_with x (slice f e T) ≡ shared_bits x (key_at T (e - 1))
  unfolding shared_with
  shared_with_slice zero x f e h q l =
      let end : e ≡ suc f = omega arith in
      let last : e - 1 ≡ f = omega arith in
      rw (slice-cons f e T 0 (omega arith) l, last, end, slice_empty (suc f) T) (min-eq_left (shared_le x (key_at T f)))
  shared_with_slice (suc d) x f e h q l =
      let up : key_at T f ≤ key_at T (suc f) = keys_rise T t f (suc f) (omega arith) (omega arith) in
      let high : key_at T f ≤ key_at T (e - 1) = keys_rise T t f (e - 1) (omega arith) (omega arith) in
      let rest = shared_with_slice d x (suc f) e (omega arith) (omega arith) l in
      let outer = shared_min x (key_at T f) (key_at T (e - 1)) h high (t.fits (e - 1) (omega arith)) in
      rw (slice-cons f e T 0 (omega arith) l, rest) (omega arith)

  -- C1: two rows or more, from f up to, not including, e, share what the first and the last of them share
  pub shared_by_slice : (f e : ℕ) → suc f < e → e ≤ length T
      → shared_by_all (slice f e T) ≡ shared_bits (key_at T f) (key_at T (e - 1))
  unfolding shared_by_all
  shared_by_slice f e h l =
      let up : key_at T f ≤ key_at T (suc f) = keys_rise T t f (suc f) (omega arith) (omega arith) in
      rw (slice-cons f e T 0 (omega arith) l) (shared_with_slice (e - suc (suc f)) (key_at T f) (suc f) e up (omega arith) l)

  module _ (b i : ℕ) (hb : 1 ≤ b) (h : i < buckets (length T) b) where
    within : (i * b < bucket_end (length T) b i) × (bucket_end (length T) b i ≤ length T)
    within = bucket_ends (length T) b i hb h

    one_or_more : One b T i ⊎ More b T i
    one_or_more = eq-or-lt_of_le within.0

    length_bucket : length (bucket_of b T i) ≡ bucket_end (length T) b i - i * b
    length_bucket = length-slice (i * b) (bucket_end (length T) b i) T within.1

    pub length_one : One b T i → bucket_length b T i ≡ 63
    unfolding bucket_length
    length_one q = rw (eq-eqb (length (bucket_of b T i)) 1 (omega (arith, length_bucket)))

    pub length_more : More b T i → bucket_length b T i ≡ shared_bits (first_key b T i) (last_key b T i)
    unfolding bucket_length
    length_more q =
        rw (ne_eqb (length (bucket_of b T i)) 1 (λ one. omega (arith, length_bucket)))
        (shared_by_slice (i * b) (bucket_end (length T) b i) q within.1)

    first_fits : first_key b T i < 2 ^ 64
    first_fits = t.fits (i * b) (omega (arith, within))

    last_fits : last_key b T i < 2 ^ 64
    last_fits = t.fits (bucket_end (length T) b i - 1) (omega (arith, within))

    first_below : More b T i → first_key b T i < last_key b T i
    first_below q = let w = within in keys_above T t (i * b) (bucket_end (length T) b i - 1) (omega arith) (omega arith)

    pub length_small : bucket_length b T i ≤ 63
    length_small =
        ⊎_elim (λ one. omega (arith, length_one one))
        (λ more. omega (arith, length_more more, shared_lt (first_key b T i) (last_key b T i) first_fits last_fits (first_below more))) one_or_more

    -- the length, as the code reads it off the first key and the last
    pub length_read : {e s : ℕ} → e ≡ bucket_end (length T) b i → (i * b ≡ e - 1 → ⊥)
        → s ≡ shared_bits (key_at T (i * b)) (key_at T (e - 1)) → (s ≡ bucket_length b T i) × (s ≤ 63)
    length_read {e} {s} ends apart is =
        let w = within in
        let e_is : e - 1 ≡ bucket_end (length T) b i - 1 = rw ends in
        let more : suc (i * b) < bucket_end (length T) b i = ⊎_elim (λ one. absurd (apart (omega arith))) (λ m. m) one_or_more in
        let same : s ≡ bucket_length b T i = is ∙ rw (length_more more) (ap (λ (r : ℕ). shared_bits (key_at T (i * b)) (key_at T r)) e_is) in
        (same, omega (arith, length_small))

    -- two keys or more are the same up to digit k, and part there
    parts : More b T i → (k : ℕ) → bucket_length b T i + suc k ≡ 64
        → (first_key b T i / 2 ^ suc k ≡ last_key b T i / 2 ^ suc k) × (first_key b T i / 2 ^ k < last_key b T i / 2 ^ k)
    parts more k e =
        parting (first_key b T i) (last_key b T i) first_fits last_fits (first_below more) k
        (omega (arith, length_more more))

    -- every row of the bucket has the bucket's prefix
    pub prefix_same : (r : ℕ) → i * b ≤ r → r < bucket_end (length T) b i
        → prefix_item (key_at T r) (bucket_length b T i) ≡ bucket_prefix b T i
    prefix_same r low high = ⊎_elim alone among one_or_more
      where
        alone : One b T i → prefix_item (key_at T r) (bucket_length b T i) ≡ bucket_prefix b T i
        alone one = let same : r ≡ i * b = omega arith in rw same

        among : More b T i → prefix_item (key_at T r) (bucket_length b T i) ≡ bucket_prefix b T i
        among more =
            let w = within in
            let l = bucket_length b T i in
            let last = bucket_end (length T) b i - 1 in
            let up = keys_rise T t (i * b) r low (omega arith) in
            let on = keys_rise T t r last (omega arith) (omega arith) in
            let outer = shared_min (first_key b T i) (key_at T r) (last_key b T i) up on last_fits in
            let shares : l ≤ shared_bits (first_key b T i) (key_at T r) = omega (arith, length_more more) in
            let bits =
            (shared_iff (first_key b T i) (key_at T r) first_fits (t.fits r (omega arith)) l
            (omega (arith, length_small))).0 shares in
            ap (λ (u : ℕ). u * 2 ^ (64 - l) + 2 ^ (63 - l)) (sym bits)

  -- no two buckets have the same prefix: the earlier has two keys or more, and the bit at which they part is set in
  -- the later one's first key
  pub prefixes_differ : (b i j : ℕ) → 2 ≤ b → i < j → j < buckets (length T) b
      → bucket_prefix b T i ≡ bucket_prefix b T j → ⊥
  prefixes_differ b i j hb less h e =
      let n = length T in
      let some : 1 ≤ b = omega arith in
      let there : i < buckets n b = omega arith in
      let begins = bucket_begins n b j some h in
      let next : (bucket_end n b i ≤ j * b) × More b T i =
      omega (arith, next_row i b, mul-le-mul_right {m = i + 1} {n = j} b (omega arith)) in
      let high = keys_above T t (bucket_end n b i - 1) (j * b) (omega arith) begins in
      let small = length_small b i some there in
      let small' = length_small b j some h in
      let inj =
      item_inj (first_key b T i) (first_key b T j) (bucket_length b T i) (bucket_length b T j) (omega arith)
      (omega arith) e in
      let k = 63 - bucket_length b T i in
      let size : 64 - bucket_length b T i ≡ suc k = omega arith in
      let p = parts b i some there next.1 k (omega arith) in
      let bit =
      third (first_key b T i) (last_key b T i) (first_key b T j) k p.0 p.1 (omega arith) (rw size at inj.1) in
      ⊎_elim (λ one. let all : k ≡ 0 = omega (arith, length_one b j some h one) in omega (arith, rw all at bit.0))
      (λ more. omega (arith, parts b j some h more k (omega arith), halve (first_key b T j) k, halve (last_key b T j) k)) (one_or_more b j some h)

-- a test that comes out true let the ones before it fail
passed : (t u : Bool) → cond t false u ≡ true → (t ≡ false) × (u ≡ true)
passed t u = past_test t false u (λ e. differ (cc))

-- what is known where there is a bucket i
pub has_bucket_limits : (n b i : ℕ) → has_bucket n b i ≡ true
    → (n ≤ most_keys) × (2 ≤ b) × (b ≤ 256) × (i < buckets n b)
unfolding has_bucket
has_bucket_limits n b i e =
    let keys = passed (ltb most_keys n) _ e in
    let least = passed (ltb b 2) _ keys.1 in
    let most = passed (ltb 256 b) _ least.1 in
    (ltb-false most_keys n keys.0, ltb-false b 2 least.0, ltb-false 256 b most.0, ltb-true i (buckets n b) most.1)

-- the bucket view, as the code cuts it out of the table
pub view_rows : (T : List ℕ) (b i to : ℕ) → has_bucket (length T) b i ≡ true → to ≡ bucket_end (length T) b i
    → take (to - i * b) (drop (i * b) T) ≡ bucket_view b T i
view_rows T b i to has e = rw (has, e) (part_slice (i * b) (bucket_end (length T) b i) T)

pub ruleset view_cut = (bucket_begins, has_bucket_limits, view_rows)
