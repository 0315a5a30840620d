-- The laws of `delimiters`. Assumes nothing.
use mathlib.Core.Path.{◌≡◌, ap, ◌∙◌}
use mathlib.Core.List.{List}
use Prim.Native.Nat.{ℕ, suc, ◌+◌, ◌-◌, ◌*◌, ◌/◌, ◌^◌, ◌≤◌, ◌<◌}
use native.Mathlib.Nat.{le-div_iff_mul-le, suc-mul, le-mul_of_pos_right, mul-one, div-one, add-zero}
use native.Mathlib.Numerals.{add-one}
use native.Mathlib.Omega.{arith}
use lib.ListN.{length}
use Rattle.tables.specs.Tables.{key_at, Table}
use Rattle.tables.specs.Delimiters.{buckets, bucket_end, delimiters}
use Rattle.tables.specs.Vouched.{DelimitersOne}
use Rattle.tables.proofs.Lists.{length_listed, listed_at, listed_self}
use Rattle.tables.proofs.Rising.{keys_rise}

-- a bucket that is there begins inside the table
pub bucket_begins : (n b i : ℕ) → 1 ≤ b → i < buckets n b → i * b < n
bucket_begins n b i hb h = omega (arith, (le-div_iff_mul-le {k = b} {x = suc i} {y = n + (b - 1)} hb).0 h, suc-mul i b)

-- and one that begins there is there
pub bucket_there : (n b i : ℕ) → 1 ≤ b → i * b < n → i < buckets n b
bucket_there n b i hb h = (le-div_iff_mul-le {k = b} {x = suc i} {y = n + (b - 1)} hb).1 (omega (arith, suc-mul i b))

pub next_row : (i b : ℕ) → (i + 1) * b ≡ i * b + b
next_row i b = rw (add-one, suc-mul)

pub buckets_le : (n b : ℕ) → 1 ≤ b → buckets n b ≤ n
buckets_le n b h =
    let k = buckets n b in
    let no : ¬ (n < k) =
    λ g. (let begins = bucket_begins n b n h g in let more : n ≤ n * b = le-mul_of_pos_right n h in omega arith) in
    omega arith

-- a bucket ends after it begins, and within the table
pub bucket_ends : (n b i : ℕ) → 1 ≤ b → i < buckets n b → (i * b < bucket_end n b i) × (bucket_end n b i ≤ n)
bucket_ends n b i hb h = omega (arith, bucket_begins n b i hb h, next_row i b)

-- later buckets end later
pub ends_rise : (n b i : ℕ) → 1 ≤ b → suc i < buckets n b → bucket_end n b i < bucket_end n b (suc i)
ends_rise n b i hb h = omega (arith, bucket_begins n b (suc i) hb h, suc-mul i b, next_row i b, next_row (suc i) b)

module _ (b : ℕ) (T : List ℕ) where
  pub length_delimiters : length (delimiters b T) ≡ buckets (length T) b
  unfolding delimiters
  length_delimiters = length_listed (buckets (length T) b) _

  pub delimiter_is : (i : ℕ) → i < buckets (length T) b
      → key_at (delimiters b T) i ≡ key_at T (bucket_end (length T) b i - 1)
  unfolding delimiters
  delimiter_is i h = listed_at (buckets (length T) b) _ i h

  pub delimiters_table : 1 ≤ b → Table T → Table (delimiters b T)
  delimiters_table hb t = record { fits = fits; rises = rises }
    where
      fits : (i : ℕ) → i < length (delimiters b T) → key_at (delimiters b T) i < 2 ^ 64
      fits i h =
          let l : i < buckets (length T) b = rw length_delimiters at h in
          let e = bucket_ends (length T) b i hb l in
          rw (delimiter_is i l) (t.fits (bucket_end (length T) b i - 1) (omega arith))

      rises : (i : ℕ) → suc i < length (delimiters b T)
          → key_at (delimiters b T) i < key_at (delimiters b T) (suc i)
      rises i h =
          let l : suc i < buckets (length T) b = rw length_delimiters at h in
          let k : i < buckets (length T) b = omega arith in
          let e = bucket_ends (length T) b (suc i) hb l in
          let d = bucket_ends (length T) b i hb k in
          let r = ends_rise (length T) b i hb l in
          let a = bucket_end (length T) b i - 1 in
          let c = bucket_end (length T) b (suc i) - 1 in
          let low = t.rises a (omega arith) in
          let high = keys_rise T t (suc a) c (omega arith) (omega arith) in
          rw (delimiter_is i k, delimiter_is (suc i) l) (omega arith)

-- with buckets of one row they are the table itself
pub delimiters_one : DelimitersOne
unfolding delimiters
delimiters_one T =
    let n = length T in
    rw (all n) (listed_self T (λ i. key_at T (bucket_end n 1 i - 1)) (λ i h. ap (key_at T) (own i h)))
  where
    all : (n : ℕ) → (n + (1 - 1)) / 1 ≡ n
    all n = div-one (n + (1 - 1)) ∙ add-zero n

    own : (i : ℕ) → i < length T → bucket_end (length T) 1 i - 1 ≡ i
    own i h = omega (arith, mul-one (i + 1))

pub delimiters_all : {b : ℕ} (T : List ℕ) → b ≡ 1 → delimiters b T ≡ T
delimiters_all T e = rw e (delimiters_one T)

-- how the code reads a delimiter
pub ruleset delimiter_read = (delimiters_all, delimiter_is, length_delimiters)
