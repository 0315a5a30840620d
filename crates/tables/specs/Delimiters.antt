-- Buckets of b rows, and the last key of each. The whole table is the delimiters of buckets of one row.
use Rattle.std.specs.Prelude.{List, ℕ, ◌+◌, ◌-◌, ◌*◌, ◌/◌, ◌≤◌, min, length}
use Rattle.tables.specs.Tables.{key_at, listed}

-- k: n / b rounded up
abbrev pub buckets : ℕ → ℕ → ℕ
buckets n b = (n + (b - 1)) / b

-- bucket i's rows go up to, not including, the smaller of (i + 1) × b and n
abbrev pub bucket_end : ℕ → ℕ → ℕ → ℕ
bucket_end n b i = min ((i + 1) * b) n

-- the last key of each bucket
unfoldable pub delimiters : ℕ → List ℕ → List ℕ
delimiters b T = listed (buckets (length T) b) (λ i. key_at T (bucket_end (length T) b i - 1))

-- a table and a bucket size whose rows can be counted
pub record Bucketed (b : ℕ) (T : List ℕ) : Type 0 where
  pub some : 1 ≤ b
  pub most : b ≤ 256
  pub rows : length T ≤ 32768
