-- Document 01, "The two indexes" and "Call index": the rows of a bucket, the length of its prefix, and the bucket view.
use Rattle.std.specs.Prelude.{Bool, false, cond, List, [], ℕ, ◌*◌, eqb, ltb, length}
use Rattle.std.proofs.Math.Seq.{slice}
use Rattle.words.specs.Keys.{prefix_item}
use Rattle.tables.specs.Tables.{most_keys, key_at, shared_by_all}
use Rattle.tables.specs.Delimiters.{buckets, bucket_end}

-- bucket i's keys: rows i × b up to, not including, the smaller of (i + 1) × b and n
abbrev pub bucket_of : ℕ → List ℕ → ℕ → List ℕ
bucket_of b T i = slice (i * b) (bucket_end (length T) b i) T

-- the number of leading bits that all keys of bucket i share, but 63 for a bucket of one key
unfoldable pub bucket_length : ℕ → List ℕ → ℕ → ℕ
bucket_length b T i = cond (eqb (length (bucket_of b T i)) 1) 63 (shared_by_all (bucket_of b T i))

-- bucket i's prefix of that length as an item, read off its first key
abbrev pub bucket_prefix : ℕ → List ℕ → ℕ → ℕ
bucket_prefix b T i = prefix_item (key_at T (i * b)) (bucket_length b T i)

-- n and b are within their limits, and i is below k
unfoldable pub has_bucket : ℕ → ℕ → ℕ → Bool
has_bucket n b i = cond (ltb most_keys n) false (cond (ltb b 2) false (cond (ltb 256 b) false (ltb i (buckets n b))))

-- the bucket view: bucket i's rows, or none
abbrev pub bucket_view : ℕ → List ℕ → ℕ → List ℕ
bucket_view b T i = cond (has_bucket (length T) b i) (bucket_of b T i) []

-- the row at which the view begins
abbrev pub view_start : ℕ → ℕ → ℕ → ℕ
view_start n b i = cond (has_bucket n b i) (i * b) 0
