-- What the contract of the bucket view determines: for all inputs, any two outcomes that meet it are equal.
use Rattle.std.specs.Prelude.{◌≡◌, List, ℕ, ◌+◌, ◌*◌, length}
use Rattle.std.specs.Borrow.{Bor}
use Rattle.tables.specs.Buckets.{bucket_view, view_start}

-- the bucket view: its rows, and where in the caller's memory they stand
pub record Viewed (keys : Bor (List ℕ)) (b i : ℕ) (r : Bor (List ℕ)) : Type 0 where
  pub rows : r.now ≡ bucket_view b keys.now i
  pub own : r.ref_ptr ≡ (keys.ref_ptr.0, view_start (length keys.now) b i * 8 + keys.ref_ptr.1)

abbrev pub ViewDetermined : Type 0
ViewDetermined =
    (keys : Bor (List ℕ)) (b i : ℕ) (r r' : Bor (List ℕ)) → Viewed keys b i r → Viewed keys b i r'
    → (r.now ≡ r'.now) × (r.ref_ptr ≡ r'.ref_ptr)
