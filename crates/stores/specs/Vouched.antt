-- Why the definitions may be believed: laws to hold against document 01, each proved in proofs/ as exactly this type.
use Rattle.std.specs.Prelude.{◌≡◌, List, ◌↔◌, ℕ, ◌≤◌, length}
use Rattle.refusals.specs.Numbers.{taken, refused}
use Rattle.tables.specs.Tables.{first_fall}
use Rattle.stores.specs.Sizes.{short_store, Fits}
use Rattle.stores.specs.Judged.{judged, ask_refused}
use Rattle.stores.specs.declared.Sizes.{Sizes}

-- no store is named exactly if each has its length
abbrev pub NoneShortIff : Type 0
NoneShortIff = (have want : Sizes) → (short_store have want ≡ 0) ↔ Fits have want

-- nothing is refused exactly if the table and the bucket size are within their limits, the keys rise, and each store
-- has its length
abbrev pub NoneRefusedIff : Type 0
NoneRefusedIff =
    (keys : List ℕ) (b : ℕ) (have want : Sizes) → (judged keys b have want ≡ taken)
    ↔ ((length keys ≤ 32768) × (2 ≤ b) × (b ≤ 256) × (first_fall keys ≡ 0) × Fits have want)

-- an ask with a bucket size refuses nothing before it looks exactly if the table and the bucket size are within their
-- limits, and each store that it reads has its length. (Here it says `taken` otherwise; the chain is the same for all.)
abbrev pub AskPassesIff : Type 0
AskPassesIff =
    (n b : ℕ) (have want : Sizes) → (ask_refused refused n b have want taken ≡ taken)
    ↔ ((n ≤ 32768) × (2 ≤ b) × (b ≤ 256) × Fits have want)

-- what a build refuses before it builds is one of refusals 1 to 4
abbrev pub OneToFour : Type 0
OneToFour =
    (keys : List ℕ) (b : ℕ) (have want : Sizes) (k i : ℕ) → judged keys b have want ≡ refused k i → (1 ≤ k) × (k ≤ 4)
