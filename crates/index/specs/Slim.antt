-- Request One, with Five, Six and Eight: the customer's demands on the slim profile, in his order. proofs/{Slim,Worked}
-- prove them.
use Rattle.std.specs.Prelude.{◌≡◌, Bool, Some, None, List, ◌⊎◌, ◌↔◌, ℕ, ◌/◌, ◌^◌, ◌≤◌, ◌<◌, length}
use Rattle.refusals.specs.Numbers.{BuildSaid, taken, number_said, jam_said}
use Rattle.tables.specs.Tables.{key_at, smaller}
use Rattle.tables.specs.Delimiters.{delimiters}
use Rattle.stores.specs.Sizes.{Fits}
use Rattle.stores.specs.Stores.{Stores, Seeds, sizes_of}
use Rattle.items.specs.Items.{handle_items}
use Rattle.jams.specs.Jam.{Jammed, LargestJam}
use Rattle.outcomes.specs.Outcomes.{Told, marked}
use Rattle.places.specs.Said.{stands_at}
use Rattle.full.specs.Build.{FullBuilt}
use Rattle.slimstores.specs.Sizes.{slim_build_sizes}
use Rattle.slimask.specs.Ask.{told, slim_says}
use Rattle.slim.specs.Build.{slim_judged, SlimBuilt}
use Rattle.index.specs.Answers.{Words, row_of, probes_of}
use Rattle.index.specs.Demands.{Names, Tells, InRow, ByItsByte, CallTold, Searched, TrueTo}
use Rattle.index.specs.Demands.{WalksByTable, WalksUnchanged}
use Rattle.index.specs.Worked.{eleven, three}

-- Demand 1: whatever the slim build is handed, it never names map 2; and where nothing else is refused, it refuses a
-- seed exactly when some nonempty set of one map's items touches no cell just once, and names 1 for the offsets, and
-- otherwise 3 for the handles of the delimiters
abbrev pub SlimRefusesJams : Type 0
SlimRefusesJams =
    (keys : List ℕ) (b seed₁ seed₃ : ℕ) (S : Stores) (said : BuildSaid) (S' : Stores)
    → SlimBuilt keys b seed₁ seed₃ S said S'
    → (Names said 2 → ⊥)
    × (slim_judged keys b S ≡ taken
    → (Names said 1 ↔ Jammed seed₁ keys)
    × (Names said 3 ↔ ((Jammed seed₁ keys → ⊥) × Jammed seed₃ (handle_items (delimiters b keys))))
    × ((said ≡ taken) ↔ ((Jammed seed₁ keys → ⊥) × (Jammed seed₃ (handle_items (delimiters b keys)) → ⊥))))

-- Request Five: whatever the slim build is handed, the number that it reports is the size of the largest jam of the map
-- that it names, of 1 and 3, in refusal 5; it is above 0 exactly then, and 0 with no jam
abbrev pub SlimSizeIsTheLargest : Type 0
SlimSizeIsTheLargest =
    (keys : List ℕ) (b seed₁ seed₃ : ℕ) (S : Stores) (said : BuildSaid) (S' : Stores)
    → SlimBuilt keys b seed₁ seed₃ S said S'
    → (Names said 1 → LargestJam seed₁ keys (jam_said said))
    × (Names said 3 → LargestJam seed₃ (handle_items (delimiters b keys)) (jam_said said))
    × ((number_said said ≡ 5) ↔ (Names said 1 ⊎ Names said 3))
    × ((0 < jam_said said) ↔ (number_said said ≡ 5))

-- what a slim ask on x tells over stores: an outcome ..
abbrev pub SlimTold : (keys bytes : List ℕ) (b seed₁ seed₃ : ℕ) → Stores → ℕ → Told → Type 0
SlimTold keys bytes b seed₁ seed₃ S x t =
    (before : ℕ) × ((probes : ℕ) × ((stands : Bool)
    × (slim_says keys bytes b seed₁ seed₃ S x ≡ told t before probes stands)))

-- .. and of its walk the number before, the probe count, and whether x is a delimiter
abbrev pub SlimPlaced : (keys bytes : List ℕ) (b seed₁ seed₃ : ℕ) → Stores → ℕ → (before probes : ℕ) → Bool → Type 0
SlimPlaced keys bytes b seed₁ seed₃ S x before probes stands =
    (t : Told) × (slim_says keys bytes b seed₁ seed₃ S x ≡ told t before probes stands)

-- Demands 2 and 3 in one: after an accepted build, asked with its own inputs and any byte for each row, the slim ask
-- answers every key by its row in the table and the byte of that row, and by the number of smaller delimiters, the
-- probes of the walk over them, and whether it is one: no seed and no cell occurs in what it answers
abbrev pub SlimBuildAnswers : Type 0
SlimBuildAnswers =
    (keys : List ℕ) (b seed₁ seed₃ : ℕ) (S S' : Stores) → Words keys → SlimBuilt keys b seed₁ seed₃ S taken S'
    → (bytes : List ℕ) → length keys ≤ length bytes → (x : ℕ)
    → let D = delimiters b keys in
    slim_says keys bytes b seed₁ seed₃ S' x
    ≡ told (marked bytes (row_of Some None keys x)) (smaller D x) (probes_of D x) (stands_at D x (smaller D x))

-- Demand 2, as request Eight reads it: planned keys and all others get its answers
abbrev pub SlimTells : Type 0
SlimTells =
    (keys : List ℕ) (b seed₁ seed₃ : ℕ) (S S' : Stores) → Words keys → SlimBuilt keys b seed₁ seed₃ S taken S'
    → (bytes : List ℕ) → length keys ≤ length bytes → (x : ℕ) → x < 2 ^ 64
    → Tells keys bytes x (SlimTold keys bytes b seed₁ seed₃ S' x)

-- they are those of the full profile: over accepted builds of one table, whatever the seeds and the bucket sizes, both
-- tell one outcome of every key under the same bytes
abbrev pub SlimAgrees : Type 0
SlimAgrees =
    (keys : List ℕ) → Words keys
    → (b : ℕ) (s : Seeds) (S S' : Stores) → FullBuilt keys b s S taken S'
    → (c seed₁ seed₃ : ℕ) (R R' : Stores) → SlimBuilt keys c seed₁ seed₃ R taken R'
    → (bytes : List ℕ) → length keys ≤ length bytes → (x : ℕ)
    → (t : Told) × (CallTold keys bytes b s S' x t × SlimTold keys bytes c seed₁ seed₃ R' x t)

-- the row of a key, withdrawn or not, is the number of smaller keys
abbrev pub SlimRowsAreSorted : Type 0
SlimRowsAreSorted =
    (keys : List ℕ) (b seed₁ seed₃ : ℕ) (S S' : Stores) → Words keys → SlimBuilt keys b seed₁ seed₃ S taken S'
    → (r : ℕ) → r < length keys → smaller keys (key_at keys r) ≡ r

-- its bucket is the number of smaller delimiters
abbrev pub BucketIsBefore : Type 0
BucketIsBefore =
    (keys : List ℕ) (b seed₁ seed₃ : ℕ) (S S' : Stores) → Words keys → SlimBuilt keys b seed₁ seed₃ S taken S'
    → (r : ℕ) → r < length keys → smaller (delimiters b keys) (key_at keys r) ≡ r / b

-- whatever the table and the stores hold, a row is told only of the one key that stands there; so after an accepted
-- build rows and keys correspond one to one
abbrev pub SlimOneKeyForEachRow : Type 0
SlimOneKeyForEachRow =
    (keys bytes : List ℕ) (b seed₁ seed₃ : ℕ) (S : Stores) (x r : ℕ)
    → InRow (SlimTold keys bytes b seed₁ seed₃ S x) r → (r < length keys) × (key_at keys r ≡ x)

-- a withdrawn key keeps its row: whatever the table and the stores hold, a key that was told in a row stays in it under
-- any other n bytes or more, and is told as withdrawn exactly if the byte there isn't zero
abbrev pub SlimWithdrawnKeepsItsRow : Type 0
SlimWithdrawnKeepsItsRow =
    (keys bytes bytes' : List ℕ) (b seed₁ seed₃ : ℕ) (S : Stores) (x r : ℕ)
    → InRow (SlimTold keys bytes b seed₁ seed₃ S x) r → length keys ≤ length bytes'
    → ByItsByte bytes' (SlimTold keys bytes' b seed₁ seed₃ S x) r

-- and "before" and its probes go by all delimiters, withdrawn or not: whatever the table and the stores hold, other
-- bytes leave them as they were
abbrev pub SlimPlaceIsKept : Type 0
SlimPlaceIsKept =
    (keys bytes bytes' : List ℕ) (b seed₁ seed₃ : ℕ) (S : Stores) (x before probes : ℕ) (stands : Bool)
    → SlimPlaced keys bytes b seed₁ seed₃ S x before probes stands → length keys ≤ length bytes'
    → SlimPlaced keys bytes' b seed₁ seed₃ S x before probes stands

-- monotone hashing, as Belazzougui, Boldi, Pagh and Vigna define it: the rows of the keys, withdrawn or not, keep their
-- order
abbrev pub SlimMonotone : Type 0
SlimMonotone =
    (keys : List ℕ) (b seed₁ seed₃ : ℕ) (S S' : Stores) → Words keys → SlimBuilt keys b seed₁ seed₃ S taken S'
    → (bytes bytes' : List ℕ) (x y i j : ℕ) → InRow (SlimTold keys bytes b seed₁ seed₃ S' x) i
    → InRow (SlimTold keys bytes' b seed₁ seed₃ S' y) j → (x < y) ↔ (i < j)

-- Demand 3 with the delimiters as its table, two of them or more: whatever the bytes
abbrev pub SlimSearchIsExact : Type 0
SlimSearchIsExact =
    (keys : List ℕ) (b seed₁ seed₃ : ℕ) (S S' : Stores) → Words keys → 2 ≤ length (delimiters b keys)
    → SlimBuilt keys b seed₁ seed₃ S taken S'
    → (bytes : List ℕ) → length keys ≤ length bytes → (x : ℕ) → x < 2 ^ 64
    → (probes : ℕ) × ((stands : Bool)
    × Searched (delimiters b keys) seed₃ S' x (SlimPlaced keys bytes b seed₁ seed₃ S' x) probes stands)

-- after an accepted build the walk over the stores is the walk over the delimiters alone
abbrev pub SlimWalksAgree : Type 0
SlimWalksAgree =
    (keys : List ℕ) (b seed₁ seed₃ : ℕ) (S S' : Stores) → Words keys → SlimBuilt keys b seed₁ seed₃ S taken S'
    → WalksByTable (delimiters b keys) seed₃ S'

-- and whatever the stores hold, no ask reports more than six probes
abbrev pub SlimSixAtMost : Type 0
SlimSixAtMost =
    (keys bytes : List ℕ) (b seed₁ seed₃ : ℕ) (S : Stores) (x before probes : ℕ) (stands : Bool)
    → SlimPlaced keys bytes b seed₁ seed₃ S x before probes stands → probes ≤ 6

-- Request Six: where a slim build accepts, its k stored lengths are true to the delimiters ..
abbrev pub SlimLengthsAreTrue : Type 0
SlimLengthsAreTrue =
    (keys : List ℕ) (b seed₁ seed₃ : ℕ) (S S' : Stores) → SlimBuilt keys b seed₁ seed₃ S taken S'
    → TrueTo (delimiters b keys) S'

-- .. so the walk that reads them is the walk that works each length out from the delimiters
abbrev pub SlimWalkIsUnchanged : Type 0
SlimWalkIsUnchanged =
    (keys : List ℕ) (b seed₁ seed₃ : ℕ) (S S' : Stores) → SlimBuilt keys b seed₁ seed₃ S taken S'
    → WalksUnchanged (delimiters b keys) seed₃ S'

-- there are builds that all this is said of: where each store has its named length the slim build takes the table with
-- these seeds, since its statement allows no other answer ..
abbrev pub SlimTakesSeeds : List ℕ → (b seed₁ seed₃ : ℕ) → Type 0
SlimTakesSeeds T b seed₁ seed₃ =
    (S : Stores) (said : BuildSaid) (S' : Stores) → Fits (sizes_of S) (slim_build_sizes (length T) b)
    → SlimBuilt T b seed₁ seed₃ S said S' → said ≡ taken

-- .. the eleven keys with B = 3, whose four delimiters have two handles; and rowcheck's three keys with B = 2, whose
-- two delimiters have none, so that any seed will do for them
abbrev pub SlimSeedsAreTaken : Type 0
SlimSeedsAreTaken = SlimTakesSeeds eleven 3 0 0 × ((seed : ℕ) → SlimTakesSeeds three 2 0 seed)
