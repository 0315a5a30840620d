-- Document 01, "The eleven-key table": the worked cases (1) to (10), in one list. proofs/Worked.antt proves them
-- together.
use Rattle.std.specs.Prelude.{◌≡◌, Bool, true, false, List, [], ◌∷◌, map, ℕ, ◌*◌, ◌^◌, length}
use Rattle.refusals.specs.Numbers.{BuildSaid, taken}
use Rattle.tables.specs.Tables.{key_at}
use Rattle.tables.specs.Buckets.{bucket_length}
use Rattle.stores.specs.Sizes.{Fits, full_sizes}
use Rattle.stores.specs.Stores.{Stores, Seeds, seeds, sizes_of}
use Rattle.splits.specs.Splits.{len, left, right, root, handle_len}
use Rattle.neighbour.specs.Ask.{place}
use Rattle.full.specs.Build.{FullBuilt}
use Rattle.index.specs.Answers.{neighbour_over, walk_over}

-- source 000, figure 1: 13-bit strings, each moved to the top of a key
abbrev pub eleven : List ℕ
eleven = map (λ s. s * 2 ^ 51)
    (0b0001001000000 ∷ 0b0010010101100 ∷ 0b0010010101110 ∷ 0b0010011000000 ∷ 0b0010011001000 ∷ 0b0010011010010
    ∷ 0b0010011010100 ∷ 0b0010011010101 ∷ 0b0010011010110 ∷ 0b0010011110110 ∷ 0b0100100010000 ∷ [])

-- the table of the example of rowcheck
abbrev pub three : List ℕ
three = 2 ∷ 3 ∷ 8 ∷ []

-- what is said of every store that an accepted build left for a table, with any bucket size and any seeds
abbrev pub AfterBuild : List ℕ → (ℕ → Stores → Type 0) → Type 0
AfterBuild T says = (b : ℕ) (s : Seeds) (S S' : Stores) → FullBuilt T b s S taken S' → says s.three S'

-- asking x gives so many before, with so many probes
abbrev pub Gives : List ℕ → ℕ → ℕ → ℕ → Bool → Type 0
Gives T x before probes stands =
    AfterBuild T (λ seed S. neighbour_over T S seed x ≡ place before probes stands)

-- asking x probes these lengths
abbrev pub ProbesAt : List ℕ → ℕ → List ℕ → Type 0
ProbesAt T x lengths =
    AfterBuild T (λ seed S. (walk_over T S seed x).probed ≡ lengths)

-- a build with this bucket size, these seeds and stores of the named lengths takes the table: its statement allows no other
-- answer
abbrev pub TakesSeeds : List ℕ → ℕ → Seeds → Type 0
TakesSeeds T b s =
    (S : Stores) (said : BuildSaid) (S' : Stores) → Fits (sizes_of S) (full_sizes (length T) b)
    → FullBuilt T b s S said S' → said ≡ taken

-- so there are stores that (6) speaks of: seed 0 is taken for all maps; and such that (7) to (10) speak of: with it for
-- maps 1 and 2 every seed of map 3 is, since one item never jams
abbrev pub SeedsAreTaken : Type 0
SeedsAreTaken = TakesSeeds eleven 3 (seeds 0 0 0) × ((seed : ℕ) → TakesSeeds three 2 (seeds 0 0 seed))

-- (1) bucket lengths for B = 3, (2) len of the splits, (3) the root, (4) handle lengths, (5) split 6 covers rows 5 to
-- 8, (6) asking row 6's key, (7) to (10) the four asks of the example of rowcheck
unfoldable pub worked : List (Type 0)
worked =
    (map (bucket_length 3 eleven) (0 ∷ 1 ∷ 2 ∷ 3 ∷ []) ≡ 2 ∷ 8 ∷ 11 ∷ 1 ∷ [])
    ∷
    (map (len eleven) (1 ∷ 2 ∷ 3 ∷ 4 ∷ 5 ∷ 6 ∷ 7 ∷ 8 ∷ 9 ∷ 10 ∷ []) ≡ 2 ∷ 11 ∷ 6 ∷ 9 ∷ 8 ∷ 10 ∷ 12 ∷ 11 ∷ 7 ∷ 1 ∷ [])
    ∷ (root eleven ≡ 10)
    ∷
    (map (handle_len eleven) (1 ∷ 2 ∷ 3 ∷ 4 ∷ 5 ∷ 6 ∷ 7 ∷ 8 ∷ 9 ∷ []) ≡ 2 ∷ 8 ∷ 4 ∷ 9 ∷ 8 ∷ 10 ∷ 12 ∷ 11 ∷ 7 ∷ [])
    ∷ ((left eleven 6 ≡ 5) × (right eleven 6 ≡ 9))
    ∷
    (ProbesAt eleven (key_at eleven 6) (32 ∷ 16 ∷ 8 ∷ 12 ∷ 14 ∷ 13 ∷ []) × Gives eleven (key_at eleven 6) 6 6 true)
    ∷ Gives three 3 1 1 true
    ∷ Gives three 9 3 2 false
    ∷ Gives three 16 3 0 false
    ∷ Gives three 0 0 2 false
    ∷ []

-- all of a list of statements hold
abbrev pub AllHold : List (Type 0) → Type 0
AllHold [] = Unit {0}
AllHold (statement ∷ rest) = statement × AllHold rest
