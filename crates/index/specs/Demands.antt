-- The customer's demands on the build and the asks, in his order. proofs/{Demands,Telling} prove them. What is said of
-- any index or any rising list here is said of the slim profile in specs/Slim.
use Rattle.std.specs.Prelude.{◌≡◌, Bool, true, List, ◌⊎◌, ◌↔◌, ℕ, ◌-◌, ◌^◌, ◌≤◌, ◌<◌, length, get_or}
use Rattle.refusals.specs.Numbers.{BuildSaid, taken, jammed, number_said, jam_said}
use Rattle.words.specs.Keys.{shared_bits}
use Rattle.words.specs.Fat.{binary_digits}
use Rattle.tables.specs.Tables.{key_at, smaller, shared_by_all}
use Rattle.stores.specs.Stores.{Stores, Seeds}
use Rattle.items.specs.Items.{prefix_items, handle_items}
use Rattle.jams.specs.Jam.{Jammed, LargestJam}
use Rattle.outcomes.specs.Outcomes.{Told, planned, withdrawn, absent}
use Rattle.callask.specs.Ask.{outcome}
use Rattle.walks.specs.Walk.{path_walk}
use Rattle.neighbour.specs.Ask.{place}
use Rattle.full.specs.Build.{full_judged, FullBuilt}
use Rattle.index.specs.Answers.{Words, call_over, neighbour_over, walk_over, document_walk}

-- x stands in no row
abbrev pub NotIn : ℕ → List ℕ → Type 0
NotIn x keys = (r : ℕ) → r < length keys → key_at keys r ≡ x → ⊥

-- a build names a map in refusal 5, whatever the size of its jam
abbrev pub Names : BuildSaid → ℕ → Type 0
Names said map = (size : ℕ) × (said ≡ jammed map size)

-- Demand 1: where nothing else is refused, the build refuses a seed exactly when some nonempty set of one map's items
-- touches no cell just once, and names the first map of 1, 2, 3 that has such a set
abbrev pub BuildRefusesJams : Type 0
BuildRefusesJams =
    (keys : List ℕ) (b : ℕ) (s : Seeds) (S : Stores) (said : BuildSaid) (S' : Stores) → FullBuilt keys b s S said S'
    → full_judged keys b S ≡ taken
    → (Names said 1 ↔ Jammed s.one keys)
    × (Names said 2 ↔ ((Jammed s.one keys → ⊥) × Jammed s.two (prefix_items b keys)))
    × (Names said 3 ↔ ((Jammed s.one keys → ⊥) × (Jammed s.two (prefix_items b keys) → ⊥)
    × Jammed s.three (handle_items keys)))
    × ((said ≡ taken) ↔ ((Jammed s.one keys → ⊥) × (Jammed s.two (prefix_items b keys) → ⊥)
    × (Jammed s.three (handle_items keys) → ⊥)))

-- Request Five: whatever the build is handed, the number that it reports is the size of the largest jam of the map that
-- it names, of 1, 2 and 3, in refusal 5; it is above 0 exactly then, and 0 with no jam
abbrev pub SizeIsTheLargest : Type 0
SizeIsTheLargest =
    (keys : List ℕ) (b : ℕ) (s : Seeds) (S : Stores) (said : BuildSaid) (S' : Stores) → FullBuilt keys b s S said S'
    → (Names said 1 → LargestJam s.one keys (jam_said said))
    × (Names said 2 → LargestJam s.two (prefix_items b keys) (jam_said said))
    × (Names said 3 → LargestJam s.three (handle_items keys) (jam_said said))
    × ((number_said said ≡ 5) ↔ (Names said 1 ⊎ (Names said 2 ⊎ Names said 3)))
    × ((0 < jam_said said) ↔ (number_said said ≡ 5))

-- Demand 2, as request Eight reads it, of an ask on x, where `says` holds of the outcome that it tells: it gives a row
-- as planned exactly if x stands there and the row's byte is zero, as withdrawn exactly if x stands there and the byte
-- isn't zero; and x is absent exactly if it stands in no row
pub record Tells (keys bytes : List ℕ) (x : ℕ) (says : Told → Type 0) : Type 0 where
  pub as_planned : (r : ℕ)
      → says (planned r) ↔ ((r < length keys) × (key_at keys r ≡ x) × (get_or bytes r 0 ≡ 0))
  pub as_withdrawn : (r : ℕ)
      → says (withdrawn r) ↔ ((r < length keys) × (key_at keys r ≡ x) × (get_or bytes r 0 ≡ 0 → ⊥))
  pub as_absent : says absent ↔ NotIn x keys

-- what the call index tells of x over stores
abbrev pub CallTold : (keys bytes : List ℕ) → ℕ → Seeds → Stores → ℕ → Told → Type 0
CallTold keys bytes b s S x t = call_over keys bytes b s S x ≡ outcome t

-- so it is after an accepted build, asked with its own inputs and any byte for each row: the build has not seen the
-- bytes, and they may be others at each ask
abbrev pub CallTells : Type 0
CallTells =
    (keys : List ℕ) (b : ℕ) (s : Seeds) (S S' : Stores) → Words keys → FullBuilt keys b s S taken S'
    → (bytes : List ℕ) → length keys ≤ length bytes → (x : ℕ) → x < 2 ^ 64
    → Tells keys bytes x (CallTold keys bytes b s S' x)

-- where no run is withdrawn, a planned key gets its sorted row ..
abbrev pub PlannedGetsItsRow : Type 0
PlannedGetsItsRow =
    (keys : List ℕ) (b : ℕ) (s : Seeds) (S S' : Stores) → Words keys → FullBuilt keys b s S taken S'
    → (bytes : List ℕ) → length keys ≤ length bytes → ((r : ℕ) → r < length keys → get_or bytes r 0 ≡ 0)
    → (r : ℕ) → r < length keys → CallTold keys bytes b s S' (key_at keys r) (planned r)

-- .. 0 for the smallest: the row of a key, withdrawn or not, is the number of smaller keys
abbrev pub RowsAreSorted : Type 0
RowsAreSorted =
    (keys : List ℕ) (b : ℕ) (s : Seeds) (S S' : Stores) → Words keys → FullBuilt keys b s S taken S'
    → (r : ℕ) → r < length keys → smaller keys (key_at keys r) ≡ r

-- .. and, whatever the bytes, every other 64-bit key is reported absent
abbrev pub OthersAreAbsent : Type 0
OthersAreAbsent =
    (keys : List ℕ) (b : ℕ) (s : Seeds) (S S' : Stores) → FullBuilt keys b s S taken S'
    → (bytes : List ℕ) → length keys ≤ length bytes
    → (x : ℕ) → x < 2 ^ 64 → NotIn x keys → CallTold keys bytes b s S' x absent

-- a row is told, one way or the other
abbrev pub InRow : (Told → Type 0) → ℕ → Type 0
InRow says r = says (planned r) ⊎ says (withdrawn r)

-- whatever the table and the stores hold, a row is told only of the one key that stands there; so after an accepted
-- build rows and keys correspond one to one
abbrev pub OneKeyForEachRow : Type 0
OneKeyForEachRow =
    (keys bytes : List ℕ) (b : ℕ) (s : Seeds) (S : Stores) (x r : ℕ) → InRow (CallTold keys bytes b s S x) r
    → (r < length keys) × (key_at keys r ≡ x)

-- a row is told of x, as withdrawn exactly if its byte isn't zero
abbrev pub ByItsByte : List ℕ → (Told → Type 0) → ℕ → Type 0
ByItsByte bytes says r = InRow says r × (says (withdrawn r) ↔ (get_or bytes r 0 ≡ 0 → ⊥))

-- a withdrawn key keeps its row: whatever the table and the stores hold, a key that was told in a row stays in it under
-- any other n bytes or more, and is told as withdrawn exactly if the byte there isn't zero
abbrev pub WithdrawnKeepsItsRow : Type 0
WithdrawnKeepsItsRow =
    (keys bytes bytes' : List ℕ) (b : ℕ) (s : Seeds) (S : Stores) (x r : ℕ)
    → InRow (CallTold keys bytes b s S x) r → length keys ≤ length bytes'
    → ByItsByte bytes' (CallTold keys bytes' b s S x) r

-- monotone hashing, as Belazzougui, Boldi, Pagh and Vigna define it: the rows of the keys, withdrawn or not, keep their
-- order
abbrev pub Monotone : Type 0
Monotone =
    (keys : List ℕ) (b : ℕ) (s : Seeds) (S S' : Stores) → Words keys → FullBuilt keys b s S taken S'
    → (bytes bytes' : List ℕ) (x y i j : ℕ) → InRow (CallTold keys bytes b s S' x) i
    → InRow (CallTold keys bytes' b s S' y) j → (x < y) ↔ (i < j)

-- Demand 3, of a search for x over stores and the rising list T that is its table, where `says` holds of the number
-- before, the probe count and whether x stands in T that it gives: it gives the exact number of smaller keys of T; the
-- reported count is the number of probes in document 01's walk over those stores; and with L the leading bits that all
-- keys of T share it is at most the number of binary digits of 63 - L, which is six at most
pub record Searched (T : List ℕ) (seed : ℕ) (S : Stores) (x : ℕ) (says : (before probes : ℕ) → Bool → Type 0)
    (probes : ℕ) (stands : Bool) : Type 0 where
  pub exact : says (smaller T x) probes stands
  pub counted : probes ≡ length (document_walk T S seed x).probed
  pub few : probes ≤ binary_digits (63 - shared_by_all T)
  pub six : binary_digits (63 - shared_by_all T) ≤ 6
  pub where_it_stands : (stands ≡ true) ↔ ((r : ℕ) × (r < length T) × (key_at T r ≡ x))

-- so it is over the stores that an accepted build left for a table of two or more keys, for any 64-bit key
abbrev pub SearchIsExact : Type 0
SearchIsExact =
    (keys : List ℕ) (b : ℕ) (s : Seeds) (S S' : Stores) → Words keys → 2 ≤ length keys → FullBuilt keys b s S taken S'
    → (x : ℕ) → x < 2 ^ 64
    → (probes : ℕ) × ((stands : Bool)
    × Searched keys s.three S' x (λ c p t. neighbour_over keys S' s.three x ≡ place c p t) probes stands)

-- the walk over stores is the walk over the table T alone: the same lengths probed, the same node, the same answer
abbrev pub WalksByTable : List ℕ → ℕ → Stores → Type 0
WalksByTable T seed S = (x : ℕ) → walk_over T S seed x ≡ path_walk T x

-- so it is after an accepted build
abbrev pub WalksAgree : Type 0
WalksAgree =
    (keys : List ℕ) (b : ℕ) (s : Seeds) (S S' : Stores) → Words keys → FullBuilt keys b s S taken S'
    → WalksByTable keys s.three S'

-- and whatever the stores hold, no search reports more than six probes
abbrev pub SixAtMost : Type 0
SixAtMost =
    (keys : List ℕ) (seed : ℕ) (S : Stores) (x before probes : ℕ) (stands : Bool)
    → neighbour_over keys S seed x ≡ place before probes stands → probes ≤ 6

-- Request Six: the stored lengths are true to the table T: entry 0 is 0, and entry m is the number of leading bits that
-- rows m - 1 and m share
abbrev pub TrueTo : List ℕ → Stores → Type 0
TrueTo T S =
    (0 < length T → get_or S.lengths 0 0 ≡ 0)
    × ((m : ℕ) → 0 < m → m < length T → get_or S.lengths m 0 ≡ shared_bits (key_at T (m - 1)) (key_at T m))

-- so they are where a build accepts
abbrev pub LengthsAreTrue : Type 0
LengthsAreTrue =
    (keys : List ℕ) (b : ℕ) (s : Seeds) (S S' : Stores) → FullBuilt keys b s S taken S' → TrueTo keys S'

-- and the walk that reads them is the walk that works each length out from the table: the same lengths probed, the same
-- node, the same answer
abbrev pub WalksUnchanged : List ℕ → ℕ → Stores → Type 0
WalksUnchanged T seed S = (x : ℕ) → walk_over T S seed x ≡ document_walk T S seed x

abbrev pub WalkIsUnchanged : Type 0
WalkIsUnchanged =
    (keys : List ℕ) (b : ℕ) (s : Seeds) (S S' : Stores) → FullBuilt keys b s S taken S'
    → WalksUnchanged keys s.three S'
