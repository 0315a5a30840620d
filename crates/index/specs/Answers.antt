-- What both indexes answer, from the table and the row bytes alone: demands 2 and 3 and what rowcheck prints stand on
-- it.
use Rattle.std.specs.Prelude.{◌≡◌, cond, Some, None, List, ℕ, ◌^◌, ◌≤◌, ◌<◌, length, get_or}
use Rattle.refusals.specs.Numbers.{taken}
use Rattle.words.specs.Keys.{prefix_item}
use Rattle.cells.specs.Cells.{map_value}
use Rattle.tables.specs.Tables.{key_at, smaller}
use Rattle.tables.specs.Lengths.{handle_count}
use Rattle.stores.specs.Stores.{Stores, Seeds}
use Rattle.outcomes.specs.Outcomes.{marked}
use Rattle.callask.specs.Ask.{CallSaid, outcome, call_says}
use Rattle.splits.specs.Splits.{len}
use Rattle.walks.specs.Walk.{Walk, walk, path_walk, store_walk}
use Rattle.neighbour.specs.Ask.{NeighbourSaid, place, stands_at, neighbour_says}
use Rattle.full.specs.Build.{FullBuilt}

-- the keys have 64 bits, as every table that an entry is lent
abbrev pub Words : List ℕ → Type 0
Words keys = (i : ℕ) → i < length keys → key_at keys i < 2 ^ 64

-- x's row, which is the number of smaller keys, told by `found`; or `none` where x stands in no row
abbrev pub row_of : {A : Type 0} → (ℕ → A) → A → List ℕ → ℕ → A
row_of found none keys x = cond (stands_at keys x (smaller keys x)) (found (smaller keys x)) none

-- what a call ask says over stores, with a byte for each row
abbrev pub call_over : (keys bytes : List ℕ) → ℕ → Seeds → Stores → ℕ → CallSaid
call_over keys bytes b s S x = call_says keys bytes b s.one s.two S.cells x

-- what a neighbour ask says over stores, and the walk over them, which reads the stored lengths
abbrev pub neighbour_over : List ℕ → Stores → ℕ → ℕ → NeighbourSaid
neighbour_over keys S seed x = neighbour_says keys S.handles S.left S.right S.lengths seed x

abbrev pub walk_over : List ℕ → Stores → ℕ → ℕ → Walk
walk_over keys S seed x =
    store_walk keys x (map_value S.handles (handle_count (length keys)) seed) S.left S.right S.lengths

-- document 01's walk over the same stores, as it was before request Six: each length is worked out from the table
abbrev pub document_walk : List ℕ → Stores → ℕ → ℕ → Walk
document_walk keys S seed x =
    walk keys x (λ f. map_value S.handles (handle_count (length keys)) seed (prefix_item x f))
    (λ m. get_or S.left m 0) (λ m. get_or S.right m 0) (len keys)

-- the probes of document 01's walk
abbrev pub probes_of : List ℕ → ℕ → ℕ
probes_of keys x = length (path_walk keys x).probed

-- the call index answers every key by its row in the table and the byte of that row, whatever bytes are lent
abbrev pub CallsAnswer : List ℕ → ℕ → Seeds → Stores → Type 0
CallsAnswer keys b s S =
    (bytes : List ℕ) → length keys ≤ length bytes → (x : ℕ)
    → call_over keys bytes b s S x ≡ outcome (marked bytes (row_of Some None keys x))

-- the neighbour index answers every key by the number of smaller keys, the probes of the walk, and whether it stands
-- in the table
abbrev pub CountsAnswer : List ℕ → Seeds → Stores → Type 0
CountsAnswer keys s S =
    (x : ℕ) → neighbour_over keys S s.three x
    ≡ place (smaller keys x) (probes_of keys x) (stands_at keys x (smaller keys x))

-- stores over which both indexes answer every key as the table and the row bytes say: no seed and no cell occurs in
-- what they answer
pub record Answers (keys : List ℕ) (b : ℕ) (s : Seeds) (S : Stores) : Type 0 where
  pub calls : CallsAnswer keys b s S
  pub counts : CountsAnswer keys s S

-- an accepted build leaves such stores
abbrev pub BuildAnswers : Type 0
BuildAnswers =
    (keys : List ℕ) (b : ℕ) (s : Seeds) (S S' : Stores) → Words keys → FullBuilt keys b s S taken S'
    → Answers keys b s S'
