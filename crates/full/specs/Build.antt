-- Requests Seven, Five and Six, with document 01's "Refusal numbers and their order": one build of both indexes, what
-- it says and what it leaves in the six stores.
use Rattle.std.specs.Prelude.{◌≡◌, List, ℕ, length}
use Rattle.refusals.specs.Numbers.{BuildSaid}
use Rattle.cells.specs.Memory.{cleared}
use Rattle.tables.specs.Lengths.{call_work}
use Rattle.stores.specs.Sizes.{full_sizes}
use Rattle.stores.specs.Stores.{Stores, Seeds, sizes_of}
use Rattle.stores.specs.Judged.{judged}
use Rattle.items.specs.Items.{prefix_items, handle_items}
use Rattle.jams.specs.Jam.{Jamless, LargestJam}
use Rattle.call.specs.Build.{CallFilled}
use Rattle.neighbour.specs.Build.{NeighbourFilled}
use Rattle.verdicts.specs.Ended.{Ended}

-- the first of refusals 1 to 4 that applies, over all stores together; `taken` if none does
abbrev pub full_judged : List ℕ → ℕ → Stores → BuildSaid
full_judged keys b S = judged keys b (sizes_of S) (full_sizes (length keys) b)

-- the first map of 1, 2, 3 that has a jam, and the size of its largest jam
pub data FirstJam (keys : List ℕ) (b : ℕ) (s : Seeds) : (map size : ℕ) → Type 0 where
  in₁ : {size : ℕ} → LargestJam s.one keys size → FirstJam keys b s 1 size
  in₂ : {size : ℕ} → Jamless s.one keys → LargestJam s.two (prefix_items b keys) size → FirstJam keys b s 2 size
  in₃ : {size : ℕ} → Jamless s.one keys → Jamless s.two (prefix_items b keys)
      → LargestJam s.three (handle_items keys) size → FirstJam keys b s 3 size

-- none of them has one
pub record NoJams (keys : List ℕ) (b : ℕ) (s : Seeds) : Type 0 where
  pub one : Jamless s.one keys
  pub two : Jamless s.two (prefix_items b keys)
  pub three : Jamless s.three (handle_items keys)

-- what an accepted build leaves: both indexes, and the work 0 over its named length
pub record FullFilled (keys : List ℕ) (b : ℕ) (s : Seeds) (S S' : Stores) : Type 0 where
  pub call : CallFilled keys b s.one s.two S.cells S'.cells
  pub neighbour : NeighbourFilled keys s.three S S'
  pub work : S'.work ≡ cleared (call_work (length keys)) S.work

-- the full build ends as every build does: refused with 1 to 4 and nothing changed, jammed and all six stores cleared,
-- or accepted with both indexes there
abbrev pub FullBuilt : (keys : List ℕ) (b : ℕ) (s : Seeds) (S : Stores) (said : BuildSaid) (S' : Stores) → Type 0
FullBuilt keys b s S said S' =
    Ended (full_judged keys b S) (full_sizes (length keys) b) (FirstJam keys b s) (NoJams keys b s)
    (FullFilled keys b s S) S said S'
