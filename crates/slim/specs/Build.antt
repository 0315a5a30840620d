-- Request One, with Five and Six, and document 01's "Refusal numbers and their order": the build of the slim profile,
-- what it says and what it leaves in the six stores.
use Rattle.std.specs.Prelude.{◌≡◌, List, ℕ, length}
use Rattle.refusals.specs.Numbers.{BuildSaid}
use Rattle.cells.specs.Memory.{cleared}
use Rattle.tables.specs.Delimiters.{delimiters}
use Rattle.tables.specs.Lengths.{call_work}
use Rattle.stores.specs.Stores.{Stores, sizes_of}
use Rattle.stores.specs.Judged.{judged}
use Rattle.items.specs.Items.{offset_values, handle_items}
use Rattle.jams.specs.Jam.{Jamless, LargestJam}
use Rattle.maps.specs.Built.{Filled}
use Rattle.neighbour.specs.Build.{NeighbourFilled}
use Rattle.verdicts.specs.Ended.{Ended}
use Rattle.slimstores.specs.Sizes.{slim_build_sizes}

-- the first of refusals 1 to 4 that applies, over all stores together; `taken` if none does
abbrev pub slim_judged : List ℕ → ℕ → Stores → BuildSaid
slim_judged keys b S = judged keys b (sizes_of S) (slim_build_sizes (length keys) b)

-- the first map that has a jam, 1 for the offsets and 3 for the handles, and the size of its largest jam
pub data SlimJam (keys : List ℕ) (b seed₁ seed₃ : ℕ) : (map size : ℕ) → Type 0 where
  in₁ : {size : ℕ} → LargestJam seed₁ keys size → SlimJam keys b seed₁ seed₃ 1 size
  in₃ : {size : ℕ} → Jamless seed₁ keys → LargestJam seed₃ (handle_items (delimiters b keys)) size
      → SlimJam keys b seed₁ seed₃ 3 size

-- neither has one
pub record SlimJamless (keys : List ℕ) (b seed₁ seed₃ : ℕ) : Type 0 where
  pub one : Jamless seed₁ keys
  pub three : Jamless seed₃ (handle_items (delimiters b keys))

-- what an accepted build leaves: a map on all keys whose whole value is the offset, a neighbour index over the
-- delimiters, and the work 0 over its named length
pub record SlimFilled (keys : List ℕ) (b seed₁ seed₃ : ℕ) (S S' : Stores) : Type 0 where
  pub offsets : Filled seed₁ keys (offset_values b keys) S.cells S'.cells
  pub neighbour : NeighbourFilled (delimiters b keys) seed₃ S S'
  pub work : S'.work ≡ cleared (call_work (length keys)) S.work

-- the slim build ends as every build does: refused with 1 to 4 and nothing changed, jammed and all six stores cleared,
-- or accepted with the slim profile there
abbrev pub SlimBuilt : (keys : List ℕ) (b seed₁ seed₃ : ℕ) (S : Stores) (said : BuildSaid) (S' : Stores) → Type 0
SlimBuilt keys b seed₁ seed₃ S said S' =
    Ended (slim_judged keys b S) (slim_build_sizes (length keys) b) (SlimJam keys b seed₁ seed₃)
    (SlimJamless keys b seed₁ seed₃) (SlimFilled keys b seed₁ seed₃ S) S said S'
