-- What only the contracts of inner functions need: the stores that probes read, and the state of the walk between
-- probes.
use Rattle.std.specs.Prelude.{◌≡◌, ℕ, ◌+◌, ◌<◌, cond, List, length}
use Rattle.words.specs.Keys.{prefix_item}
use Rattle.cells.specs.Cells.{map_value}
use Rattle.tables.specs.Inner.{listing}
use Rattle.tables.specs.Lengths.{handle_count}
use Rattle.splits.specs.Inner.{SplitOf}
use Rattle.walks.specs.Walk.{probe_at, accepted, stored_length, descend}
use Rattle.descent.specs.declared.search.Search.{Search}
use Rattle.descent.specs.declared.State.{State}
use Rattle.descent.specs.declared.Descended.{Descended}

-- what map 3 says of the first f bits of x
abbrev pub handle_value : Search → ℕ → ℕ → ℕ
handle_value s x f = map_value s.handles.now (handle_count (length (listing s.rows))) s.seed (prefix_item x f)

-- the lengths of the splits, as they are stored
abbrev pub lens_in : Search → ℕ → ℕ
lens_in s = stored_length s.lengths.now

-- the node of a walk is a split, and lower its length
pub record Node (T : List ℕ) (lens : ℕ → ℕ) (node lower : ℕ) : Type 0 where
  pub split : SplitOf T node
  pub is : lower ≡ lens node
  pub short : lower < 64

-- the state after one probe from a node below upper, where last is upper less 1
pub record Stepped (T : List ℕ) (lens : ℕ → ℕ) (x : ℕ) (find : ℕ → ℕ) (node upper : ℕ) (s : State) : Type 0 where
  pub node_is : let f = probe_at (lens node) upper in
      s.node ≡ cond (accepted T lens x f upper (find f)) (find f) node
  pub upper_is : let f = probe_at (lens node) upper in
      s.last + 1 ≡ cond (accepted T lens x f upper (find f)) upper f
  pub lower_is : s.lower ≡ lens s.node

-- where the probes from a root end
pub record Reached (T : List ℕ) (lens : ℕ → ℕ) (x : ℕ) (find : ℕ → ℕ) (root : ℕ) (d : Descended) : Type 0 where
  pub node_is : d.node ≡ (descend T lens x find 64 root 64).node
  pub probes_is : d.probes ≡ length (descend T lens x find 64 root 64).probed
  pub pos : 0 < d.node
  pub small : d.node < length T
  pub lower_is : d.lower ≡ lens d.node
  pub short : d.lower < 64
