-- What only the contracts of inner functions need: what was judged before, and what the three maps leave.
use Rattle.std.specs.Prelude.{Result, List, ℕ, length}
use Rattle.refusals.specs.declared.Jam.{Jam}
use Rattle.stores.specs.Sizes.{full_sizes}
use Rattle.stores.specs.Stores.{Stores, Seeds}
use Rattle.verdicts.specs.Inner.{Ready, Mapped}
use Rattle.full.specs.Build.{FirstJam, NoJams, FullFilled}

-- refusals 1 to 4 do not apply
abbrev pub FullReady : List ℕ → ℕ → Stores → Type 0
FullReady keys b S = Ready keys b (full_sizes (length keys) b) S

-- all three maps are built, or one is the first that has a jam
abbrev pub MapsBuilt : List ℕ → ℕ → Seeds → Stores → Result (Unit {0}) Jam → Stores → Type 0
MapsBuilt keys b s S maps S' =
    Mapped (full_sizes (length keys) b) (FirstJam keys b s) (NoJams keys b s) (FullFilled keys b s S) S maps S'
