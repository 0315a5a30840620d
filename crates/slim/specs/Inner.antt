-- What only the contracts of inner functions need: what was judged before, and what the two maps leave.
use Rattle.std.specs.Prelude.{Result, List, ℕ, length}
use Rattle.refusals.specs.declared.Jam.{Jam}
use Rattle.stores.specs.Stores.{Stores}
use Rattle.verdicts.specs.Inner.{Ready, Mapped}
use Rattle.slimstores.specs.Sizes.{slim_build_sizes}
use Rattle.slim.specs.Build.{SlimJam, SlimJamless, SlimFilled}

-- refusals 1 to 4 do not apply
abbrev pub SlimReady : List ℕ → ℕ → Stores → Type 0
SlimReady keys b S = Ready keys b (slim_build_sizes (length keys) b) S

-- both maps are built, or one is the first that has a jam
abbrev pub MapsBuilt : (keys : List ℕ) (b seed₁ seed₃ : ℕ) → Stores → Result (Unit {0}) Jam → Stores → Type 0
MapsBuilt keys b seed₁ seed₃ S maps S' =
    Mapped (slim_build_sizes (length keys) b) (SlimJam keys b seed₁ seed₃) (SlimJamless keys b seed₁ seed₃)
    (SlimFilled keys b seed₁ seed₃ S) S maps S'
