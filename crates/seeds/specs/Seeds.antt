-- Document 01, "`rowcheck`", and requests Seven and Five: the seeds that a table takes, the same for all maps.
use Rattle.std.specs.Prelude.{List, ℕ}
use Rattle.stores.specs.Stores.{same}
use Rattle.full.specs.Build.{FirstJam, NoJams}

-- a seed is refused if one of the three maps has a jam: there is a first one, and its largest jam has some size; it is
-- taken if none has
abbrev pub SeedJams : List ℕ → ℕ → ℕ → Type 0
SeedJams keys b seed = (map : ℕ) × ((size : ℕ) × FirstJam keys b (same seed) map size)

abbrev pub SeedTaken : List ℕ → ℕ → ℕ → Type 0
SeedTaken keys b seed = NoJams keys b (same seed)
