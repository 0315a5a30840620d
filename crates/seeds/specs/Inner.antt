-- What inner functions leave.
use Rattle.std.specs.Prelude.{◌≡◌, List, ◌⊎◌, Result, Ok, Err, ℕ, ◌<◌, ◌≤◌}
use Rattle.refusals.specs.Numbers.{number}
use Rattle.refusals.specs.declared.Unbuilt.{Unbuilt}
use Rattle.refusals.specs.declared.Unbuilt.TheVariants.{Refused, Jammed}
use Rattle.tables.specs.Tables.{Table, first_fall}
use Rattle.stores.specs.Stores.{Stores, same}
use Rattle.full.specs.Build.{FirstJam}
use Rattle.index.specs.Answers.{Answers}
use Rattle.seeds.specs.Seeds.{SeedJams, SeedTaken}

-- the number k of a table's refusal, whatever the seed: 2, then 3
pub data Refuses (keys : List ℕ) (b k : ℕ) : Type 0 where
  bad_bucket : (b < 2) ⊎ (256 < b) → k ≡ 2 → Refuses keys b k
  falling : 2 ≤ b → b ≤ 256 → 0 < first_fall keys → k ≡ 3 → Refuses keys b k

-- a seed that is taken, with stores that answer
pub record Took (keys : List ℕ) (b seed : ℕ) (S : Stores) : Type 0 where
  pub two : 2 ≤ b
  pub most : b ≤ 256
  pub table : Table keys
  pub taken : SeedTaken keys b seed
  pub answers : Answers keys b (same seed) S

-- a seed that jams: this map is the first, and its largest jam has this size
pub record Jams (keys : List ℕ) (b seed map size : ℕ) : Type 0 where
  pub two : 2 ≤ b
  pub most : b ≤ 256
  pub table : Table keys
  pub first : FirstJam keys b (same seed) map size

-- what the build says of a seed
unfoldable pub SeedTried : List ℕ → ℕ → ℕ → Stores → Result (Unit {0}) Unbuilt → Type 0
SeedTried keys b seed S (Ok done) = Took keys b seed S
SeedTried keys b seed S (Err (Refused f)) = Refuses keys b (number f)
SeedTried keys b seed S (Err (Jammed j)) = Jams keys b seed j.map j.size

-- the first of the seeds 0 to 255 that is taken; or the table is refused; or all of them jam, the last with this map and
-- this size
unfoldable pub Chose : List ℕ → ℕ → Stores → Result ℕ Unbuilt → Type 0
Chose keys b S (Ok seed) = (seed < 256) × ((s : ℕ) → s < seed → SeedJams keys b s) × Took keys b seed S
Chose keys b S (Err (Refused f)) = Refuses keys b (number f)
Chose keys b S (Err (Jammed j)) =
    ((s : ℕ) → s < 255 → SeedJams keys b s) × Jams keys b 255 j.map j.size
