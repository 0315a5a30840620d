use Prim.Native.Nat.{ℕ, ◌<◌}
use Rattle.seeds.specs.Seeds.{SeedJams}
use Rattle.seeds.proofs.first_seed.Given as goal

-- every seed below this one has a jam
abbrev pub invariant-loop-seed : goal.invariant-loop-seed
invariant-loop-seed l = (s : ℕ) → s < l.seed → SeedJams l.keys l.b s
