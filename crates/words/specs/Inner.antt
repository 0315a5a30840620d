-- What only inner functions' contracts need: the hash of an item in two steps, so that a build mixes its seed once,
-- and reciprocals, so that it divides once for a map.
use Rattle.std.specs.Prelude.{ℕ, ◌+◌, ◌*◌, ◌%◌, ◌^◌, ◌<◌, ◌≤◌}
use Rattle.words.specs.Mix.{mix_of}

-- the seed as it is added to each item of a map
abbrev pub mixed_seed : ℕ → ℕ
mixed_seed seed = mix_of ((seed + 0x9E3779B97F4A7C15) % 2 ^ 64)

-- the hash of an item under a mixed seed: `item_hash item seed` is `mixed_hash item (mixed_seed seed)`
abbrev pub mixed_hash : ℕ → ℕ → ℕ
mixed_hash item mixed = mix_of ((item + mixed) % 2 ^ 64)

-- r is how often m goes into a word: (2 ^ 64 - 1) / m
pub record Reciprocal (m r : ℕ) : Type 0 where
  pub within : r * m < 2 ^ 64
  pub most : 2 ^ 64 ≤ r * m + m
