-- How many keys the programs take of a table at most (docs/VECTORS.md): the keys of `bits` end, and no program takes more
-- than 65,535 of another.
use Rattle.std.specs.Prelude.{ℕ}
use Rattle.samples.specs.declared.table.Sample.{Sample}
use Rattle.samples.specs.declared.table.Sample.TheVariants.{Sequential, Spread, Clustered, Bits}

abbrev pub most_keys : Sample → ℕ
most_keys Sequential = 65535
most_keys Spread = 65535
most_keys Clustered = 65535
most_keys Bits = 65
