-- What only the contracts of inner functions need: the items and the values that a source stands for.
use Rattle.std.specs.Prelude.{List, ℕ}
use Rattle.items.specs.Items.{items_of, values_of}
use Rattle.items.specs.declared.source.Source.{Source}

-- the items of its map
abbrev pub items_in : Source → List ℕ
items_in s = items_of s.which s.rows.b s.rows.keys.now

-- and their values
abbrev pub values_in : Source → List ℕ
values_in s = values_of s.which s.rows.b s.rows.keys.now
