-- What only the contracts of inner functions need: the delimiters that a value stands for.
use Rattle.std.specs.Prelude.{List, ℕ}
use Rattle.tables.specs.Delimiters.{delimiters}
use Rattle.tables.specs.declared.delimiters.Delimiters.{Delimiters}

-- the last key of each bucket
abbrev pub listing : Delimiters → List ℕ
listing d = delimiters d.b d.keys.now
