-- What a build leaves in lent memory over a named length.
use Rattle.std.specs.Prelude.{List, ◌++◌, ℕ, replicate, drop}

-- the first m entries 0, the others as they were
abbrev pub cleared : ℕ → List ℕ → List ℕ
cleared m xs = replicate m 0 ++ drop m xs
