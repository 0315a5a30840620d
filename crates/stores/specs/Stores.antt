-- What a build is lent and an ask reads, as one value. Every theorem on builds is over it; Inner says what the code's
-- own value of lent slices holds.
use Rattle.std.specs.Prelude.{List, [], ℕ, length}
use Rattle.cells.specs.Memory.{cleared}
use Rattle.stores.specs.declared.Sizes.{Sizes}

-- stores 1 to 6, the first of which holds the call cells or, in the slim profile, the offset cells; the lengths are
-- bytes. The row bytes, store 7, stand beside the table
pub record Stores : Type 0 where
  pub cells : List ℕ
  pub handles : List ℕ
  pub left : List ℕ
  pub right : List ℕ
  pub work : List ℕ
  pub lengths : List ℕ

abbrev pub lent : (cells handles left right work lengths : List ℕ) → Stores
lent c h l r w m = record { cells = c; handles = h; left = l; right = r; work = w; lengths = m }

-- what the asks read: no work
abbrev pub asked : (cells handles left right lengths : List ℕ) → Stores
asked c h l r m = lent c h l r [] m

-- the seeds of maps 1, 2 and 3
pub record Seeds : Type 0 where
  pub one : ℕ
  pub two : ℕ
  pub three : ℕ

abbrev pub seeds : (one two three : ℕ) → Seeds
seeds s t u = record { one = s; two = t; three = u }

-- one seed for all maps
abbrev pub same : ℕ → Seeds
same s = seeds s s s

-- how long they are, with the row bytes beside the table
abbrev pub sizes_beside : Stores → (bytes : List ℕ) → Sizes
sizes_beside S bytes = record {
  cells = length S.cells;
  handles = length S.handles;
  left = length S.left;
  right = length S.right;
  work = length S.work;
  lengths = length S.lengths;
  bytes = length bytes;
}

-- a build, and the neighbour ask, are lent none
abbrev pub sizes_of : Stores → Sizes
sizes_of S = sizes_beside S []

-- all of them 0 over the lengths w, and beyond as they were
abbrev pub cleared_stores : Sizes → Stores → Stores
cleared_stores w S =
    lent (cleared w.cells S.cells) (cleared w.handles S.handles) (cleared w.left S.left)
    (cleared w.right S.right) (cleared w.work S.work) (cleared w.lengths S.lengths)
