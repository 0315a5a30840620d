-- What only the contracts of inner functions need: a split of a list, and stores while they are written.
use Rattle.std.specs.Prelude.{◌≡◌, Bool, ◌&&◌, List, ℕ, ◌≤◌, ◌<◌, leb, ltb, length, get_or}
use Rattle.tables.specs.Tables.{Table}
use Rattle.splits.specs.Splits.{len, left_entry, right_entry}

-- m is a split of the list T
pub record SplitOf (T : List ℕ) (m : ℕ) : Type 0 where
  pub pos : 0 < m
  pub small : m < length T

-- the list rises, and m is a split of it
pub record Rising (T : List ℕ) (m : ℕ) : Type 0 where
  pub table : Table T
  pub split : SplitOf T m

-- the store holds the entries from lo up to, not including, hi
pub record Holds (entry : ℕ → ℕ) (lo hi : ℕ) (store : List ℕ) : Type 0 where
  pub room : hi ≤ length store
  pub entries : (i : ℕ) → lo ≤ i → i < hi → get_or store i 0 ≡ entry i

-- the stores hold the bounds of split m
pub record Bounded (T lefts rights : List ℕ) (m : ℕ) : Type 0 where
  pub rising : Rising T m
  pub left_room : m < length lefts
  pub right_room : m < length rights
  pub left_is : get_or lefts m 0 ≡ left_entry T m
  pub right_is : get_or rights m 0 ≡ right_entry T m

-- the list rises, and both stores have an entry for each of its keys
pub record Roomy (T lefts rights : List ℕ) : Type 0 where
  pub table : Table T
  pub left_room : length T ≤ length lefts
  pub right_room : length T ≤ length rights

-- row j is a split with a string of l bits or more
abbrev pub goes_on : List ℕ → ℕ → ℕ → Bool
goes_on T j l = leb 1 j && (ltb j (length T) && leb l (len T j))

-- `new` holds entry i at each i from lo up to, not including, hi, and is as `old` elsewhere
pub record Wrote (lo hi : ℕ) (entry : ℕ → ℕ) (old new : List ℕ) : Type 0 where
  pub entries : (i : ℕ) → lo ≤ i → i < hi → get_or new i 0 ≡ entry i
  pub below : (i : ℕ) → i < lo → get_or new i 0 ≡ get_or old i 0
  pub beyond : (i : ℕ) → hi ≤ i → get_or new i 0 ≡ get_or old i 0
