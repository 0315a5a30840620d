-- Document 01, "Static maps": the cells that items touch, and jams.
--
-- Items are known by their numbers 0 to t - 1, and `e j i` is the cell that item i touches in segment j. A set of the
-- items is a test: item i is in it if `s i ≡ true`.
use Rattle.std.specs.Prelude.{◌≡◌, Bool, true, cond, List, ◌⊎◌, ℕ, zero, suc, ◌<◌, length, get_or}
use Rattle.words.specs.Mix.{item_hash}
use Rattle.cells.specs.Cells.{segment, cell_of}

-- item i touches cell c
abbrev pub Touches : (ℕ → ℕ → ℕ) → ℕ → ℕ → Type 0
Touches e i c = (e 0 i ≡ c) ⊎ ((e 1 i ≡ c) ⊎ (e 2 i ≡ c))

-- a jam: a nonempty set of the items in which every cell touched is touched by at least two of the set
pub record Jam (e : ℕ → ℕ → ℕ) (t : ℕ) (s : ℕ → Bool) : Type 0 where
  pub some : (i : ℕ) × (i < t) × (s i ≡ true)
  pub twice : (i c : ℕ) → i < t → s i ≡ true → Touches e i c
      → (j : ℕ) × (j < t) × (s j ≡ true) × Touches e j c × (j ≡ i → ⊥)

-- the items hold no jam
abbrev pub NoJam : (ℕ → ℕ → ℕ) → ℕ → Type 0
NoJam e t = (s : ℕ → Bool) → Jam e t s → ⊥

-- the largest jam: a jam that holds every jam
pub record Largest (e : ℕ → ℕ → ℕ) (t : ℕ) (s : ℕ → Bool) : Type 0 where
  pub jam : Jam e t s
  pub all : (s' : ℕ → Bool) → Jam e t s' → (i : ℕ) → i < t → s' i ≡ true → s i ≡ true

-- the size of a set: how many of the numbers below t are in it
unfoldable pub size_of : (ℕ → Bool) → ℕ → ℕ
size_of s zero = zero
size_of s (suc t) = cond (s t) (suc (size_of s t)) (size_of s t)

-- the cell that item i of a list touches in segment j, under a seed
abbrev pub touch : ℕ → List ℕ → ℕ → ℕ → ℕ
touch seed items j i = cell_of (segment (length items)) j (item_hash (get_or items i 0) seed)

-- the items hold a jam under the seed
abbrev pub Jammed : ℕ → List ℕ → Type 0
Jammed seed items = (s : ℕ → Bool) × Jam (touch seed items) (length items) s

-- the items hold no jam under the seed
abbrev pub Jamless : ℕ → List ℕ → Type 0
Jamless seed items = NoJam (touch seed items) (length items)

-- the items hold a largest jam under the seed, and it has so many items
abbrev pub LargestJam : ℕ → List ℕ → ℕ → Type 0
LargestJam seed items size =
    (s : ℕ → Bool) × Largest (touch seed items) (length items) s × (size_of s (length items) ≡ size)
