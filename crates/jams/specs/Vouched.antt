-- Why the definitions may be believed: what the demands, document 01 and request Five say of jams beside them, each
-- proved as exactly this type: what is said of two jams together, of a largest jam being there and of its size in
-- proofs/Largest, the others in proofs/Jams.
use Rattle.std.specs.Prelude.{◌≡◌, Bool, true, ◌||◌, List, ◌↔◌, ℕ, ◌≤◌, ◌<◌, length}
use Rattle.jams.specs.Jam.{Touches, Jam, Largest, size_of, touch, Jammed, Jamless, LargestJam}

-- the set touches no cell just once: no cell is touched by one item of the set and by no other
abbrev pub NeverOnce : (ℕ → ℕ → ℕ) → ℕ → (ℕ → Bool) → Type 0
NeverOnce e t s =
    (i c : ℕ) → i < t → s i ≡ true → Touches e i c → ((j : ℕ) → j < t → s j ≡ true → Touches e j c → j ≡ i) → ⊥

-- a jam in demand 1's words: a nonempty set of the items that touches no cell just once
abbrev pub JamIsNeverOnce : Type 0
JamIsNeverOnce =
    (e : ℕ → ℕ → ℕ) (t : ℕ) (s : ℕ → Bool) → Jam e t s ↔ (((i : ℕ) × (i < t) × (s i ≡ true)) × NeverOnce e t s)

-- one item never jams, under any seed; nor does none
abbrev pub OneItemNeverJams : Type 0
OneItemNeverJams = (seed : ℕ) (items : List ℕ) → length items ≤ 1 → Jamless seed items

-- two jams together are a jam
abbrev pub JamsTogether : Type 0
JamsTogether =
    (e : ℕ → ℕ → ℕ) (t : ℕ) (s s' : ℕ → Bool) → Jam e t s → Jam e t s' → Jam e t (λ i. s i || s' i)

-- so where the items hold a jam they hold a largest one
abbrev pub LargestIsThere : Type 0
LargestIsThere = (seed : ℕ) (items : List ℕ) → Jammed seed items → (size : ℕ) × LargestJam seed items size

-- and only one: two jams that hold every jam are the same set
abbrev pub OneLargest : Type 0
OneLargest =
    (e : ℕ → ℕ → ℕ) (t : ℕ) (s s' : ℕ → Bool) → Largest e t s → Largest e t s' → (i : ℕ) → i < t → s i ≡ s' i

-- its size: two items at least, all of them at most, and no jam has more
abbrev pub SizeOfLargest : Type 0
SizeOfLargest = (seed : ℕ) (items : List ℕ) (size : ℕ) → LargestJam seed items size
    → (2 ≤ size) × (size ≤ length items)
    × ((s : ℕ → Bool) → Jam (touch seed items) (length items) s → size_of s (length items) ≤ size)
