-- Why the definitions may be believed: the items of a map are pairwise different (proved in proofs/Distinct), and each
-- has a value of 16 bits (in proofs/Sources).
use Rattle.std.specs.Prelude.{◌≡◌, List, ℕ, ◌<◌, length, get_or}
use Rattle.items.specs.declared.Items.{Items}
use Rattle.items.specs.Items.{prefix_items, items_of, values_of, Sorted, Known}

-- the elements of a list are pairwise different
abbrev pub Distinct : List ℕ → Type 0
Distinct l = (i j : ℕ) → i < length l → j < length l → get_or l i 0 ≡ get_or l j 0 → i ≡ j

-- no two buckets of a table have the same prefix
abbrev pub PrefixesDistinct : Type 0
PrefixesDistinct = (b : ℕ) (T : List ℕ) → Sorted b T → Distinct (prefix_items b T)

-- nor has any map two equal items
abbrev pub ItemsDistinct : Type 0
ItemsDistinct = (w : Items) (b : ℕ) (T left right : List ℕ) → Known w b T left right → Distinct (items_of w b T)

-- each item of a map has a value
abbrev pub EachHasAValue : Type 0
EachHasAValue = (w : Items) (b : ℕ) (T : List ℕ) → length (values_of w b T) ≡ length (items_of w b T)

-- which fits a cell
abbrev pub ValuesFit : Type 0
ValuesFit = (w : Items) (b : ℕ) (T left right : List ℕ) → Known w b T left right → (i : ℕ)
    → i < length (items_of w b T) → get_or (values_of w b T) i 0 < 65536
