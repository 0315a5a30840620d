-- J8: the items of a map are pairwise different. Assumes nothing.
use mathlib.Core.Path.{◌≡◌, sym, ◌∙◌}
use mathlib.Core.List.{List}
use Prim.Native.Nat.{ℕ, ◌+◌, ◌<◌}
use native.Mathlib.Omega.{arith}
use lib.ListN.{length, get_or}
use Rattle.tables.specs.Tables.{Table}
use Rattle.tables.specs.Delimiters.{buckets, delimiters}
use Rattle.tables.proofs.Rising.{keys_above}
use Rattle.tables.proofs.Delimiting.{delimiters_table}
use Rattle.tables.proofs.Bucketing.{prefixes_differ}
use Rattle.splits.proofs.Handles.{items_differ}
use Rattle.items.specs.declared.Items.TheVariants.{Keys, Prefixes, Handles, Offsets}
use Rattle.items.specs.Items.{prefix_items, handle_items, items_of}
use Rattle.items.specs.Vouched.{Distinct, PrefixesDistinct, ItemsDistinct}
use Rattle.items.proofs.Values.{length_prefixes, prefix_is}
use Rattle.items.proofs.Handling.{length_handles, handle_is}

-- it is enough that a later one differs from an earlier one
by_order : (l : List ℕ) → ((i j : ℕ) → i < j → j < length l → get_or l i 0 ≡ get_or l j 0 → ⊥)
    → Distinct l
by_order l later i j hi hj e =
    let up : ¬ (i < j) = λ g. later i j g hj e in
    let down : ¬ (j < i) = λ g. later j i g hi (sym e) in
    omega arith

keys_distinct : (T : List ℕ) → Table T → Distinct T
keys_distinct T t = by_order T (λ i j h l e. omega (arith, keys_above T t i j h l))

pub prefixes_distinct : PrefixesDistinct
prefixes_distinct b T s =
    by_order (prefix_items b T)
    (λ i j h l e.
    let there : j < buckets (length T) b = rw (length_prefixes b T) at l in
    prefixes_differ T s.table b i j s.two h there
    (sym (prefix_is b T i (omega arith)) ∙ e ∙ prefix_is b T j there))

handles_distinct : (D : List ℕ) → Table D → Distinct (handle_items D)
handles_distinct D t i j hi hj e =
    let li : i + 2 < length D = omega (arith, length_handles D) in
    let lj : j + 2 < length D = omega (arith, length_handles D) in
    items_differ D t i j li lj (sym (handle_is D i li) ∙ e ∙ handle_is D j lj)

-- the items of each map
pub items_distinct : ItemsDistinct
unfolding items_of
items_distinct Keys b T left right k = keys_distinct T k.source.table
items_distinct Prefixes b T left right k = prefixes_distinct b T k.source
items_distinct Handles b T left right k =
    handles_distinct (delimiters b T) (delimiters_table b T k.source.bucketed.some k.source.table)
items_distinct Offsets b T left right k = keys_distinct T k.source.table
