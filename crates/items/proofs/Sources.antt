-- What is known of each map and of an item number below its count; each item has a value, of 16 bits. Assumes nothing.
use mathlib.Core.Path.{◌≡◌, refl, sym, ap, ◌∙◌}
use mathlib.Core.List.{List}
use mathlib.Core.Logic.{◌⊎◌, inl, inr, ◌≢◌}
use Prim.Native.Nat.{ℕ, ◌+◌, ◌-◌, ◌≤◌, ◌<◌}
use native.Mathlib.Omega.{arith}
use lib.ListN.{length, get_or}
use Rattle.tables.specs.Delimiters.{buckets, delimiters}
use Rattle.tables.proofs.Delimiting.{buckets_le}
use Rattle.items.specs.declared.Items.{Items}
use Rattle.items.specs.declared.source.Source as declared
use Rattle.items.specs.declared.Items.TheVariants.{Keys, Prefixes, Handles, Offsets}
use Rattle.items.specs.Items.{items_of, values_of, Sorted, Bounds, Known}
use Rattle.items.specs.Vouched.{EachHasAValue, ValuesFit}
use Rattle.items.proofs.Values.{length_prefixes, length_numbers, number_is, length_key_values, key_value_is}
use Rattle.items.proofs.Values.{key_value_small, length_offsets, offset_is, row_offset}
use Rattle.items.proofs.Handling.{length_handles, length_splits, split_is, split_small}

-- a map on the keys themselves: map 1, of either profile
abbrev pub OnKeys : Items → Type 0
OnKeys w = (w ≡ Keys) ⊎ (w ≡ Offsets)

-- its items are the keys
pub keys_items : {w : Items} (b : ℕ) (T : List ℕ) → OnKeys w → items_of w b T ≡ T
unfolding items_of
keys_items b T (inl e) = rw e
keys_items b T (inr e) = rw e

pub keys_read : {w : Items} (b : ℕ) (T : List ℕ) (i : ℕ) → OnKeys w → get_or T i 0 ≡ get_or (items_of w b T) i 0
keys_read b T i on = ap (λ (l : List ℕ). get_or l i 0) (sym (keys_items b T on))

module _ {w : Items} {b : ℕ} {T left right : List ℕ} where
  pub known_keys : OnKeys w → Known w b T left right → Sorted b T
  known_keys (inl e) k = rw e at k.source
  known_keys (inr e) k = rw e at k.source

  pub keys_counted : OnKeys w → Known w b T left right → (length T ≡ length (items_of w b T)) × (length T ≤ 32768)
  keys_counted on k = (ap length (sym (keys_items b T on)), (known_keys on k).few)

  pub known_prefixes : w ≡ Prefixes → Known w b T left right → Sorted b T
  known_prefixes e k = rw e at k.source

  pub known_handles : w ≡ Handles → Known w b T left right → Bounds b T left right
  known_handles e k = rw e at k.source

  module _ {i : ℕ} where
    pub asked_keys : OnKeys w → Known w b T left right × (i < length (items_of w b T))
        → Sorted b T × (i < length T)
    asked_keys on p = (known_keys on p.0, rw (keys_items b T on) at p.1)

    pub asked_prefixes : w ≡ Prefixes → Known w b T left right × (i < length (items_of w b T))
        → Sorted b T × (i < buckets (length T) b)
    unfolding items_of
    asked_prefixes e p = (known_prefixes e p.0, rw (e, length_prefixes b T) at p.1)

    pub asked_handles : w ≡ Handles → Known w b T left right × (i < length (items_of w b T))
        → Bounds b T left right × (i + 2 < length (delimiters b T))
    unfolding items_of
    asked_handles e p =
        let few : i < length (delimiters b T) - 2 = rw (e, length_handles (delimiters b T)) at p.1 in
        (known_handles e p.0, omega arith)

-- so it is known of each source
pub known_in : (s : declared.Source) → Known s.which s.rows.b s.rows.keys.now s.left.now s.right.now
known_in s = known_by s.which s.rows.b s.rows.keys.now s.left.now s.right.now s.sorted s.bounded
  where
    known_by : (w : Items) (b : ℕ) (T left right : List ℕ) → (w ≢ Handles → Sorted b T)
        → (w ≡ Handles → Bounds b T left right) → Known w b T left right
    known_by Keys b T left right s k = record { source = s (λ e. cc) }
    known_by Prefixes b T left right s k = record { source = s (λ e. cc) }
    known_by Handles b T left right s k = record { source = k refl }
    known_by Offsets b T left right s k = record { source = s (λ e. cc) }

-- each item has a value
pub each_has_a_value : EachHasAValue
unfolding items_of values_of
each_has_a_value Keys b T = length_key_values b T
each_has_a_value Prefixes b T = length_numbers b T ∙ sym (length_prefixes b T)
each_has_a_value Handles b T = length_splits (delimiters b T) ∙ sym (length_handles (delimiters b T))
each_has_a_value Offsets b T = length_offsets b T

-- it fits 16 bits
pub values_fit : ValuesFit
unfolding values_of
values_fit Keys b T left right k i h =
    let p = asked_keys (inl refl) (k, h) in rw (key_value_is b T i p.1) (key_value_small b T p.0 i p.1)
values_fit Prefixes b T left right k i h =
    let p = asked_prefixes refl (k, h) in
    rw (number_is b T i p.1) (omega (arith, buckets_le (length T) b (omega arith)))
values_fit Handles b T left right k i h =
    let p = asked_handles refl (k, h) in
    rw (split_is (delimiters b T) i p.1) (omega (arith, split_small b T left right p.0 i p.1))
values_fit Offsets b T left right k i h =
    let p = asked_keys (inr refl) (k, h) in
    rw (offset_is b T i p.1) (omega (arith, row_offset b T p.0 i p.1))
