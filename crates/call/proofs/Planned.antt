-- Over the store that an accepted build leaves, the rule finds the key of row r in row r. Assumes nothing.
use mathlib.Core.Path.{◌≡◌, refl, sym, ap, ◌∙◌}
use mathlib.Core.List.{List}
use Prim.Native.Nat.{ℕ, ◌+◌, ◌*◌, ◌/◌, ◌%◌, ◌≤◌, ◌<◌}
use native.Mathlib.Omega.{arith}
use lib.ListN.{length, get_or, drop}
use Rattle.words.specs.Keys.{prefix_item}
use Rattle.cells.specs.Cells.{cell_count, map_value}
use Rattle.cells.proofs.Values.{value_take}
use Rattle.tables.specs.Tables.{key_at}
use Rattle.tables.specs.Delimiters.{buckets}
use Rattle.items.specs.Items.{Sorted, key_values, prefix_items}
use Rattle.items.proofs.Values.{row_is, length_prefixes, number_is, row_bucket, bits_small, value_length, value_offset}
use Rattle.items.proofs.Values.{row_prefix}
use Rattle.call.specs.Build.{CallFilled}
use Rattle.outcomes.specs.Outcomes.{row_says}
use Rattle.std.specs.Prelude.{Some}
use Rattle.outcomes.proofs.Standing.{row_found}
use Rattle.callask.specs.Ask.{rule_says}
use Rattle.callask.proofs.Asking.{rule_row_told}

module _ (keys : List ℕ) (b seed₁ seed₂ : ℕ) (cells cells' : List ℕ) (S : Sorted b keys)
    (F : CallFilled keys b seed₁ seed₂ cells cells')
    (r : ℕ) (h : r < length keys) where
  abbrev n : ℕ
  n = length keys

  abbrev x : ℕ
  x = key_at keys r

  abbrev value : ℕ
  value = get_or (key_values b keys) r 0

  abbrev part : List ℕ
  part = drop (cell_count n) cells'

  value_is : value ≡ map_value cells' n seed₁ x
  value_is = sym (F.map₁.valued r h) ∙ value_take cells' n seed₁ x

  -- its length and offset are those of the row, so the first bits of the key are its bucket's prefix
  item_is : get_or (prefix_items b keys) (r / b) 0 ≡ prefix_item x (value / 256)
  item_is = sym (row_prefix b keys S r h) ∙ ap (prefix_item x) (sym (value_length b keys S r h))

  bucket_is : r / b ≡ map_value part (buckets n b) seed₂ (get_or (prefix_items b keys) (r / b) 0)
  bucket_is =
      let there : r / b < length (prefix_items b keys) = rw (length_prefixes b keys) (row_bucket b keys S r h) in
      sym (number_is b keys (r / b) (row_bucket b keys S r h)) ∙ sym (F.map₂.valued (r / b) there)
      ∙ ap (λ (t : ℕ). map_value part t seed₂ (get_or (prefix_items b keys) (r / b) 0)) (length_prefixes b keys)

  pub planned_row : rule_says keys b seed₁ seed₂ cells' x ≡ Some r
  planned_row =
      let short : value / 256 ≤ 63 = omega (arith, value_length b keys S r h, bits_small b keys S r h) in
      let at : r / b * b + value % 256 ≡ r = ap (λ (o : ℕ). r / b * b + o) (value_offset b keys S r h) ∙ row_is b r in
      sym (rule_row_told keys b seed₁ seed₂ cells' x value value_is (cell_count n) (buckets n b)
      (get_or (prefix_items b keys) (r / b) 0) (r / b) part short refl refl item_is refl bucket_is)
      ∙ ap (λ (q : ℕ). row_says keys q x) at ∙ row_found keys x r h refl
