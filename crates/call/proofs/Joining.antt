-- Two maps in one store: what the builds of maps 1 and 2 leave, put together. Assumes nothing.
use mathlib.Core.Path.{◌≡◌, sym, ap, ◌∙◌}
use mathlib.Core.List.{List}
use Prim.Native.Nat.{ℕ, ◌-◌, ◌≤◌}
use native.Mathlib.Omega.{arith}
use Rattle.std.specs.Prelude.{Result, Ok}
use lib.ListN.{length, get_or, take, drop, length-drop, drop_of_length-le}
use borrow.Rule.Slice.PartMut.{put_mid}
use lib.Seq.{drop-drop, length-take-le, get_or-take}
use Rattle.cells.specs.Cells.{cell_count, work_count}
use Rattle.cells.specs.Memory.{cleared}
use Rattle.cells.proofs.Values.{value_take}
use Rattle.cells.proofs.Sweeping.{cleared_within}
use Rattle.tables.specs.Delimiters.{buckets}
use Rattle.tables.specs.Lengths.{call_cells, call_work}
use Rattle.tables.proofs.Delimiting.{buckets_le}
use Rattle.items.specs.Items.{key_values, prefix_items, bucket_numbers}
use Rattle.items.proofs.Values.{length_prefixes}
use Rattle.maps.specs.Built.{Built, Filled, Room}
use Rattle.maps.proofs.Determined.{cells_beyond}
use Rattle.maps.proofs.Rooms.{fewer_work}
use Rattle.call.specs.Build.{CallFilled}
use Rattle.call.specs.Inner.{Buildable, KeysBuilt, PrefixesBuilt}
use Rattle.call.proofs.Parts.{part_is, from_part, before_part}

-- a filled map is one by its own cells alone
filled_part : (seed : ℕ) (items values before after : List ℕ) → cell_count (length items) ≤ length before
    → Filled seed items values before after
    → Filled seed items values (take (cell_count (length items)) before) (take (cell_count (length items)) after)
filled_part seed items values before after h F =
    let t = length items in
    let C = cell_count t in
    let l : length (take C before) ≡ C = length-take-le C before h in
    let l' : length (take C after) ≡ C = length-take-le C after (omega (arith, F.long)) in
    record {
      valued = λ i m. value_take after t seed (get_or items i 0) ∙ F.valued i m;
      untouched = λ j m none. get_or-take C after j 0 m ∙ F.untouched j m none;
      beyond =
          drop_of_length-le (take C after) {i = C} (omega arith)
          ∙ sym (drop_of_length-le (take C before) {i = C} (omega arith));
      long = l' ∙ sym l;
    }

-- the part that map 2 is built in, and the work, are long enough for it
module _ {keys : List ℕ} {b : ℕ} {cells work : List ℕ} (A : Buildable keys b cells work) {c : ℕ}
    (is : c ≡ cell_count (length keys)) where
  pub prefix_room : Room (prefix_items b keys) (take (length cells - c) (drop c cells)) work
  prefix_room =
      let k = buckets (length keys) b in
      let few : k ≤ length keys = buckets_le (length keys) b (omega (arith, A.sorted.two)) in
      let part = part_is c cells in
      record {
        for_cells = rw (length_prefixes b keys, part) (omega (arith, length-drop c cells, A.cells_long));
        for_work = rw (length_prefixes b keys) (omega (arith, fewer_work k (length keys) few, A.work_long));
      }

  -- what came back stands in the store from cell C(n) on
  pub prefixes_built : {seed : ℕ} {part work' : List ℕ} {answer : Result (Unit {0}) ℕ}
      → Built seed (prefix_items b keys) (bucket_numbers b keys)
      (take (length cells - c) (drop c cells)) work answer part work'
      → PrefixesBuilt keys b seed cells work answer (put_mid c (length cells - c) cells part) work'
  prefixes_built {part = part} B =
      let fits : c ≤ length cells = omega (arith, A.cells_long) in
      record {
        part = rw (← is, from_part c cells part fits) (rw (part_is c cells) at B);
        kept = rw (← is) (before_part c cells part fits);
      }

module _ {keys : List ℕ} {b : ℕ} {cells work : List ℕ} (A : Buildable keys b cells work) where
  abbrev n : ℕ
  n = length keys

  abbrev c : ℕ
  c = cell_count n

  abbrev k : ℕ
  k = buckets n b

  few_buckets : k ≤ n
  few_buckets = buckets_le n b (omega (arith, A.sorted.two))

  -- map 1 is built, or jammed, and then map 2
  module _ {seed₁ : ℕ} {cells₁ work₁ : List ℕ} {answer₁ : Result (Unit {0}) ℕ}
      (B₁ : KeysBuilt keys b seed₁ cells work answer₁ cells₁ work₁) where
    -- past the named length nothing of the store changes
    pub first_beyond : drop (call_cells n b) cells₁ ≡ drop (call_cells n b) cells
    first_beyond =
        sym (drop-drop (cell_count k) c cells₁) ∙ ap (drop (cell_count k)) (cells_beyond seed₁ keys B₁)
        ∙ drop-drop (cell_count k) c cells

    module _ {seed₂ : ℕ} {cells₂ work₂ : List ℕ} {answer₂ : Result (Unit {0}) ℕ}
        (B₂ : PrefixesBuilt keys b seed₂ cells₁ work₁ answer₂ cells₂ work₂) where
      pub second_beyond : drop (call_cells n b) cells₂ ≡ drop (call_cells n b) cells
      second_beyond =
          sym (drop-drop (cell_count k) c cells₂)
          ∙ rw (length_prefixes b keys) at (cells_beyond seed₂ (prefix_items b keys) B₂.part)
          ∙ drop-drop (cell_count k) c cells₁ ∙ first_beyond

      -- the work that map 2 leaves is that of map 1, which was longer
      pub both_swept : work₂ ≡ cleared (call_work n) work
      both_swept =
          let w = work_count (length (prefix_items b keys)) in
          let less : w ≤ call_work n = rw (length_prefixes b keys) (fewer_work k n few_buckets) in
          B₂.part.swept ∙ ap (cleared w) B₁.swept ∙ cleared_within w (call_work n) work less

  -- both are built
  pub both_filled : {seed₁ seed₂ : ℕ} {cells₁ work₁ cells₂ work₂ : List ℕ}
      → KeysBuilt keys b seed₁ cells work (Ok tt) cells₁ work₁
      → PrefixesBuilt keys b seed₂ cells₁ work₁ (Ok tt) cells₂ work₂ → CallFilled keys b seed₁ seed₂ cells cells₂
  both_filled {seed₁} {cells₁ = cells₁} B₁ B₂ =
      let F = B₁.accepted.1 in
      let long : c ≤ length cells = omega (arith, A.cells_long) in
      record {
        map₁ = rw B₂.kept (filled_part seed₁ keys (key_values b keys) cells cells₁ long F);
        map₂ = rw F.beyond at B₂.part.accepted.1;
      }
