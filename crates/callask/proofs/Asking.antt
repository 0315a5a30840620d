-- What an ask says, by its tests. Assumes nothing.
use mathlib.Core.Path.{◌≡◌, sym, ap, ◌∙◌}
use mathlib.Core.List.{List, []}
use Rattle.std.specs.Prelude.{Option, Some, None}
use Prim.Native.Nat.{ℕ, ◌+◌, ◌*◌, ◌/◌, ◌%◌, ◌≤◌, zero-le}
use borrow.Author.Tests.{le-ltb}
use lib.ListN.{length, drop}
use Rattle.basics.proofs.Bools.{differ}
use Rattle.words.specs.Keys.{prefix_item}
use Rattle.cells.specs.Cells.{cell_count, map_value}
use Rattle.tables.specs.Delimiters.{buckets}
use Rattle.refusals.specs.Numbers.{taken, store_number}
use Rattle.refusals.specs.Numbers as before
use Rattle.refusals.specs.declared.Store.{Store}
use Rattle.stores.specs.Limits.{limited}
use Rattle.stores.specs.Sizes.{number_named, short_store, Fits, call_sizes}
use Rattle.stores.specs.Stores.{asked, sizes_beside}
use Rattle.stores.specs.declared.Sizes.{Sizes}
use Rattle.stores.proofs.Limiting.{limits_passed, limits_named}
use Rattle.stores.proofs.Judging.{none_named, ask_limited, ask_named, ask_passes, ask_told}
use Rattle.outcomes.specs.Outcomes.{Told, row_says, marked}
use Rattle.callask.specs.Ask.{outcome, refused, rule_row, rule_says, call_says}
use Rattle.callask.specs.Inner.{Askable}
use Rattle.callask.proofs.Answers.{rule_byte}
use Rattle.outcomes.specs.Inner.{HasByte}

-- the cells and the row bytes that are lent, as refusal 4 judges them
abbrev pub has : (cells bytes : List ℕ) → Sizes
has cells bytes = sizes_beside (asked cells [] [] [] []) bytes

pub one_outcome : {o o' : Told} → outcome o ≡ outcome o' → o ≡ o'
one_outcome e = cc

-- no refusal is an outcome
apart : (o : Told) (k i : ℕ) → refused k i ≡ outcome o → ⊥
apart o k i e = differ (cc)

module _ (keys bytes : List ℕ) (b seed₁ seed₂ : ℕ) (cells : List ℕ) (x : ℕ) where
  -- with room in both, the row's byte decides
  pub says_rule : Askable keys b cells → length keys ≤ length bytes
      → call_says keys bytes b seed₁ seed₂ cells x ≡ outcome (marked bytes (rule_says keys b seed₁ seed₂ cells x))
  unfolding call_says
  says_rule A long =
      let fits : Fits (has cells bytes) (call_sizes (length keys) b) = record {
        cells = A.cells_long;
        handles = zero-le;
        left = zero-le;
        right = zero-le;
        work = zero-le;
        lengths = zero-le;
        bytes = long;
      } in
      ask_passes refused (length keys) b _ _ (record { few = A.few; two = A.two; most = A.most }) fits

  -- and where an outcome is told, there was room in both
  pub says_told : (o : Told) → call_says keys bytes b seed₁ seed₂ cells x ≡ outcome o
      → Askable keys b cells × (length keys ≤ length bytes) × (o ≡ marked bytes (rule_says keys b seed₁ seed₂ cells x))
  unfolding call_says
  says_told o e =
      let t = ask_told refused (length keys) b (has cells bytes) (call_sizes (length keys) b) (apart o) e in (
        record { few = t.0.few; two = t.0.two; most = t.0.most; cells_long = t.1.cells },
        t.1.bytes,
        sym (one_outcome t.2),
      )

  -- what the code finds: the refusal of `limits`
  pub limits_said : {k i : ℕ} → before.refused k i ≡ limited before.refused (length keys) b taken
      → refused k i ≡ call_says keys bytes b seed₁ seed₂ cells x
  unfolding call_says
  limits_said e = sym (ask_limited refused (length keys) b _ _ _ e)

  -- and within the limits the store that is too short, or what the row's byte makes of the row
  module _ (W : taken ≡ limited before.refused (length keys) b taken) where
    pub short_said : (store : Store)
        → number_named (Some store) ≡ short_store (has cells bytes) (call_sizes (length keys) b)
        → refused 4 (store_number store) ≡ call_says keys bytes b seed₁ seed₂ cells x
    unfolding call_says
    short_said store is = sym (ask_named refused (length keys) b _ _ _ (limits_passed (length keys) b W) store is)

    module _ (none : number_named None ≡ short_store (has cells bytes) (call_sizes (length keys) b)) where
      fits : Fits (has cells bytes) (call_sizes (length keys) b)
      fits = none_named (has cells bytes) (call_sizes (length keys) b) none

      pub cells_fit : Askable keys b cells
      cells_fit =
          let L = limits_passed (length keys) b W in
          record { few = L.few; two = L.two; most = L.most; cells_long = fits.cells }

      module _ {at : Option ℕ} (is : at ≡ rule_says keys b seed₁ seed₂ cells x) where
        pub row_marked : HasByte bytes at
        row_marked = rule_byte keys x b seed₁ seed₂ cells bytes at fits.bytes is

        pub row_told : {told : Told} → told ≡ marked bytes at
            → outcome told ≡ call_says keys bytes b seed₁ seed₂ cells x
        row_told e = ap outcome (e ∙ ap (marked bytes) is) ∙ sym (says_rule cells_fit fits.bytes)

pub ruleset as_asked = (limits_named, limits_said, short_said, cells_fit, row_marked, row_told)

module _ (keys : List ℕ) (b seed₁ seed₂ : ℕ) (cells : List ℕ) (x value : ℕ)
    (is : value ≡ map_value cells (length keys) seed₁ x) where
  pub rule_row_told : (c k item bucket : ℕ) (part : List ℕ) → value / 256 ≤ 63 → c ≡ cell_count (length keys)
      → k ≡ buckets (length keys) b
      → item ≡ prefix_item x (value / 256) → part ≡ drop c cells → bucket ≡ map_value part k seed₂ item
      → row_says keys (bucket * b + value % 256) x ≡ rule_says keys b seed₁ seed₂ cells x
  unfolding rule_says rule_row
  rule_row_told c k item bucket part h ec ek ei ep eb = rw (← is, le-ltb 63 (value / 256) h, eb, ep, ec, ek, ei)
