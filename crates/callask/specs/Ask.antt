-- Document 01, "Call index", and request Eight: asking x.
use Rattle.std.specs.Prelude.{cond, Option, None, Result, Ok, Err, List, [], ℕ, ◌+◌, ◌*◌, ◌/◌, ◌%◌, ltb, length, drop}
use Rattle.refusals.specs.Numbers.{number, names}
use Rattle.refusals.specs.declared.Refusal.{Refusal}
use Rattle.words.specs.Keys.{prefix_item}
use Rattle.cells.specs.Cells.{cell_count, map_value}
use Rattle.tables.specs.Delimiters.{buckets}
use Rattle.stores.specs.Sizes.{call_sizes}
use Rattle.stores.specs.Stores.{asked, sizes_beside}
use Rattle.stores.specs.Judged.{ask_refused}
use Rattle.outcomes.specs.Outcomes.{Told, row_says, told_by, marked}
use Rattle.outcomes.specs.declared.Outcome.{Outcome}

-- what an ask says, in the documents' numbers: an outcome, or a refusal and what it names
pub data CallSaid : Type 0 where
  outcome : Told → CallSaid
  refused : ℕ → ℕ → CallSaid

abbrev pub said_by_call : Result Outcome Refusal → CallSaid
said_by_call (Ok o) = outcome (told_by o)
said_by_call (Err r) = refused (number r) (names r)

-- the row that the two maps give x: of its map 1 value, length = floor(value/256) and offset = value mod 256; the first
-- bits of x give the bucket, by map 2 in the part that starts at cell C(n); row = bucket × B + offset
unfoldable pub rule_row : List ℕ → ℕ → ℕ → ℕ → List ℕ → ℕ → ℕ
rule_row keys b seed₁ seed₂ cells x =
    let n = length keys in
    let value = map_value cells n seed₁ x in
    let bucket = map_value (drop (cell_count n) cells) (buckets n b) seed₂ (prefix_item x (value / 256)) in
    bucket * b + value % 256

-- length over 63: nowhere; otherwise the table's key in that row decides
unfoldable pub rule_says : List ℕ → ℕ → ℕ → ℕ → List ℕ → ℕ → Option ℕ
rule_says keys b seed₁ seed₂ cells x =
    cond (ltb 63 (map_value cells (length keys) seed₁ x / 256)) None
    (row_says keys (rule_row keys b seed₁ seed₂ cells x) x)

-- the refusals before the rule, 4 for the call cells (1) and then for the row bytes (7); and what the row's byte makes
-- of the row
unfoldable pub call_says : (keys bytes : List ℕ) → ℕ → ℕ → ℕ → List ℕ → ℕ → CallSaid
call_says keys bytes b seed₁ seed₂ cells x =
    ask_refused refused (length keys) b (sizes_beside (asked cells [] [] [] []) bytes) (call_sizes (length keys) b)
    (outcome (marked bytes (rule_says keys b seed₁ seed₂ cells x)))
