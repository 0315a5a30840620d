-- Document 01, "Refusal numbers and their order": refusals 1 and 2, which come before all others wherever a table of n
-- keys and a bucket size b are judged.
use Rattle.std.specs.Prelude.{cond, ℕ, ltb}
use Rattle.tables.specs.Tables.{most_keys}

-- 1 for more than 32,768 keys, then 2 for a bucket size outside 2 to 256, then what is said otherwise
unfoldable pub limited : {A : Type 0} → ((number names : ℕ) → A) → (n b : ℕ) → A → A
limited refuse n b said =
    cond (ltb most_keys n) (refuse 1 0) (cond (ltb b 2) (refuse 2 0) (cond (ltb 256 b) (refuse 2 0) said))
