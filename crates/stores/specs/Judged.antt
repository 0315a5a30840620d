-- Document 01, "Refusal numbers and their order", and request Seven: what a build refuses before it builds, checked
-- over all stores together, and what an ask refuses before it looks.
use Rattle.std.specs.Prelude.{cond, Result, Ok, Err, List, ℕ, ltb, length}
use Rattle.refusals.specs.Numbers.{number, names, BuildSaid, taken, refused}
use Rattle.refusals.specs.declared.Refusal.{Refusal}
use Rattle.tables.specs.Tables.{first_fall}
use Rattle.stores.specs.Limits.{limited}
use Rattle.stores.specs.Sizes.{short_store}
use Rattle.stores.specs.declared.Sizes.{Sizes}

-- refusals 3 and 4; `taken` if neither applies
unfoldable pub fall_or_short : List ℕ → (have want : Sizes) → BuildSaid
fall_or_short keys have want =
    cond (ltb 0 (first_fall keys)) (refused 3 (first_fall keys))
    (cond (ltb 0 (short_store have want)) (refused 4 (short_store have want)) taken)

-- the first of refusals 1 to 4 that applies; `taken` if none does
unfoldable pub judged : List ℕ → ℕ → (have want : Sizes) → BuildSaid
judged keys b have want = limited refused (length keys) b (fall_or_short keys have want)

-- what an ask with a bucket size says: refusals 1 and 2, then 4 with the first store that is too short, then what it
-- finds
unfoldable pub ask_refused : {A : Type 0} → ((number names : ℕ) → A) → (n b : ℕ) → (have want : Sizes) → A → A
ask_refused refuse n b have want said =
    let short = short_store have want in limited refuse n b (cond (ltb 0 short) (refuse 4 short) said)

-- what the judging says of a build: that so far it accepts, or a refusal
abbrev pub said_by_judge : Result (Unit {0}) Refusal → BuildSaid
said_by_judge (Ok passed) = taken
said_by_judge (Err r) = refused (number r) (names r)
