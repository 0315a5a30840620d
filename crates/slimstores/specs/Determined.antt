-- What the contract of `slim_lengths` determines: everything.
use Rattle.std.specs.Prelude.{◌≡◌, Result, ℕ}
use Rattle.refusals.specs.declared.Refusal.{Refusal}
use Rattle.stores.specs.Sizes.{said_by_lend}
use Rattle.stores.specs.declared.Sizes.{Sizes}
use Rattle.slimstores.specs.Sizes.{slim_lengths}

-- any two answers that it allows on the same input are one
abbrev pub SlimLengthsDetermined : Type 0
SlimLengthsDetermined =
    (n b : ℕ) (r r' : Result Sizes Refusal) → said_by_lend r ≡ slim_lengths n b → said_by_lend r' ≡ slim_lengths n b → r ≡ r'
