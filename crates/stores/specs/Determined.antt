-- What the contracts of `named_lengths` and of `short_store` determine: everything.
use Rattle.std.specs.Prelude.{◌≡◌, Option, Result, ℕ}
use Rattle.refusals.specs.declared.Refusal.{Refusal}
use Rattle.refusals.specs.declared.Store.{Store}
use Rattle.stores.specs.Sizes.{number_named, short_store, said_by_lend, named_lengths}
use Rattle.stores.specs.declared.Sizes.{Sizes}

-- any two answers that it allows on the same input are one
abbrev pub LengthsDetermined : Type 0
LengthsDetermined =
    (n b : ℕ) (r r' : Result Sizes Refusal) → said_by_lend r ≡ named_lengths n b → said_by_lend r' ≡ named_lengths n b → r ≡ r'

abbrev pub ShortDetermined : Type 0
ShortDetermined =
    (have want : Sizes) (r r' : Option Store) → number_named r ≡ short_store have want → number_named r' ≡ short_store have want
    → r ≡ r'
