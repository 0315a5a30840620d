-- A key is found in a row only where the table's key there is the same. Assumes nothing.
use mathlib.Core.Path.{◌≡◌}
use mathlib.Core.List.{List}
use Rattle.std.specs.Prelude.{Some, None}
use Prim.Native.Nat.{ℕ, ◌<◌}
use Rattle.std.proofs.lemmas.Grind.{common_steps}
use native.Mathlib.Omega.{arith}
use lib.ListN.{length}
use Rattle.tables.specs.Tables.{key_at}
use Rattle.outcomes.specs.Outcomes.{row_says}
use Rattle.outcomes.specs.Vouched.{FoundIff}

module _ (keys : List ℕ) (x : ℕ) where
  -- where the row that is looked at holds x, x is found
  pub row_found : (r : ℕ) → r < length keys → key_at keys r ≡ x → row_says keys r x ≡ Some r
  row_found r h e = grind (arith, common_steps)

  -- and a row in which x is found holds it
  pub row_said : (r q : ℕ) → row_says keys r x ≡ Some q → (q ≡ r) × (q < length keys) × (key_at keys q ≡ x)
  row_said r q e = grind (arith, common_steps)

  -- where no row holds x, x is found nowhere, whatever row is looked at
  pub row_nowhere : ((r : ℕ) → r < length keys → key_at keys r ≡ x → ⊥) → (r : ℕ) → row_says keys r x ≡ None
  row_nowhere none r = grind (arith, common_steps, none r)

pub found_iff : FoundIff
found_iff keys r x q = (row_said keys x r q, (λ p. rw (← p.0) (row_found keys x q p.1 p.2)))
