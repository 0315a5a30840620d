-- Refusals in their order: a test that fails goes on to the next, and one that holds gives its refusal. Assumes
-- nothing.
use mathlib.Core.Path.{◌≡◌}
use mathlib.Core.Bool.{cond}
use Prim.Native.Nat.{ℕ, ◌≤◌, ◌<◌}
use borrow.Author.Tests.{lt-ltb, le-ltb}
use lib.Dec.{ltb}

-- one test of a chain
module _ {A : Type 0} {a b : ℕ} (no : A) where
  pub goes_on : {rest r : A} → b ≤ a → rest ≡ r → cond (ltb a b) no rest ≡ r
  goes_on h e = rw (le-ltb a b h) e

  pub refuses : (rest : A) → a < b → cond (ltb a b) no rest ≡ no
  refuses rest h = rw (lt-ltb a b h)
