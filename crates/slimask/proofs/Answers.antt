-- What is found in a bucket: a row only where the table's key there is the one asked, whatever the stores say. Assumes
-- nothing.
use mathlib.Core.Path.{◌≡◌, sym, ◌∙◌}
use mathlib.Core.List.{List}
use Rattle.std.specs.Prelude.{Option, Some, None}
use Prim.Native.Nat.{ℕ, ◌+◌, ◌*◌, ◌≤◌, ◌<◌}
use native.Mathlib.Omega.{arith}
use borrow.Author.Tests.{lt-ltb}
use Rattle.std.proofs.lemmas.Grind.{common_steps}
use lib.ListN.{length}
use Rattle.cells.specs.Cells.{map_value}
use Rattle.tables.specs.Tables.{key_at}
use Rattle.tables.specs.Delimiters.{buckets}
use Rattle.outcomes.specs.Outcomes.{row_says}
use Rattle.outcomes.specs.Inner.{HasByte}
use Rattle.outcomes.proofs.Standing.{row_said, row_nowhere}
use Rattle.slimask.specs.Ask.{bucket_says}

module _ (keys : List ℕ) (b seed : ℕ) (offsets : List ℕ) (x c : ℕ) where
  abbrev row : ℕ
  row = c * b + map_value offsets (length keys) seed x

  -- a bucket that is there
  pub bucket_row : c < buckets (length keys) b → bucket_says keys b seed offsets x c ≡ row_says keys row x
  unfolding bucket_says
  bucket_row h = rw (lt-ltb c (buckets (length keys) b) h)

  pub bucket_said : (q : ℕ) → bucket_says keys b seed offsets x c ≡ Some q → (q < length keys) × (key_at keys q ≡ x)
  unfolding bucket_says
  bucket_said q e = grind (arith, common_steps, row_said keys x row q)

  -- where no row holds x, x is found nowhere
  pub bucket_nowhere : ((r : ℕ) → r < length keys → key_at keys r ≡ x → ⊥) → bucket_says keys b seed offsets x c ≡ None
  unfolding bucket_says
  bucket_nowhere none = grind (arith, common_steps, row_nowhere keys x none row)

  -- a row that is found has a byte, where there is one for each row
  pub bucket_byte : (bytes : List ℕ) {at : Option ℕ} → length keys ≤ length bytes → at ≡ bucket_says keys b seed offsets x c
      → HasByte bytes at
  bucket_byte bytes long is q e = let t = bucket_said q (sym is ∙ e) in omega (arith, t.0)
