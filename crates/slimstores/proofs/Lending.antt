-- The named lengths, and the answers that tell them. Assumes nothing.
use mathlib.Core.Path.{◌≡◌, refl, sym, ◌∙◌}
use Prim.Native.Nat.{ℕ}
use Rattle.tables.specs.Lengths.{call_work}
use Rattle.refusals.specs.Numbers as before
use Rattle.stores.specs.Limits.{limited}
use Rattle.stores.specs.Sizes.{sizes, refused}
use Rattle.stores.proofs.Limiting.{within, limits_passed, limits_named, limits_refused}
use Rattle.stores.proofs.Lending.{lend_told}
use Rattle.slimstores.specs.Sizes.{slim_sizes, slim_lend_sizes, slim_lengths}
use Rattle.slimstores.specs.Determined.{SlimLengthsDetermined}

-- what `limits` answers, and so what is named
module _ (n b : ℕ) where
  pub slim_refused : {k i : ℕ} → before.refused k i ≡ limited before.refused n b before.taken
      → refused k i ≡ slim_lengths n b
  unfolding slim_lengths
  slim_refused e = sym (limits_refused n b refused (sizes (slim_lend_sizes n b)) e)

  pub slim_named : before.taken ≡ limited before.refused n b before.taken
      → sizes (slim_sizes n b (call_work n) n) ≡ slim_lengths n b
  unfolding slim_lengths
  slim_named e = sym (within refused n b (limits_passed n b e) refl)

pub ruleset as_named = (limits_named, slim_refused, slim_named)

pub slim_lengths_determined : SlimLengthsDetermined
slim_lengths_determined n b r r' e e' = lend_told r r' (e ∙ sym e')
