-- The named lengths, and the answers that tell them. Assumes nothing.
use mathlib.Core.Path.{◌≡◌, refl, sym, ap, ◌∙◌}
use Prim.Native.Nat.{ℕ}
use native.Mathlib.Omega.{arith}
use Rattle.std.specs.Prelude.{Option, Some, None, Result, Ok, Err}
use Rattle.basics.proofs.Bools.{differ}
use Rattle.refusals.specs.Numbers.{store_number}
use Rattle.refusals.specs.declared.Refusal.{Refusal}
use Rattle.refusals.specs.declared.Store.{Store}
use Rattle.refusals.proofs.Naming.{store_told, store_some, refusal_told}
use Rattle.refusals.specs.Numbers as before
use Rattle.stores.specs.Limits.{limited}
use Rattle.stores.specs.Sizes.{number_named, store_sizes, lend_sizes, sizes, refused, said_by_lend, named_lengths}
use Rattle.stores.proofs.Limiting.{within, limits_passed, limits_named, limits_refused}
use Rattle.stores.specs.Determined.{LengthsDetermined, ShortDetermined}
use Rattle.stores.specs.declared.Sizes.{Sizes}

-- what `limits` answers, and so what is named
module _ (n b : ℕ) where
  pub lengths_refused : {k i : ℕ} → before.refused k i ≡ limited before.refused n b before.taken
      → refused k i ≡ named_lengths n b
  unfolding named_lengths
  lengths_refused e = sym (limits_refused n b refused (sizes (lend_sizes n b)) e)

  pub lengths_named : before.taken ≡ limited before.refused n b before.taken
      → sizes (store_sizes n b n) ≡ named_lengths n b
  unfolding named_lengths
  lengths_named e = sym (within refused n b (limits_passed n b e) refl)

pub ruleset as_named = (limits_named, lengths_refused, lengths_named)

-- the answer is told by what it says
pub lend_told : (r r' : Result Sizes Refusal) → said_by_lend r ≡ said_by_lend r' → r ≡ r'
lend_told (Ok a) (Ok b) e = ap Ok (cc)
lend_told (Ok a) (Err r) e = differ (cc)
lend_told (Err r) (Ok b) e = differ (cc)
lend_told (Err r) (Err q) e = ap Err (refusal_told r q (cc) (cc))

pub lengths_determined : LengthsDetermined
lengths_determined n b r r' e e' = lend_told r r' (e ∙ sym e')

-- and the store that is too short by its number
pub short_told : (r r' : Option Store) → number_named r ≡ number_named r' → r ≡ r'
short_told None None e = refl
short_told None (Some t) e = absurd (omega (arith, store_some t))
short_told (Some s) None e = absurd (omega (arith, store_some s))
short_told (Some s) (Some t) e = ap Some (store_told s t e)

pub short_determined : ShortDetermined
short_determined h w r r' e e' = short_told r r' (e ∙ sym e')
