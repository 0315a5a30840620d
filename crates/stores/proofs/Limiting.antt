-- Refusals 1 and 2: within the limits what follows decides, and what one entry refuses by them every other refuses too.
-- Assumes nothing.
use mathlib.Core.Path.{◌≡◌, refl, sym, ap, ◌∙◌}
use mathlib.Core.Bool.{Bool, true, false, cond}
use Prim.Native.Nat.{ℕ, ◌≤◌, ◌<◌}
use native.Mathlib.Omega.{arith}
use borrow.Author.Tests.{ltb-false}
use lib.Dec.{ltb}
use Rattle.basics.proofs.Bools.{differ, past_test}
use Rattle.refusals.specs.Numbers.{BuildSaid, taken, refused, jammed}
use Rattle.tables.specs.Tables.{most_keys}
use Rattle.stores.specs.Limits.{limited}
use Rattle.stores.proofs.Chains.{goes_on, refuses}

-- neither applies
pub record Within (n b : ℕ) : Type 0 where
  pub few : n ≤ most_keys
  pub two : 2 ≤ b
  pub most : b ≤ 256

module _ {A : Type 0} (refuse : ℕ → ℕ → A) (n b : ℕ) where
  pub within : Within n b → {said r : A} → said ≡ r → limited refuse n b said ≡ r
  unfolding limited
  within W e = goes_on _ W.few (goes_on _ W.two (goes_on _ W.most e))

  pub bucket_too_small : n ≤ most_keys → b < 2 → (said : A) → limited refuse n b said ≡ refuse 2 0
  unfolding limited
  bucket_too_small few h said = goes_on _ few (refuses _ _ h)

  pub bucket_too_large : n ≤ most_keys → 2 ≤ b → 256 < b → (said : A) → limited refuse n b said ≡ refuse 2 0
  unfolding limited
  bucket_too_large few two h said = goes_on _ few (goes_on _ two (refuses _ _ h))

  -- what is no refusal is said within the limits
  pub said_within : {said r : A} → ((k i : ℕ) → refuse k i ≡ r → ⊥) → limited refuse n b said ≡ r
      → Within n b × (said ≡ r)
  unfolding limited
  said_within apart e =
      let t₁ = past_test (ltb most_keys n) (refuse 1 0) _ (apart 1 0) e in
      let t₂ = past_test (ltb b 2) (refuse 2 0) _ (apart 2 0) t₁.1 in
      let t₃ = past_test (ltb 256 b) (refuse 2 0) _ (apart 2 0) t₂.1 in (
        record {
          few = ltb-false most_keys n t₁.0;
          two = ltb-false b 2 t₂.0;
          most = ltb-false 256 b t₃.0;
        },
        t₃.1,
      )

-- a refusal as another entry says it
abbrev said_by : {A : Type 0} → (ℕ → ℕ → A) → A → BuildSaid → A
said_by refuse said (refused k i) = refuse k i
said_by refuse said taken = said
said_by refuse said (jammed m p) = said

same_tests : {A : Type 0} (refuse : ℕ → ℕ → A) (said : A) (s t u : Bool)
    → cond s (refuse 1 0) (cond t (refuse 2 0) (cond u (refuse 2 0) said))
    ≡ said_by refuse said (cond s (refused 1 0) (cond t (refused 2 0) (cond u (refused 2 0) taken)))
same_tests refuse said true t u = refl
same_tests refuse said false true u = refl
same_tests refuse said false false true = refl
same_tests refuse said false false false = refl

-- what `limits` answers: it passes within the limits, and its refusal is that of every entry
module _ (n b : ℕ) where
  pub limits_passed : taken ≡ limited refused n b taken → Within n b
  limits_passed e = (said_within refused n b (λ k i d. differ (cc)) (sym e)).0

  -- the limits within which lengths are named
  pub limits_named : taken ≡ limited refused n b taken → (1 ≤ b) × (b ≤ 256) × (n ≤ 32768)
  limits_named e = let W = limits_passed e in (omega (arith, W.two), W.most, W.few)

  pub limits_refused : {A : Type 0} (refuse : ℕ → ℕ → A) (said : A) {k i : ℕ} → refused k i ≡ limited refused n b taken
      → limited refuse n b said ≡ refuse k i
  unfolding limited
  limits_refused refuse said e =
      same_tests refuse said (ltb most_keys n) (ltb b 2) (ltb 256 b) ∙ ap (said_by refuse said) (sym e)
