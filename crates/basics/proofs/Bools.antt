-- Tests taken apart, and contradictions. Assumes nothing.
use mathlib.Core.Path.{◌≡◌, refl, ap₂}
use mathlib.Core.Bool.{Bool, true, false, cond, ◌&&◌, true≢false, false≢true}
use mathlib.Core.Logic.{◌⊎◌, inl, inr}
use Prim.Native.Nat.{ℕ}
use native.Mathlib.Omega.{arith}

-- both halves of a test that passed, and back
pub both : (a b : Bool) → a && b ≡ true → (a ≡ true) × (b ≡ true)
both true b e = (refl, e)
both false b e = absurd (false≢true e)

pub and_both : {a b : Bool} → a ≡ true → b ≡ true → a && b ≡ true
and_both p q = ap₂ ◌&&◌ p q

-- no test passes and fails
pub not_both : {b : Bool} → b ≡ true → b ≡ false → ⊥
not_both p q = true≢false (rw p at q)

-- a test passes or fails
pub true_or_false : (b : Bool) → (b ≡ true) ⊎ (b ≡ false)
true_or_false true = inl refl
true_or_false false = inr refl

-- by what a test says
pub by_test : {A : Type 0} (b : Bool) → (b ≡ true → A) → (b ≡ false → A) → A
by_test true p q = p refl
by_test false p q = q refl

-- a chain of tests that ends in another answer than that of its first test: the test fails, and the rest ends so
pub past_test : {A : Type 0} (t : Bool) (a rest : A) {r : A} → (a ≡ r → ⊥) → cond t a rest ≡ r
    → (t ≡ false) × (rest ≡ r)
past_test true a rest apart e = absurd (apart e)
past_test false a rest apart e = (refl, e)

-- what follows where two things that differ would be the same: `cc` finds it
pub differ : {A : Type 0} → ◌≡◌ {A = ℕ} 0 1 → A
differ e = absurd (omega arith)
