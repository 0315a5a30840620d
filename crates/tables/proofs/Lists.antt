-- The laws of `listed`. Assumes nothing.
use mathlib.Core.Path.{◌≡◌, refl, ap, ◌∙◌}
use mathlib.Core.List.{List}
use Prim.Native.Nat.{ℕ, zero, suc, ◌<◌}
use native.Mathlib.Nat.{le_of_suc-le-suc}
use native.Mathlib.Omega.{arith}
use lib.ListN.{length, get_or}
use lib.Seq.{ext_get_or}
use Rattle.tables.specs.Tables.{listed}

pub length_listed : (n : ℕ) (f : ℕ → ℕ) → length (listed n f) ≡ n
unfolding listed
length_listed zero f = refl
length_listed (suc n) f = ap suc (length_listed n (λ i. f (suc i)))

pub listed_at : (n : ℕ) (f : ℕ → ℕ) (i : ℕ) → i < n → get_or (listed n f) i 0 ≡ f i
unfolding listed
listed_at zero f i h = absurd (omega arith)
listed_at (suc n) f zero h = refl
listed_at (suc n) f (suc i) h = listed_at n (λ i. f (suc i)) i (le_of_suc-le-suc h)

-- a list is its elements in order
pub listed_self : (T : List ℕ) (f : ℕ → ℕ) → ((i : ℕ) → i < length T → f i ≡ get_or T i 0)
    → listed (length T) f ≡ T
listed_self T f same =
    ext_get_or 0 (listed (length T) f) T (length_listed (length T) f)
    (λ i h. let l : i < length T = omega (arith, length_listed (length T) f) in listed_at (length T) f i l ∙ same i l)
