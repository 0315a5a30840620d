-- The 2-fattest number of a range, and the probes of a fat search.
use Rattle.std.specs.Prelude.{◌≡◌, ℕ, zero, suc, ◌-◌, ◌*◌, ◌/◌, ◌%◌, ◌^◌, ◌<◌, ◌≤◌, cond, nat_lt}
use Rattle.std.specs.Int.Count.{count_leading_zeros}

-- f is the 2-fattest number with a < f ≤ b, the one divisible by the highest power of two: no other number there is
-- divisible by that power
pub record Fattest (a b f : ℕ) : Type 0 where
  pub above : a < f
  pub within : f ≤ b
  pub power : ℕ
  pub multiple : f % 2 ^ power ≡ 0
  pub only : (g : ℕ) → a < g → g ≤ b → g % 2 ^ power ≡ 0 → g ≡ f

-- the last multiple of 2 ^ k that is at most b
abbrev pub last_multiple : ℕ → ℕ → ℕ
last_multiple k b = b / 2 ^ k * 2 ^ k

-- by trial of the powers 2 ^ k, .., 2, 1: the last multiple of the first that has one with a < multiple ≤ b
unfoldable pub fattest_from : ℕ → ℕ → ℕ → ℕ
fattest_from zero a b = b
fattest_from (suc k) a b = cond (nat_lt a (last_multiple (suc k) b)) (last_multiple (suc k) b) (fattest_from k a b)

-- the 2-fattest number with a < f ≤ b, for a < b ≤ 64, as a number to compute
abbrev pub fattest_of : ℕ → ℕ → ℕ
fattest_of a b = fattest_from 6 a b

-- a search over the numbers strictly between lo and up can make n probes: each at the 2-fattest number f there, after
-- which it goes on below f, or above some number from f on
pub data Probes : ℕ → ℕ → ℕ → Type 0 where
  done : {lo up : ℕ} → Probes lo up 0
  below : {lo up n : ℕ} (f : ℕ) → Fattest lo (up - 1) f → Probes lo f n → Probes lo up (suc n)
  onward : {lo up n : ℕ} (f len : ℕ) → Fattest lo (up - 1) f → f ≤ len → len < up → Probes len up n
      → Probes lo up (suc n)

-- how many binary digits a number below 2 ^ 64 has: none for 0
abbrev pub binary_digits : ℕ → ℕ
binary_digits n = 64 - count_leading_zeros 64 n
