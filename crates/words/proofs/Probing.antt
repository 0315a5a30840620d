-- A fat binary search makes few probes: where up is a multiple of 2 ^ k and the numbers strictly between are fewer
-- than 2 ^ k, at most k. Assumes nothing.
use Rattle.std.proofs.Common.{◌≡◌, ℕ, zero, suc, ◌+◌, ◌-◌, ◌*◌, ◌/◌, ◌%◌, ◌^◌, ◌<◌, ◌≤◌, ◌⊎◌, sym, refl, ◌∙◌, inl, inr, ⊎_elim, suc-le-suc, zero-le, lt_of_mul-lt-mul_right, div-add-mod', div-mul-le_self, arith, pow_pos, pow_mono}
use native.Mathlib.Nat.{le-suc, le_step, add-mod_right, lt-div-mul-add}
use native.Mathlib.Decide.{dec_le}
use lib.Count.{leading_length}
use Rattle.words.specs.Fat.{Fattest, Probes, done, below, onward, binary_digits}
use Rattle.words.proofs.Fatness.{multiple_down, fattest_one, fattest_at}

-- the last multiple of a power below a multiple
last : (n k : ℕ) → 0 < n → n % 2 ^ k ≡ 0 → (n - 1) / 2 ^ k * 2 ^ k + 2 ^ k ≡ n
last n k h e =
    let p = 2 ^ k in
    let m = (n - 1) / p in
    let whole = div-add-mod' n p in
    let under = div-mul-le_self (n - 1) p in
    let over = lt-div-mul-add {a = n - 1} (pow_pos k) in
    let lo : m < n / p = lt_of_mul-lt-mul_right p (omega arith) in
    let hi : n / p < m + 2 = lt_of_mul-lt-mul_right p (omega arith) in
    let next : n / p ≡ m + 1 = omega arith in
    omega (arith, rw next at whole)

module _ {lo up f : ℕ} (j : ℕ) (F : Fattest lo (up - 1) f) (e : up % 2 ^ suc j ≡ 0)
    (h : up ≤ lo + 2 ^ suc j) where
  -- fewer than 2 ^ j numbers, or the probe is 2 ^ j below the end
  halving : (up ≤ lo + 2 ^ j) ⊎ (f + 2 ^ j ≡ up)
  halving = elim (dec_le up (lo + 2 ^ j)) [ yes l ↦ inl l | no l ↦ inr (probe l) ]
    where
      probe : ¬ (up ≤ lo + 2 ^ j) → f + 2 ^ j ≡ up
      probe l =
          let down = last up j (omega arith) (multiple_down up j (suc j) (le-suc j) e) in
          let next = last up (suc j) (omega arith) e in
          let same = fattest_one F (fattest_at lo (up - 1) j (omega arith) (omega arith)) in
          omega arith

pub probes_le : {lo up n : ℕ} (k : ℕ) → Probes lo up n → up % 2 ^ k ≡ 0 → up ≤ lo + 2 ^ k → n ≤ k
probes_le zero done e h = zero-le
probes_le zero (below f F P) e h = absurd (omega arith)
probes_le zero (onward f len F l u P) e h = absurd (omega arith)
probes_le (suc j) done e h = zero-le
probes_le {up = up} (suc j) (below f F P) e h =
    let d = multiple_down up j (suc j) (le-suc j) e in
    ⊎_elim (λ l. le_step (probes_le j (below f F P) d l))
    (λ q. suc-le-suc (probes_le j P (sym (add-mod_right f (2 ^ j)) ∙ rw q d) (omega arith))) (halving j F e h)
probes_le {up = up} (suc j) (onward f len F l u P) e h =
    let d = multiple_down up j (suc j) (le-suc j) e in
    ⊎_elim (λ k. le_step (probes_le j (onward f len F l u P) d k))
    (λ q. suc-le-suc (probes_le j P d (omega arith))) (halving j F e h)

-- a search for a length from L to 64 makes at most as many probes as 63 - L has bits, and at most 6
pub probes_from : {n : ℕ} (L : ℕ) → L < 64 → Probes L 64 n
    → (n ≤ binary_digits (63 - L)) × (binary_digits (63 - L) ≤ 6)
probes_from L h P =
    let t = leading_length 64 (63 - L) (omega arith) in
    let k = t.0 in
    let small : ¬ (7 ≤ k) = λ g. (let big : 2 ^ 7 ≤ 2 ^ k = pow_mono g in omega arith) in
    let few = probes_le k P (multiple_down 64 k 6 (omega arith) refl) (omega arith) in
    omega arith
