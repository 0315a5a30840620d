-- The laws of `Fattest`. Assumes nothing.
use Rattle.std.proofs.Common.{◌≡◌, ℕ, zero, suc, ◌+◌, ◌-◌, ◌*◌, ◌/◌, ◌%◌, ◌^◌, ◌<◌, ◌≤◌, Bool, true, false, cond, ltb, sym, refl, ◌∙◌, lt_of_le_of_lt, mod-eq_of_lt, div-lt_iff_lt-mul, lt_of_mul-lt-mul_right, pow-suc, div-add-mod', div-mul-le_self, arith, pow_pos, ltb-false, ltb-true}
use native.Mathlib.Nat.{le_dest, zero-mod, mul-mod_left}
use native.Mathlib.Decide.{dec_le}
use lib.Pow.{mod-mod-pow, shr_mono}
use Rattle.words.specs.Keys.{shared_bits}
use Rattle.words.specs.Fat.{Fattest, last_multiple, fattest_from}
use Rattle.words.specs.Vouched.{FattestFound}
use Rattle.words.proofs.Sharing.{halve, shared_lt, parting}

-- a multiple of a power is one of each lower power
pub multiple_down : (n j k : ℕ) → j ≤ k → n % 2 ^ k ≡ 0 → n % 2 ^ j ≡ 0
multiple_down n j k h e =
    let d = le_dest h in
    let k-is : k ≡ d.0 + j = omega arith in
    sym (mod-mod-pow n d.0 j) ∙ rw (← k-is, e) (zero-mod (2 ^ j))

-- no other number of the range is a multiple of as high a power
pub fattest_highest : {a b f g j : ℕ} (P : Fattest a b f) → a < g → g ≤ b → P.power ≤ j
    → g % 2 ^ j ≡ 0 → g ≡ f
fattest_highest {g = g} {j = j} P ag gb h e = P.only g ag gb (multiple_down g P.power j h e)

-- a range has one 2-fattest number
pub fattest_one : {a b f g : ℕ} → Fattest a b f → Fattest a b g → f ≡ g
fattest_one P Q =
    elim (dec_le P.power Q.power) [
      | yes h ↦ sym (fattest_highest P Q.above Q.within h Q.multiple)
      | no h ↦ fattest_highest Q P.above P.within (omega arith) P.multiple
    ]

-- it is the last multiple of 2 ^ k in the range, where that has one, and none of 2 ^ (k + 1)
pub fattest_at : (a b k : ℕ) → a < b / 2 ^ k * 2 ^ k → b / 2 ^ suc k * 2 ^ suc k ≤ a
    → Fattest a b (b / 2 ^ k * 2 ^ k)
fattest_at a b k h l =
    let p = 2 ^ k in
    let n = b / p in
    record {
      above = h;
      within = div-mul-le_self b p;
      power = k;
      multiple = mul-mod_left n p;
      only = λ g ag gb e.
          let q = g / p in
          let low : n / 2 * 2 < q =
          lt_of_mul-lt-mul_right p (omega (arith, rw (halve b k, pow-suc 2 k) at l, div-add-mod' g p)) in
          let same : q ≡ n = omega (arith, shr_mono k gb) in
          rw (← same) (omega (arith, div-add-mod' g p));
    }

-- it is b without the digits below the highest one in which the ends differ
pub fattest_parting : (a b : ℕ) → a < b → b < 2 ^ 64 → Fattest a b (last_multiple (63 - shared_bits a b) b)
fattest_parting a b h hb =
    let k = 63 - shared_bits a b in
    let ha : a < 2 ^ 64 = omega arith in
    let p = parting a b ha hb h k (omega (arith, shared_lt a b ha hb h)) in
    fattest_at a b k ((div-lt_iff_lt-mul (pow_pos k)).0 p.1) (rw (← p.0) (div-mul-le_self a (2 ^ suc k)))

-- as two shifts make it, for nothing is shifted out at the top
pub fattest_shifted : (a b : ℕ) → a < b → b < 2 ^ 64
    → Fattest a b (last_multiple (63 - shared_bits a b) b % 2 ^ 64)
fattest_shifted a b h hb =
    let k = 63 - shared_bits a b in
    rw (mod-eq_of_lt (lt_of_le_of_lt (div-mul-le_self b (2 ^ k)) hb)) (fattest_parting a b h hb)

-- trial finds it: where no multiple of 2 ^ (k + 1) lies there, the first power from 2 ^ k down that has one is the
-- highest
tried : (a b k f : ℕ) (t : Bool) → ltb a (last_multiple k b) ≡ t → last_multiple (suc k) b ≤ a
    → (last_multiple k b ≤ a → Fattest a b f)
    → Fattest a b (cond t (last_multiple k b) f)
tried a b k f true e l lower = fattest_at a b k (ltb-true a (last_multiple k b) e) l
tried a b k f false e l lower = lower (ltb-false a (last_multiple k b) e)

fattest_from_trial : (a b k : ℕ) → a < b → last_multiple (suc k) b ≤ a → Fattest a b (fattest_from k a b)
unfolding fattest_from
fattest_from_trial a b zero h l =
    let one : b / 2 ^ 0 * 2 ^ 0 ≡ b = omega arith in rw one at (fattest_at a b zero (rw one h) l)
fattest_from_trial a b (suc k) h l =
    tried a b (suc k) (fattest_from k a b) (ltb a (last_multiple (suc k) b)) refl l (fattest_from_trial a b k h)

pub fattest_of_found : FattestFound
fattest_of_found a b h l = fattest_from_trial a b 6 h (omega arith)
