-- The laws of `shared_bits`. Assumes nothing.
use Rattle.std.proofs.Common.{◌≡◌, ℕ, suc, ◌+◌, ◌-◌, ◌*◌, ◌/◌, ◌^◌, ◌<◌, ◌≤◌, min, ◌↔◌, sym, ◌∙◌, le_refl, lt_of_lt_of_le, le_of_lt, div-lt_iff_lt-mul, add-one, arith, pow_pos, pow_mono, shr-shr}
use native.Mathlib.Nat.{div-eq_of_lt}
use lib.Bits.{bit_xor, xor_add_and, and_le_l, and_le_r, xor_self, xor_shr, xor_lt}
use lib.Count.{count_leading_zeros, leading_le, leading_length}
use lib.Pow.{shr_mono}
use Rattle.words.specs.Keys.{bit_at, shared_bits}
use Rattle.words.specs.Vouched.{SharedIff}

-- two numbers are equal where their xor is 0
xor_zero : (a b : ℕ) → bit_xor a b ≡ 0 → a ≡ b
xor_zero a b e = omega (arith, xor_add_and a b, and_le_l a b, and_le_r a b)

-- the first L of the 64 digits of x are zeros where nothing is left of x without the other k
leading_iff : (L k x : ℕ) → L + k ≡ 64 → x < 2 ^ 64 → (L ≤ count_leading_zeros 64 x) ↔ (x / 2 ^ k ≡ 0)
leading_iff L k x e hx =
    let n = leading_length 64 x hx in (
      (λ h. div-eq_of_lt (lt_of_lt_of_le n.2 (pow_mono (omega arith)))),
      (λ z.
          let small : x < 1 * 2 ^ k = (div-lt_iff_lt-mul (pow_pos k)).0 (omega arith) in
          let no_more : ¬ (count_leading_zeros 64 x < L) =
          λ g. (let big : 2 ^ suc k ≤ 2 ^ n.0 = pow_mono (omega arith) in omega arith) in
          omega arith),
    )

-- one more digit dropped
pub halve : (x k : ℕ) → x / 2 ^ suc k ≡ x / 2 ^ k / 2
halve x k = sym (rw add-one at (shr-shr x k 1))

pub shared_le : (a b : ℕ) → shared_bits a b ≤ 64
shared_le a b = leading_le 64 (bit_xor a b)

module _ (a b : ℕ) (ha : a < 2 ^ 64) (hb : b < 2 ^ 64) where
  -- a and b share L bits where their first L bits, all but the last k, are the same
  pub shared_at : (L k : ℕ) → L + k ≡ 64 → (L ≤ shared_bits a b) ↔ (a / 2 ^ k ≡ b / 2 ^ k)
  shared_at L k e =
      let law = leading_iff L k (bit_xor a b) e (xor_lt 64 a b ha hb) in
      ((λ h. xor_zero _ _ (sym (xor_shr a b k) ∙ law.0 h)), (λ z. law.1 (xor_shr a b k ∙ rw z (xor_self (b / 2 ^ k)))))

pub shared_iff : SharedIff
shared_iff a b ha hb L h = shared_at a b ha hb L (64 - L) (omega arith)

module _ (a b : ℕ) (ha : a < 2 ^ 64) (hb : b < 2 ^ 64) (less : a < b) where
  pub shared_lt : shared_bits a b < 64
  shared_lt =
      let no : ¬ (64 ≤ shared_bits a b) =
      λ g. (let e = (shared_at a b ha hb 64 0 (omega arith)).0 g in omega arith) in
      omega arith

  -- the smaller and the larger of two keys are the same above digit k and part there
  pub parting : (k : ℕ) → shared_bits a b + suc k ≡ 64
      → (a / 2 ^ suc k ≡ b / 2 ^ suc k) × (a / 2 ^ k < b / 2 ^ k)
  parting k e =
      let s = shared_bits a b in
      let apart : ¬ (a / 2 ^ k ≡ b / 2 ^ k) =
      λ z. (let g = (shared_at a b ha hb (suc s) k (omega arith)).1 z in omega arith) in
      ((shared_at a b ha hb s (suc k) e).0 (le_refl s), omega (arith, shr_mono k (le_of_lt less)))

  -- the first bit that they do not share is 0 in the smaller and 1 in the larger
  pub parting_bits : (bit_at (shared_bits a b) a ≡ 0) × (bit_at (shared_bits a b) b ≡ 1)
  parting_bits =
      let k = 63 - shared_bits a b in
      let p = parting k (omega (arith, shared_lt)) in
      omega (arith, halve a k, halve b k)

-- of three keys in order, the outer two share what both neighbours share
pub shared_min : (a b c : ℕ) → a ≤ b → b ≤ c → c < 2 ^ 64
    → shared_bits a c ≡ min (shared_bits a b) (shared_bits b c)
shared_min a b c h l hc =
    let ha : a < 2 ^ 64 = omega arith in
    let hb : b < 2 ^ 64 = omega arith in
    let ac = shared_iff a c ha hc in
    let ab = shared_iff a b ha hb in
    let bc = shared_iff b c hb hc in
    let s = shared_bits a c in
    let m = min (shared_bits a b) (shared_bits b c) in
    let hs : s ≤ 64 = shared_le a c in
    let hm : m ≤ 64 = omega (arith, shared_le a b) in
    let e = (ac s hs).0 (le_refl s) in
    let ea = (ab m hm).0 (omega arith) in
    let eb = (bc m hm).0 (omega arith) in
    let ka = shr_mono (64 - s) h in
    let kb = shr_mono (64 - s) l in
    omega (arith, (ab s hs).1 (omega arith), (bc s hs).1 (omega arith), (ac m hm).1 (ea ∙ eb))
