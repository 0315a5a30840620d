-- Remainders by m from products with its reciprocal r. W is 2 ^ 64, or any number. Assumes nothing.
use Rattle.std.proofs.Common.{◌≡◌, ℕ, suc, ◌+◌, ◌-◌, ◌*◌, ◌/◌, ◌%◌, ◌^◌, ◌<◌, ◌≤◌, sym, ap, ◌∙◌, le_of_lt, mul-le-mul_right, mod-lt, mod-eq_of_lt, mul_comm, add-mul, lt_of_mul-lt-mul_right, mul-le-mul_left, mul-lt-mul_of_pos_right, div-add-mod', div-mul-le_self, le_of_mul-le-mul_right, arith, w64, Fits}
use native.Mathlib.Nat.{lt-div-mul-add, div-eq_of_lt-le, mul-add-mod_self_right}
use native.Mathlib.Decide.{dec_le}
use Rattle.words.proofs.Products.{sort}

-- what is left beside a multiple is the remainder, where it is small
left_over : {h m : ℕ} (q s : ℕ) → h ≡ q * m + s → s < m → s ≡ h % m
left_over {m = m} q s e l = sym (rw e (mul-add-mod_self_right q m s ∙ mod-eq_of_lt l))

-- d is what is left without m, once too often where it wraps: then the highest bit is set, and m is given back
given_back : (m left d : ℕ) → m ≤ 2 ^ 63 → d < 2 ^ 64 → (d + m) % 2 ^ 64 ≡ left → left < m + m
    → (d + d / 2 ^ 63 * m) % 2 ^ 64 ≡ left % m
given_back m left d half word e less =
    elim (dec_le m left) [
      | yes more ↦
          let bit : d / 2 ^ 63 ≡ 0 = omega arith in
          let sum : (d + 0 * m) % 2 ^ 64 ≡ left - m = omega arith in
          rw bit (sum ∙ left_over 1 (left - m) (omega arith) (omega arith))
      | no fewer ↦
          let bit : d / 2 ^ 63 ≡ 1 = omega arith in
          let sum : (d + 1 * m) % 2 ^ 64 ≡ left = omega arith in
          rw bit (sum ∙ left_over 0 left (omega arith) (omega arith))
    ]

-- so h without q times m, where q is the quotient or one less
pub corrected : (h m q d : ℕ) → q * m ≤ h → h < q * m + (m + m) → m ≤ 2 ^ 63 → d < 2 ^ 64
    → (d + m) % 2 ^ 64 ≡ h - q * m
    → (d + d / 2 ^ 63 * m) % 2 ^ 64 ≡ h % m
corrected h m q d under over half word e =
    let whole : q * m + (h - q * m) ≡ h = omega arith in
    given_back m (h - q * m) d half word e (omega arith) ∙ rw whole at (sym (mul-add-mod_self_right q m (h - q * m)))

-- what is given back is m at most
pub one_bit : {m d : ℕ} → m < 2 ^ 64 → d < 2 ^ 64 → Fits w64 (d / 2 ^ 63 * m)
one_bit {m} {d} hm hd =
    let bit : d / 2 ^ 63 ≤ 1 = omega arith in
    record { fits = omega (arith, mul-le-mul_right m bit) }

module _ (W m r : ℕ) (some : 0 < W) (within : r * m < W) (most : W ≤ r * m + m) where
  -- the quotient from the reciprocal is not too large
  pub quotient_under : (h : ℕ) → h * r / W * m ≤ h
  quotient_under h =
      let q = h * r / W in
      let low : q * W * m ≤ h * r * m = mul-le-mul_right m (div-mul-le_self (h * r) W) in
      let up : h * (r * m) ≤ h * W = mul-le-mul_left h (le_of_lt within) in
      le_of_mul-le-mul_right (omega (arith, simp sort at low, simp sort at up)) some

  -- and at most one too small
  pub quotient_over : (h : ℕ) → h < W → 0 < m → h < h * r / W * m + (m + m)
  quotient_over h small pos =
      let q = h * r / W in
      let up : suc (h * r) * m ≤ (q * W + W) * m = mul-le-mul_right m (lt-div-mul-add some) in
      let low : h * W ≤ h * (r * m + m) = mul-le-mul_left h most in
      let last : h * m < W * m = mul-lt-mul_of_pos_right small pos in
      lt_of_mul-lt-mul_right W (omega (arith, simp sort at low, simp sort at up, simp sort at last))

  -- the low word of x * (r + 1) is the fraction x / m in units of 1 / W, and a little more; times m it gives the
  -- remainder
  of_parts : (q s : ℕ) → s < m → (q * m + s) * m < W → (q * m + s) * (r + 1) % W * m / W ≡ s
  of_parts q s below small =
      let x = q * m + s in
      let e : ℕ = r * m + m - W in
      let low = q * e + s * (r + 1) in
      let over : r * m + m ≡ W + e = omega arith in
      let product : x * (r + 1) ≡ q * W + low =
      simp sort (omega (arith, simp sort at (ap (λ (n : ℕ). q * n) over))) in
      let scaled : low * m ≡ x * e + s * W =
      simp sort (omega (arith, simp sort at (ap (λ (n : ℕ). s * n) over))) in
      let little : x * e ≤ x * m = mul-le-mul_left x (omega arith) in
      let less : low * m < (s + 1) * W = omega (arith, add-mul s 1 W) in
      let fits : low < W = lt_of_mul-lt-mul_right m (omega (arith, mul-le-mul_right W below, mul_comm m W)) in
      rw (← left_over q low product fits) (div-eq_of_lt-le W (omega arith) less)

  pub fraction : (x : ℕ) → x * m < W → 0 < m → x * (r + 1) % W * m / W ≡ x % m
  fraction x small pos =
      let parts = div-add-mod' x m in
      rw parts at (of_parts (x / m) (x % m) (mod-lt x pos) (rw parts small))
