-- The laws of `prefix_item`: an odd number, 2 u + 1 for the first l bits u, times 2 ^ (63 - l). Assumes nothing.
use Rattle.std.proofs.Common.{◌≡◌, ℕ, suc, ◌+◌, ◌-◌, ◌*◌, ◌/◌, ◌%◌, ◌^◌, ◌<◌, sym, ◌∙◌, mod-eq_of_lt, zero-lt-suc, pow-suc, arith, pow_pos, pow-add, shl_lt, shr_lt}
use native.Mathlib.Nat.{eq_of_mul-eq-mul_right, le_dest}
use lib.Bits.{bit_or, or_step, or_zero_r, or_lt}
use lib.Pow.{pow-lt}
use Rattle.words.specs.Keys.{prefix_item}
use Rattle.words.specs.Vouched.{ItemTells}
use Rattle.words.proofs.Sharing.{halve}

-- an odd number times a power of two
abbrev odd : ℕ → ℕ → ℕ
odd u k = (2 * u + 1) * 2 ^ k

item_odd : (x l k : ℕ) → l + suc k ≡ 64 → prefix_item x l ≡ odd (x / 2 ^ suc k) k
item_odd x l k e = rw (eqs.0, eqs.1, pow-suc 2 k) (omega arith)
  where
    eqs : (64 - l ≡ suc k) × (63 - l ≡ k)
    eqs = omega arith

-- an odd number times a power is no odd number times a higher power
not_below : (u v k j : ℕ) → odd u k ≡ odd v j → ¬ (k < j)
not_below u v k j e h =
    let d = le_dest h in
    let j-is : j ≡ k + suc d.0 = omega arith in
    let same : 2 * u + 1 ≡ (2 * v + 1) * 2 ^ suc d.0 =
    eq_of_mul-eq-mul_right (2 ^ k) (pow_pos k) _ _ (omega (arith, rw (j-is, pow-add 2 k (suc d.0)) at e)) in
    omega (arith, rw (pow-suc 2 d.0) at same)

odd_inj : (u v k j : ℕ) → odd u k ≡ odd v j → (k ≡ j) × (u ≡ v)
odd_inj u v k j e =
    let same : k ≡ j = omega (arith, not_below u v k j e, not_below v u j k (sym e)) in
    let odds = eq_of_mul-eq-mul_right (2 ^ j) (pow_pos j) (2 * u + 1) (2 * v + 1) (rw same at e) in
    (same, omega arith)

-- an item tells the length of its prefix and the prefix
pub item_inj : ItemTells
item_inj x y l m hl hm e =
    let k = 63 - l in
    let j = 63 - m in
    let r =
    odd_inj (x / 2 ^ suc k) (y / 2 ^ suc j) k j
    (sym (item_odd x l k (omega arith)) ∙ e ∙ item_odd y m j (omega arith)) in
    let same : l ≡ m = omega arith in
    let len : 64 - l ≡ suc k = omega arith in
    (same, rw len (rw (← r.0) at r.1))

-- the function's own way: the first l + 1 bits, the last of them set
or_one : (u : ℕ) → bit_or u 1 ≡ 2 * (u / 2) + 1
or_one u = rw (or_step u 1, or_zero_r (u / 2)) (omega arith)

pub item_or : (x l : ℕ) → l < 64 → bit_or (x / 2 ^ (63 - l)) 1 * 2 ^ (63 - l) ≡ prefix_item x l
item_or x l h = rw (item_odd x l (63 - l) (omega arith), or_one, halve x (63 - l))

pub item_lt : (x l : ℕ) → x < 2 ^ 64 → l < 64 → prefix_item x l < 2 ^ 64
item_lt x l hx h =
    let k = 63 - l in
    let all : suc l + k ≡ 64 = omega arith in
    rw (← item_or x l h)
    (rw all at (shl_lt (suc l) k (or_lt (suc l) (x / 2 ^ k) 1 (shr_lt (suc l) k (rw all hx)) (pow-lt (zero-lt-suc l)))))

pub item_shifted : (x l : ℕ) → x < 2 ^ 64 → l < 64
    → bit_or (x / 2 ^ (63 - l)) 1 * 2 ^ (63 - l) % 2 ^ 64 ≡ prefix_item x l
item_shifted x l hx h = rw (item_or x l h) (mod-eq_of_lt (item_lt x l hx h))
