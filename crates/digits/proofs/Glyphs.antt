-- The digits of a number in a base up to 16: the bytes, one digit more, how many there are, and the text of the last
-- k of them. Assumes nothing.
use Prim.Native.Nat.{ℕ, zero, suc, ◌+◌, ◌-◌, ◌/◌, ◌%◌, ◌<◌, ◌≤◌}
use native.Mathlib.Decide.{dec_lt}
use native.Mathlib.Omega.{arith}
use mathlib.Core.List.{List, [], ◌∷◌, ◌++◌}
use mathlib.Core.Logic.{◌⊎◌, inl, inr, ⊎_elim}
use mathlib.Core.Path.{◌≡◌, refl, sym, ap, ◌∙◌}
use lib.ListN.{length, set, length-append}
use borrow.Author.Tests.{lt-ltb, le-ltb}
use Rattle.digits.specs.Texts.{placed}
use Rattle.digits.specs.Numbers.{glyph, digits_in}
use Rattle.digits.proofs.Placing.{placed_none, placed_back}

pub glyph_low : (d : ℕ) → d < 10 → glyph d ≡ 48 + d
glyph_low d h = rw (lt-ltb d 10 h)

pub glyph_high : (d : ℕ) → 10 ≤ d → glyph d ≡ 87 + d
glyph_high d h = rw (le-ltb d 10 h)

-- the byte of a digit is in one of two ranges, and tells the digit
pub glyph_range : (d b : ℕ) → d ≤ 15 → glyph d ≡ b
    → ((48 ≤ b) × (b ≤ 57) × (d ≡ b - 48)) ⊎ ((97 ≤ b) × (b ≤ 102) × (d ≡ b - 87))
glyph_range d b h e = elim (dec_lt d 10) [
  | yes g ↦ inl (let f = glyph_low d g in (omega arith, omega arith, omega arith))
  | no g ↦ inr (let f = glyph_high d (omega arith) in (omega arith, omega arith, omega arith))
]

pub glyph_same : (a b : ℕ) → a ≤ 15 → b ≤ 15 → glyph a ≡ glyph b → a ≡ b
glyph_same a b h g e =
    let r = glyph_range b (glyph a) g (sym e) in
    ⊎_elim (λ u. ⊎_elim (λ w. omega arith) (λ w. omega arith) r)
    (λ u. ⊎_elim (λ w. omega arith) (λ w. omega arith) r)
    (glyph_range a (glyph a) h refl)

pub digits_length : (b k v : ℕ) → length (digits_in b k v) ≡ k
unfolding digits_in
digits_length b zero v = refl
digits_length b (suc k) v =
    length-append (digits_in b k (v / b)) (glyph (v % b) ∷ []) ∙ let e = digits_length b k (v / b) in omega arith

pub ended_length : (b k v e : ℕ) → length (digits_in b k v ++ (e ∷ [])) ≡ k + 1
ended_length b k v e = length-append (digits_in b k v) (e ∷ []) ∙ ap (λ (n : ℕ). n + 1) (digits_length b k v)

-- the last digit
digits_split : (b k v : ℕ) → 0 < k → digits_in b k v ≡ digits_in b (k - 1) (v / b) ++ (glyph (v % b) ∷ [])
unfolding digits_in
digits_split b k v h = let e : k ≡ suc (k - 1) = omega arith in ap (λ (m : ℕ). digits_in b m v) e

-- the last digit, put before the others
pub digits_back : (b k v : ℕ) (out : List ℕ) (i g : ℕ) → 0 < k → i + k ≤ length out → g ≡ glyph (v % b)
    → placed (set out (i + (k - 1)) g) i (digits_in b (k - 1) (v / b)) ≡ placed out i (digits_in b k v)
digits_back b k v out i g h room e =
    let n = digits_length b (k - 1) (v / b) in
    placed_back out i (digits_in b (k - 1) (v / b)) (i + (k - 1)) g (omega arith) (omega arith)
    ∙ rw (e, digits_split b k v h)

-- the text is whole once no digit is left
pub digits_whole : (b k v e i w j : ℕ) (out after : List ℕ) → j ≡ 0 → i + k < length out
    → placed after i (digits_in b j w) ≡ placed (set out (i + k) e) i (digits_in b k v)
    → after ≡ placed out i (digits_in b k v ++ (e ∷ []))
unfolding digits_in
digits_whole b k v e i w j out after z h f =
    let n = digits_length b k v in
    sym (placed_none after i) ∙ (rw z at f) ∙ placed_back out i (digits_in b k v) (i + k) e (omega arith) h
