-- The hexadecimal text of a number: its 16 digits, one digit more, and 16 digits at a position
-- that an end byte follows. Assumes nothing.
use Rattle.std.proofs.Common.{Some, None}
use Prim.Native.Nat.{ℕ, zero, suc, ◌+◌, ◌*◌, ◌/◌, ◌%◌, ◌^◌, ◌<◌, ◌≤◌}
use native.Mathlib.Nat.{pow-suc, pow-le-pow_right}
use native.Mathlib.Numerals.{add-one}
use native.Mathlib.Decide.{dec_lt}
use native.Mathlib.Omega.{arith}
use mathlib.Core.List.{List, [], ◌∷◌, ◌++◌, append_assoc}
use mathlib.Core.Path.{◌≡◌, refl, sym, ◌∙◌}
use lib.ListN.{length, drop, get_or, length-append, get_or-append}
use lib.Seq.{slice, slice_empty, get_or_at}
use Rattle.digits.specs.Texts.{Has, Reads}
use Rattle.digits.specs.Numbers.{glyph, digits_in, hex_text, ended, most_word}
use Rattle.digits.proofs.Positions.{from_at, from_length, from_first, slice_snoc, slice_has, Unique}
use Rattle.digits.proofs.Glyphs.{glyph_same, digits_length}

-- ---- 16 digits

hex_more : (k v d : ℕ) → d ≤ 15 → digits_in 16 (k + 1) (v * 16 + d) ≡ digits_in 16 k v ++ (glyph d ∷ [])
unfolding digits_in
hex_more k v d h =
    let q : (v * 16 + d) / 16 ≡ v = omega arith in
    let r : (v * 16 + d) % 16 ≡ d = omega arith in
    rw (add-one, q, r)

pub hex_length : (v : ℕ) → length (hex_text v) ≡ 16
unfolding hex_text
hex_length v = digits_length 16 16 v

-- each byte of a text is a digit's
digit_at : (m v k : ℕ) → k < m → (d : ℕ) × (d ≤ 15) × (glyph d ≡ get_or (digits_in 16 m v) k 0)
unfolding digits_in
digit_at zero v k h = absurd (omega arith)
digit_at (suc m) v k h = elim (dec_lt k m) [
  | yes g ↦ let w = digit_at m (v / 16) k g in
      let e = digits_length 16 m (v / 16) in
      (w.0, w.1, w.2 ∙ sym (get_or-append (digits_in 16 m (v / 16)) (glyph (v % 16) ∷ []) 0 k (omega arith)))
  | no g ↦ let e = digits_length 16 m (v / 16) in
      (v % 16, omega arith, sym (get_or_at (digits_in 16 m (v / 16)) (glyph (v % 16)) [] 0 k (omega arith)))
]

-- lists of one length that begin alike
append_same : {A : Type 0} (xs ys : List A) (r q : List A) → length xs ≡ length ys → xs ++ r ≡ ys ++ q
    → (xs ≡ ys) × (r ≡ q)
append_same [] [] r q h e = (refl, e)
append_same [] (y ∷ ys) r q h e = absurd (omega arith)
append_same (x ∷ xs) [] r q h e = absurd (omega arith)
append_same (x ∷ xs) (y ∷ ys) r q h e =
    let l : length xs ≡ length ys = omega arith in
    let t : xs ++ r ≡ ys ++ q = cc in
    let w = append_same xs ys r q l t in (let u = w.0 in let z : x ≡ y = cc in cc, w.1)

hex_inj : (k v w : ℕ) → v < 16 ^ k → w < 16 ^ k → digits_in 16 k v ≡ digits_in 16 k w → v ≡ w
unfolding digits_in
hex_inj zero v w hv hw e = omega arith
hex_inj (suc k) v w hv hw e =
    let p : 16 ^ suc k ≡ 16 ^ k * 16 = pow-suc 16 k in
    let s = append_same (digits_in 16 k (v / 16)) (digits_in 16 k (w / 16)) (glyph (v % 16) ∷ [])
    (glyph (w % 16) ∷ [])
    (digits_length 16 k (v / 16) ∙ sym (digits_length 16 k (w / 16))) e in
    let a : v / 16 ≡ w / 16 = hex_inj k (v / 16) (w / 16) (omega arith) (omega arith) s.0 in
    let t = s.1 in
    let g : glyph (v % 16) ≡ glyph (w % 16) = cc in
    let b : v % 16 ≡ w % 16 = glyph_same (v % 16) (w % 16) (omega arith) (omega arith) g in
    omega arith

-- one text, one number
pub hex_unique : (most e : ℕ) → most ≤ most_word → Unique most (ended hex_text e)
unfolding hex_text
hex_unique most e h v w r q hv hw f =
    let a = append_same (hex_text v) (hex_text w) ((e ∷ []) ++ r) ((e ∷ []) ++ q)
    (hex_length v ∙ sym (hex_length w))
    (sym (append_assoc (hex_text v) (e ∷ []) r) ∙ f ∙ append_assoc (hex_text w) (e ∷ []) q) in
    hex_inj 16 v w (omega arith) (omega arith) a.0

-- ---- at a position

pub hex_start : (s : List ℕ) (i : ℕ) → digits_in 16 0 0 ≡ slice i (i + 0) s
unfolding digits_in
hex_start s i = let a : i + 0 ≡ i = omega arith in rw (a, slice_empty)

-- a digit more
module _ (k v d : ℕ) (h : d ≤ 15) where
  pub hex_below : v < 16 ^ k → v * 16 + d < 16 ^ (k + 1)
  hex_below l = rw (add-one, pow-suc) (omega arith)

  pub hex_fits : v < 16 ^ k → k < 16 → v * 16 + d < 2 ^ 64
  hex_fits l g =
      let p : 16 ^ k ≤ 16 ^ 15 = pow-le-pow_right (omega arith) {i = k} {j = 15} (omega arith) in omega arith

  pub hex_step : (s : List ℕ) (i : ℕ) → i + k < length s → glyph d ≡ get_or s (i + k) 0
      → digits_in 16 k v ≡ slice i (i + k) s
      → digits_in 16 (k + 1) (v * 16 + d) ≡ slice i (i + (k + 1)) s
  hex_step s i l e f =
      let a : i + (k + 1) ≡ i + k + 1 = omega arith in
      hex_more k v d h ∙ rw (a, slice_snoc s i (i + k) (omega arith) l) cc

module _ (s : List ℕ) (i most e : ℕ) where
  ended_length : (v : ℕ) → length (ended hex_text e v) ≡ 17
  ended_length v = let a = hex_length v in let b = length-append (hex_text v) (e ∷ []) in omega arith

  pub hex_short : length s < i + 17 → Reads most (ended hex_text e) s i None
  unfolding Reads
  hex_short h v hv rest f = let a = from_length s i (ended hex_text e v) rest f in let b = ended_length v in omega arith

  -- a byte that is no digit
  pub hex_none : (k : ℕ) → k < 16 → ((d : ℕ) → d ≤ 15 → glyph d ≡ get_or s (i + k) 0 → ⊥)
      → Reads most (ended hex_text e) s i None
  unfolding Reads hex_text
  hex_none k h out v hv rest f =
      let w = digit_at 16 v k h in
      let g = from_first s i (hex_text v) (e ∷ []) rest f in
      out w.0 w.1 (w.2 ∙ sym (from_at s i (hex_text v) ((e ∷ []) ++ rest) g k (omega (arith, hex_length v))))

  -- another byte after the digits
  pub hex_open : (get_or s (i + 16) 0 ≡ e → ⊥) → Reads most (ended hex_text e) s i None
  unfolding Reads
  hex_open h v hv rest f =
      let n = hex_length v in
      h (from_at s i (ended hex_text e v) rest f 16 (omega (arith, ended_length v)) ∙ get_or_at (hex_text v) e [] 0 16 n)

  module _ (v : ℕ) (room : i + 17 ≤ length s) (fits : v < 16 ^ 16) (text : digits_in 16 16 v ≡ slice i (i + 16) s)
      (last : get_or s (i + 16) 0 ≡ e) where
    hex_has : Has s i (ended hex_text e v) (i + 17)
    unfolding hex_text
    hex_has =
        let a : i + 17 ≡ i + 16 + 1 = omega arith in
        slice_has s i (i + 17) (ended hex_text e v) (omega arith) room
        (rw (text, a, slice_snoc s i (i + 16) (omega arith) (omega arith), last))
        (ended_length v ∙ omega arith)

    -- a number above the limit
    pub hex_over : most < v → Reads most (ended hex_text e) s i None
    unfolding Reads
    hex_over h w hw rest f =
        let same : v ≡ w =
        hex_unique v e (omega arith) v w (drop (i + 17) s) rest (omega arith) (omega arith)
        (sym hex_has.from.1 ∙ f.1) in
        omega arith

    pub hex_value_is : v ≤ most → Reads most (ended hex_text e) s i (Some (record { value = v; next = i + 17 }))
    unfolding Reads
    hex_value_is h = (h, hex_has)
