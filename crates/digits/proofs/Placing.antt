-- Laws of a text that is put at a position: a byte more at its end, texts one after the other, and what is left where
-- nothing is written. Assumes nothing.
use Prim.Native.Nat.{ℕ, suc, ◌+◌, ◌<◌, ◌≤◌}
use native.Mathlib.Omega.{arith}
use mathlib.Core.List.{List, [], ◌∷◌, ◌++◌, append_assoc}
use mathlib.Core.Path.{◌≡◌, refl, sym, ap, ◌∙◌}
use lib.ListN.{length, take, drop, set, length-append, length-drop, take-append-drop}
use lib.Seq.{set_split, take-set-le, length-take-le, take_at, drop_at, drop-drop}
use Rattle.std.proofs.Common.{Option, Some, None}
use Rattle.digits.specs.Texts.{placed, Writes}

pub placed_none : (out : List ℕ) (i : ℕ) → placed out i [] ≡ out
placed_none out i = let e : i + 0 ≡ i = omega arith in rw e (take-append-drop i out)

module _ (out : List ℕ) (i : ℕ) (t : List ℕ) where
  head_length : i ≤ length out → length (take i out ++ t) ≡ i + length t
  head_length h = rw (length-append, length-take-le i out h)

  pub length_placed : i + length t ≤ length out → length (placed out i t) ≡ length out
  length_placed h =
      let a : i ≤ length out = omega arith in
      rw (length-append, length-append, length-take-le i out a, length-drop) (omega arith)

  -- a byte more at the end: put before the text
  pub placed_back : (j b : ℕ) → j ≡ i + length t → j < length out
      → placed (set out j b) i t ≡ placed out i (t ++ (b ∷ []))
  placed_back j b e h =
      let a : take i (set out j b) ≡ take i out = take-set-le i out j b (omega arith) in
      let d : drop j (set out j b) ≡ b ∷ drop (suc j) out =
      ap (drop j) (set_split out j b h)
      ∙ drop_at (take j out) (b ∷ drop (suc j) out) j (length-take-le j out (omega arith)) in
      let n : i + length (t ++ (b ∷ [])) ≡ suc j = (let z = length-append t (b ∷ []) in omega arith) in
      rw (← e, a, d, n, append_assoc)

  -- a text after the text
  pub placed_then : (u : List ℕ) → i + length t ≤ length out
      → placed (placed out i t) (i + length t) u ≡ placed out i (t ++ u)
  placed_then u h =
      let l = head_length (omega arith) in
      let e : placed out i t ≡ (take i out ++ t) ++ drop (i + length t) out =
      sym (append_assoc (take i out) t (drop (i + length t) out)) in
      let a : take (i + length t) (placed out i t) ≡ take i out ++ t =
      ap (take (i + length t)) e ∙ take_at (take i out ++ t) (drop (i + length t) out) (i + length t) l in
      let d : drop (i + length t) (placed out i t) ≡ drop (i + length t) out =
      ap (drop (i + length t)) e ∙ drop_at (take i out ++ t) (drop (i + length t) out) (i + length t) l in
      let f : drop (i + length t + length u) (placed out i t) ≡ drop (i + length t + length u) out =
      sym (drop-drop (length u) (i + length t) (placed out i t)) ∙ ap (drop (length u)) d
      ∙ drop-drop (length u) (i + length t) out in
      let n : i + length (t ++ u) ≡ i + length t + length u = (let z = length-append t u in omega arith) in
      rw (a, f, n) (simp append_assoc)

-- ---- what a writer says

pub writes_off : (t out : List ℕ) (i : ℕ) → length out < i + length t → Writes t out i out None
unfolding Writes
writes_off t out i h = (h, refl)

pub writes_at : (t out after : List ℕ) (i j : ℕ) → j ≡ i + length t → j ≤ length out
    → after ≡ placed out i t → Writes t out i after (Some j)
unfolding Writes
writes_at t out after i j e h f = (e, h, f)

-- a writer keeps the length
pub writes_length : (t out after : List ℕ) (i : ℕ) (r : Option ℕ) → Writes t out i after r
    → length after ≡ length out
unfolding Writes
writes_length t out after i (Some j) h =
    let a = h.0 in let b = h.1 in ap length h.2 ∙ length_placed out i t (omega arith)
writes_length t out after i None h = ap length h.1

pub writes_next : (t out after : List ℕ) (i j : ℕ) → Writes t out i after (Some j) → j ≡ i + length t
unfolding Writes
writes_next t out after i j h = h.0

-- a text after a text that was written
pub writes_then : (t out mid : List ℕ) (i j : ℕ) → Writes t out i mid (Some j) → (u after : List ℕ) (r : Option ℕ)
    → i + length (t ++ u) ≤ length out
    → Writes u mid j after r → Writes (t ++ u) out i after r
unfolding Writes
writes_then t out mid i j h u after (Some k) room g =
    let l = length-append t u in
    let a = h.0 in
    let b = h.1 in
    let c = g.0 in
    (omega arith, omega arith, g.2 ∙ rw (h.2, a) (placed_then out i t u (omega arith)))
writes_then t out mid i j h u after None room g =
    let l = length-append t u in
    let a = h.0 in
    let c = g.0 in
    let m = writes_length t out mid i (Some j) h in
    absurd (omega arith)

-- no room for a text is none for the text and another
pub writes_first : (t out after : List ℕ) (i : ℕ) → Writes t out i after None → (u : List ℕ)
    → Writes (t ++ u) out i after None
unfolding Writes
writes_first t out after i h u = let l = length-append t u in let a = h.0 in (omega arith, h.1)

-- in a room for both, a text and then another from the place after it
pub writes_on : (t u out mid after : List ℕ) (i j : ℕ) (r : Option ℕ) → i + length (t ++ u) ≤ length out
    → Writes t out i mid (Some j)
    → (j + length u ≤ length mid → Writes u mid j after r) → Writes (t ++ u) out i after r
writes_on t u out mid after i j r room w g =
    let l = length-append t u in
    let m = writes_length t out mid i (Some j) w in
    let k = writes_next t out mid i j w in
    writes_then t out mid i j w u after r room (g (omega arith))
