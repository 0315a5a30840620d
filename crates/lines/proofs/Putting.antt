-- n lines one after the other, written: the first k of them, the next, and the room that all of them need. Assumes
-- nothing.
use Prim.Native.Nat.{ℕ, ◌+◌, ◌-◌, ◌<◌, ◌≤◌}
use native.Mathlib.Numerals.{add-one}
use native.Mathlib.Omega.{arith}
use mathlib.Core.List.{List, [], ◌∷◌, ◌++◌}
use mathlib.Core.Path.{◌≡◌, sym, ap, subst, ◌∙◌}
use lib.ListN.{length, take, drop, get_or, length-append, take-append-drop}
use lib.Seq.{take-suc, take-length}
use Rattle.digits.specs.Texts.{Writes}
use Rattle.std.proofs.Common.{Some, None}
use Rattle.digits.proofs.Placing.{placed_none, writes_at, writes_then, writes_length, writes_next}
use Rattle.lines.specs.Lines.{texts, Leaves}
use Rattle.lines.proofs.Listing.{texts_append, texts_snoc}

module _ (line : ℕ → List ℕ) (xs : List ℕ) where
  -- the first k + 1 lines
  texts_more : (k : ℕ) → k < length xs
      → texts line (take (k + 1) xs) ≡ texts line (take k xs) ++ line (get_or xs k 0)
  texts_more k h =
      let e : take (k + 1) xs ≡ take k xs ++ (get_or xs k 0 ∷ []) = rw add-one (take-suc xs k 0 h) in
      ap (texts line) e ∙ texts_snoc line (take k xs) (get_or xs k 0)

  -- some of the lines are no longer than all
  texts_part : (k : ℕ) → length (texts line (take k xs)) ≤ length (texts line xs)
  texts_part k =
      let e : length (texts line xs) ≡ length (texts line (take k xs)) + length (texts line (drop k xs)) =
      ap (λ (l : List ℕ). length (texts line l)) (sym (take-append-drop k xs))
      ∙ ap length (texts_append line (take k xs) (drop k xs))
      ∙ length-append (texts line (take k xs)) (texts line (drop k xs)) in
      omega arith

  texts_grow : (k : ℕ) → k < length xs
      → length (texts line (take (k + 1) xs)) ≡ length (texts line (take k xs)) + length (line (get_or xs k 0))
  texts_grow k h = ap length (texts_more k h) ∙ length-append (texts line (take k xs)) (line (get_or xs k 0))

  all_taken : (k : ℕ) → k ≡ length xs → take k xs ≡ xs
  all_taken k e = ap (λ (n : ℕ). take n xs) e ∙ take-length xs

  -- ---- what is left of a room after k lines

  pub room_start : (room : ℕ) → room + length (texts line (take 0 xs)) ≡ room
  unfolding texts
  room_start room = omega arith

  module _ (room left k w : ℕ) (h : k < length xs) (e : left + length (texts line (take k xs)) ≡ room)
      (n : w ≡ length (line (get_or xs k 0))) where
    pub room_off : left < w → Leaves (texts line xs) room None
    unfolding Leaves
    room_off l = let a = texts_grow k h in let b = texts_part (k + 1) in omega arith

    pub room_more : w ≤ left → left - w + length (texts line (take (k + 1) xs)) ≡ room
    room_more l = let a = texts_grow k h in omega arith

  pub room_end : (room left k : ℕ) → k ≡ length xs → left + length (texts line (take k xs)) ≡ room
      → Leaves (texts line xs) room (Some left)
  unfolding Leaves
  room_end room left k e h = ap (λ (t : List ℕ). left + length (texts line t)) (sym (all_taken k e)) ∙ h

  -- ---- k lines put

  module _ (out : List ℕ) (i : ℕ) where
    pub put_short : i ≤ length out → Leaves (texts line xs) (length out - i) None
        → length out < i + length (texts line xs)
    unfolding Leaves
    put_short h l = omega arith

    pub put_room : (left : ℕ) → i ≤ length out → Leaves (texts line xs) (length out - i) (Some left)
        → i + length (texts line xs) ≤ length out
    unfolding Leaves
    put_room left h l = omega arith

    pub put_start : i ≤ length out → Writes (texts line (take 0 xs)) out i out (Some i)
    unfolding texts
    put_start h = writes_at [] out out i i (omega arith) h (sym (placed_none out i))

    -- after k lines there is room for the next, and it is put there
    module _ (k at : ℕ) (mid after : List ℕ) (room : i + length (texts line xs) ≤ length out) (h : k < length xs)
        (w : Writes (texts line (take k xs)) out i mid (Some at)) where
      pub put_fits : Writes (line (get_or xs k 0)) mid at after None → ⊥
      unfolding Writes
      put_fits g =
          let a = texts_part (k + 1) in
          let b = texts_grow k h in
          let m = writes_length (texts line (take k xs)) out mid i (Some at) w in
          let n = writes_next (texts line (take k xs)) out mid i at w in
          let s = g.0 in
          omega arith

      pub put_more : (next : ℕ) → Writes (line (get_or xs k 0)) mid at after (Some next)
          → Writes (texts line (take (k + 1) xs)) out i after (Some next)
      put_more next g =
          let a = texts_part (k + 1) in
          let b = texts_grow k h in
          let l = length-append (texts line (take k xs)) (line (get_or xs k 0)) in
          rw (texts_more k h) (writes_then (texts line (take k xs)) out mid i at w (line (get_or xs k 0)) after
          (Some next) (omega arith) g)

    pub put_end : (k at : ℕ) (after : List ℕ) → k ≡ length xs
        → Writes (texts line (take k xs)) out i after (Some at)
        → Writes (texts line xs) out i after (Some at)
    put_end k at after e w = subst (λ (l : List ℕ). Writes (texts line l) out i after (Some at)) (all_taken k e) w
