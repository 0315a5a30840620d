-- Texts printed one after the other while there is room: the first k of them, the next, and that there is no room for
-- all where there is none for the next. Assumes nothing.
use Rattle.std.proofs.Common.{Some, None}
use mathlib.Core.Path.{◌≡◌, refl}
use mathlib.Core.List.{List}
use Prim.Native.Nat.{ℕ, ◌+◌, ◌-◌, ◌<◌, ◌≤◌}
use native.Mathlib.Nat.{le_refl}
use native.Mathlib.Omega.{arith}
use lib.ListN.{length, take, get_or}
use lib.Seq.{take-take, get_or-take, length-take-le}
use Rattle.digits.specs.Texts.{Writes}
use Rattle.digits.proofs.Placing.{writes_length}
use Rattle.lines.specs.Lines.{texts}
use Rattle.lines.proofs.Putting.{room_off, room_more, put_short, put_more, put_end}
use Rattle.asks.specs.Inner.{Prints}

-- what was written is printed
pub writes_prints : (t out after : List ℕ) (i j : ℕ) → Writes t out i after (Some j) → Prints t out i after (Some j)
unfolding Writes Prints
writes_prints t out after i j w = w

pub prints_off : (t out after : List ℕ) (i : ℕ) → length out < i + length t → Prints t out i after None
unfolding Prints
prints_off t out after i h = h

pub writes_within : (t out after : List ℕ) (i j : ℕ) → Writes t out i after (Some j)
    → (j ≡ i + length t) × (j ≤ length out)
unfolding Writes
writes_within t out after i j w = (w.0, w.1)

writes_short : (t out after : List ℕ) (i : ℕ) → Writes t out i after None → length out < i + length t
unfolding Writes
writes_short t out after i w = w.0

module _ (line : ℕ → List ℕ) (xs out : List ℕ) (i : ℕ) where
  -- the first k texts are written, and there is another
  module _ (k at : ℕ) (mid : List ℕ) (h : k < length xs)
      (w : Writes (texts line (take k xs)) out i mid (Some at)) where
    -- what is left of the room
    left_is : (length out - at) + length (texts line (take k xs)) ≡ length out - i
    left_is = let a = writes_within (texts line (take k xs)) out mid i at w in omega arith

    mid_length : length mid ≡ length out
    mid_length = writes_length (texts line (take k xs)) out mid i (Some at) w

    pub next_off : (after : List ℕ) → Writes (line (get_or xs k 0)) mid at after None
        → Prints (texts line xs) out i after None
    next_off after g =
        let a = writes_within (texts line (take k xs)) out mid i at w in
        let s = writes_short (line (get_or xs k 0)) mid after at g in
        let m = mid_length in
        prints_off (texts line xs) out after i
        (put_short line xs out i (omega arith)
        (room_off line xs (length out - i) (length out - at) k (length (line (get_or xs k 0))) h left_is refl (omega arith)))

    pub next_at : (after : List ℕ) (j : ℕ) → Writes (line (get_or xs k 0)) mid at after (Some j)
        → Writes (texts line (take (k + 1) xs)) out i after (Some j)
    next_at after j g =
        let a = writes_within (texts line (take k xs)) out mid i at w in
        let s = writes_within (line (get_or xs k 0)) mid after at j g in
        let m = mid_length in
        let r =
        room_more line xs (length out - i) (length out - at) k (length (line (get_or xs k 0))) h left_is refl
        (omega arith) in
        let n : length (take (k + 1) xs) ≡ k + 1 = length-take-le (k + 1) xs (omega arith) in
        let first : take k (take (k + 1) xs) ≡ take k xs = take-take k (k + 1) xs (omega arith) in
        let next : get_or (take (k + 1) xs) k 0 ≡ get_or xs k 0 = get_or-take (k + 1) xs k 0 (omega arith) in
        rw (take-take (k + 1) (k + 1) xs (le_refl (k + 1))) at
        (put_more line (take (k + 1) xs) out i k at mid after (omega arith) (omega arith) (rw first w) j (rw next g))

  pub all_at : (k at : ℕ) (after : List ℕ) → k ≡ length xs
      → Writes (texts line (take k xs)) out i after (Some at) → Prints (texts line xs) out i after (Some at)
  all_at k at after e w = writes_prints (texts line xs) out after i at (put_end line xs out i k at after e w)
