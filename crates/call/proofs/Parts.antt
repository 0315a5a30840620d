-- A part `&mut s[a..]` that was lent and came back: what stands before it is as it was, and from a on there is what
-- came back. Assumes nothing.
use mathlib.Core.Path.{◌≡◌, ap, ◌∙◌}
use mathlib.Core.List.{List, [], ◌++◌, append-nil}
use Prim.Native.Nat.{ℕ, ◌-◌, ◌≤◌}
use native.Mathlib.Nat.{le_refl}
use native.Mathlib.Omega.{arith}
use lib.ListN.{length, take, drop, length-drop, drop_of_length-le}
use lib.Seq.{length-take-le, take_all, take_at, drop_at}
use borrow.Rule.Slice.PartMut.{put_mid, post_of}

-- the part as it was lent
pub part_is : (a : ℕ) (xs : List ℕ) → take (length xs - a) (drop a xs) ≡ drop a xs
part_is a xs = take_all (length xs - a) (drop a xs) (simp length-drop (le_refl (length xs - a)))

module _ (a : ℕ) (xs ys : List ℕ) (h : a ≤ length xs) where
  nothing_after : post_of a (length xs - a) xs ≡ []
  nothing_after = drop_of_length-le (drop a xs) {i = length xs - a} (simp length-drop (omega arith))

  whole : put_mid a (length xs - a) xs ys ≡ take a xs ++ ys
  whole =
      ap (λ (z : List ℕ). take a xs ++ (ys ++ z)) nothing_after ∙ ap (λ (z : List ℕ). take a xs ++ z) (append-nil ys)

  pub from_part : drop a (put_mid a (length xs - a) xs ys) ≡ ys
  from_part = ap (drop a) whole ∙ drop_at (take a xs) ys a (length-take-le a xs h)

  pub before_part : take a (put_mid a (length xs - a) xs ys) ≡ take a xs
  before_part = ap (take a) whole ∙ take_at (take a xs) ys a (length-take-le a xs h)
