-- Stores taken together: the same one by one, and cleared over their named lengths whatever stood there. Assumes
-- nothing.
use mathlib.Core.Path.{◌≡◌, refl, ap, ◌∙◌}
use mathlib.Core.List.{List, ◌++◌}
use Prim.Native.Nat.{ℕ}
use native.Mathlib.Nat.{le_refl}
use lib.ListN.{drop, replicate}
use Rattle.cells.specs.Memory.{cleared}
use Rattle.cells.proofs.Sweeping.{drop_cleared}
use Rattle.stores.specs.Stores.{Stores, lent, cleared_stores}
use Rattle.stores.specs.declared.Sizes.{Sizes}
use Rattle.verdicts.specs.Inner.{Beyond}

pub stores_same : {c h l r w n c' h' l' r' w' n' : List ℕ} → c ≡ c' → h ≡ h' → l ≡ l' → r ≡ r' → w ≡ w' → n ≡ n'
    → lent c h l r w n ≡ lent c' h' l' r' w' n'
stores_same a b d e f g = cc

-- cleared memory is as it was past the length
pub cleared_past : (m : ℕ) (xs : List ℕ) {ys : List ℕ} → ys ≡ cleared m xs → drop m ys ≡ drop m xs
cleared_past m xs e = ap (drop m) e ∙ drop_cleared m m xs (le_refl m)

-- where only cells and work are written, what is past their lengths decides
pub cells_written : (w : Sizes) (S : Stores) {cells work : List ℕ}
    → drop w.cells cells ≡ drop w.cells S.cells → work ≡ cleared w.work S.work
    → Beyond w S (lent cells S.handles S.left S.right work S.lengths)
cells_written w S e swept = record {
  cells = e;
  handles = refl;
  left = refl;
  right = refl;
  work = cleared_past w.work S.work swept;
  lengths = refl;
}

-- what is past a length decides what clearing leaves
cleared_alike : (m : ℕ) (xs ys : List ℕ) → drop m xs ≡ drop m ys → cleared m xs ≡ cleared m ys
cleared_alike m xs ys e = ap (λ (zs : List ℕ). replicate m 0 ++ zs) e

pub cleared_beyond : (w : Sizes) (S S' : Stores) → Beyond w S S' → cleared_stores w S' ≡ cleared_stores w S
cleared_beyond w S S' B =
    stores_same (cleared_alike w.cells _ _ B.cells) (cleared_alike w.handles _ _ B.handles)
    (cleared_alike w.left _ _ B.left) (cleared_alike w.right _ _ B.right)
    (cleared_alike w.work _ _ B.work) (cleared_alike w.lengths _ _ B.lengths)
