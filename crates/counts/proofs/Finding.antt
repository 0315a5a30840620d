-- The cells that are found for an item.
--     cells_found             three cells computed from a hash are those of its item
--     touches_as, put_as      what holds of the cells found for an item holds of the item
-- Assumes nothing.
use mathlib.Core.Path.{◌≡◌, sym, ◌∙◌}
use mathlib.Core.List.{List}
use mathlib.Core.Logic.{inl, inr}
use Prim.Native.Nat.{ℕ, ◌*◌}
use Rattle.cells.specs.Cells.{cell_of, Segment}
use Rattle.jams.specs.Jam.{Touches}
use Rattle.jams.specs.Inner.Peel.{touchb}
use Rattle.jams.specs.Inner.Work.{Put, Spread}
use Rattle.jams.proofs.Puts.{spread}
use Rattle.counts.specs.declared.Touched.{Touched}
use Rattle.counts.specs.Inner.{cells_of, CellsAt}

-- three cells computed from a hash are those of the item with that hash
pub cells_found : (m : ℕ) (h : ℕ → ℕ) (i r : ℕ) (at : Touched) → Segment m → r ≡ h i
    → at.first ≡ cell_of m 0 r → at.second ≡ cell_of m 1 r → at.third ≡ cell_of m 2 r
    → CellsAt (λ j i. cell_of m j (h i)) (3 * m) i at
cells_found m h i r at S e a b c =
    let s : Spread (λ j k. cell_of m j r) (3 * m) i = spread m (λ k. r) i S in
    record {
      first = rw e at a;
      second = rw e at b;
      third = rw e at c;
      spread = record { first = rw (a, b) s.first; second = rw (b, c) s.second; third = rw c s.third };
    }

-- three cells found for item i are its cells
module _ {e : ℕ → ℕ → ℕ} {cap i : ℕ} {at : Touched} (C : CellsAt e cap i at) where
  pub touches_as : {c : ℕ} → Touches (cells_of at) i c → Touches e i c
  touches_as (inl h) = inl (sym C.first ∙ h)
  touches_as (inr (inl h)) = inr (inl (sym C.second ∙ h))
  touches_as (inr (inr h)) = inr (inr (sym C.third ∙ h))

  pub put_as : {a b : List ℕ} → Put (cells_of at) cap i a b → Put e cap i a b
  unfolding touchb
  put_as P =
      record {
        count = λ c l. rw (← C.first, ← C.second, ← C.third) (P.count c l);
        xor = λ c l. rw (← C.first, ← C.second, ← C.third) (P.xor c l);
        rest = P.rest;
      }
