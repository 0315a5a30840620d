-- Cells tried one after another, until each item that is left alone at a cell has its turn.
--     first_turn, next_turn    the state of the work between two turns
--     item_out, cell_tried     the same after a step of a turn
--     try_at                   a cell of the map can be tried
--     seen_next                the cells below c tried, and one more
--     seen_three               the three cells of the item taken out tried
-- Assumes nothing.
use mathlib.Core.Path.{◌≡◌, ◌∙◌, subst}
use mathlib.Core.List.{List}
use mathlib.Core.Bool.{true, false}
use mathlib.Core.Logic.{inl, inr, ⊎_elim}
use Prim.Native.Nat.{ℕ, ◌+◌, ◌*◌, ◌≤◌, ◌<◌}
use native.Mathlib.Nat.{eq-or-lt_of_le}
use native.Mathlib.Omega.{arith}
use lib.ListN.{length}
use Rattle.basics.proofs.Bools.{not_both, true_or_false}
use Rattle.counts.specs.declared.map.Map.{Map}
use Rattle.counts.specs.declared.Touched.{Touched}
use Rattle.jams.specs.Jam.{Touches}
use Rattle.jams.specs.Inner.Peel.{touchb}
use Rattle.jams.specs.Inner.Work.{Blank, Peeled, Put, Seen, AllSeen, Tryable, CellTried, turn_item}
use Rattle.counts.specs.Inner.{graph, cells_of, CellsAt, ItemsCounted, AtTurn}
use Rattle.jams.proofs.Jams.{touched, touches}
use Rattle.jams.proofs.Peeling.{can_try, start_peeled, taken}
use Rattle.counts.proofs.Finding.{put_as}

-- all items are counted, and none has a turn
pub first_turn : {map : Map} {a w : List ℕ} → 6 * map.m + 2 * map.t ≤ length w
    → Blank (6 * map.m + map.t) a → ItemsCounted map map.t a w → AtTurn map w 0 0
first_turn {map} l B C =
    record {
      long = l;
      peeled = start_peeled (graph map) C.holds
          (λ i h. let k = 3 * map.m + 3 * map.m + i in C.beyond k (omega arith) ∙ B.zeros k (omega arith));
    }

-- the map stays ready while the work changes
pub next_turn : {map : Map} {w w' : List ℕ} {q n q' n' : ℕ} → AtTurn map w q n
    → length w' ≡ length w
    → Peeled (graph map) map.t (3 * map.m) w' q' n' → AtTurn map w' q' n'
next_turn A l P = record { long = omega (arith, A.long); peeled = P }

-- the item whose turn it is is taken out, where its cells were found
pub item_out : {map : Map} {w w' : List ℕ} {q n : ℕ} {at : Touched} → AtTurn map w q n
    → q < n
    → CellsAt (graph map) (3 * map.m) (turn_item (3 * map.m) map.t w q) at
    → Put (cells_of at) (3 * map.m) (turn_item (3 * map.m) map.t w q) w' w
    → length w' ≡ length w
    → AtTurn map w' (q + 1) n
item_out A l C P k = next_turn A k (taken A.peeled l (put_as C P))

-- a cell is tried
pub cell_tried : {map : Map} {w w' : List ℕ} {q n c r : ℕ} → AtTurn map w q n
    → CellTried (3 * map.m) map.t c w n w' r
    → length w' ≡ length w
    → AtTurn map w' q r
cell_tried {q = q} A T k = next_turn A k (T.peeled _ q A.peeled)

pub try_at : {map : Map} {w : List ℕ} {q n : ℕ} (c : ℕ) → AtTurn map w q n
    → c < 3 * map.m
    → Tryable (3 * map.m) map.t w n c
try_at {map} c A l =
    can_try c A.peeled l (omega (arith, map.fits)) (omega (arith, map.few)) (omega (arith, A.long))

module _ {cap t : ℕ} where
  -- one more cell
  pub seen_next : {w w' : List ℕ} {n r : ℕ} (c : ℕ) → c < cap → CellTried cap t c w n w' r
      → ((k : ℕ) → k < c → Seen cap w k)
      → (k : ℕ) → k < c + 1 → Seen cap w' k
  seen_next {w} {w'} c l T s k m =
      ⊎_elim
      (λ (z : k ≡ c). rw z T.here)
      (λ (z : k < c). T.kept k (omega arith) (s k z))
      (eq-or-lt_of_le {n = k} {m = c} (omega arith))

  -- a cell that was not seen is one of the three of item i, and each of these was tried
  pub seen_three : {e : ℕ → ℕ → ℕ} {i : ℕ} {at : Touched} {a b d f : List ℕ} {n p q r : ℕ} → CellsAt e cap i at
      → CellTried cap t at.first a n b p → CellTried cap t at.second b p d q → CellTried cap t at.third d q f r
      → ((k : ℕ) → k < cap → (Touches e i k → ⊥) → Seen cap a k) → AllSeen cap f
  seen_three {e} {i} {at} {a} {b} {d} {f} C A B D s k m =
      ⊎_elim
      (λ (h : touchb e i k ≡ true). tried (touched e i k h))
      (λ (h : touchb e i k ≡ false).
      D.kept k m (B.kept k m (A.kept k m (s k m (λ g. not_both (touches e i k g) h)))))
      (true_or_false (touchb e i k))
    where
      tried : Touches e i k → Seen cap f k
      tried (inl h) = D.kept k m (B.kept k m (subst (Seen cap b) (C.first ∙ h) A.here))
      tried (inr (inl h)) = D.kept k m (subst (Seen cap d) (C.second ∙ h) B.here)
      tried (inr (inr h)) = subst (Seen cap f) (C.third ∙ h) D.here
