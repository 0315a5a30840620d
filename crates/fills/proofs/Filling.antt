-- Filling the cells: one store gives an item its value, and the items that do not touch the cell keep theirs.
--     value_here, value_there      an item's value after a store
--     store_fixes                  the store of `fill_turn`
--     cell_below                   a turn's cell is one of the map's
--     fill_none, turn, fill_all    what the loop of `fill_all` keeps, and what it ends with
-- Assumes nothing.
use mathlib.Core.Path.{◌≡◌, refl, sym, ap, ap₂, ◌∙◌, subst}
use mathlib.Core.Bool.{true}
use mathlib.Core.List.{List}
use mathlib.Core.Logic.{inl, inr, ⊎_elim}
use Prim.Native.Nat.{ℕ, ◌+◌, ◌*◌, ◌≤◌, ◌<◌}
use native.Mathlib.Nat.{eq-or-lt_of_le}
use native.Mathlib.Omega.{arith}
use lib.ListN.{length, get_or, set}
use lib.Seq.{get_or-set_same, get_or-set_other}
use lib.Bits.{bit_xor}
use Rattle.words.proofs.Xor.{xor-sort, xor_assoc}
use Rattle.cells.specs.Cells.{value_at}
use Rattle.counts.specs.declared.map.Map.{Map}
use Rattle.jams.specs.Jam.{Touches}
use Rattle.jams.specs.Inner.Peel.{live}
use Rattle.jams.specs.Inner.Work.{Blank, Beyond, Spread, turn_item, turn_cell}
use Rattle.jams.specs.Inner.Fill.{value_of, Valued, Clean, fix}
use Rattle.counts.specs.Inner.{hash_of, graph, AtTurn}
use Rattle.fills.specs.Inner.{wanted, fixed, FilledAll}
use Rattle.jams.proofs.Jams.{live_le, live_not, live_out, none_left}
use Rattle.jams.proofs.Puts.{spread, touch_below}

three : {a a' b b' c c' : ℕ} → a ≡ a' → b ≡ b' → c ≡ c' → bit_xor (bit_xor a b) c ≡ bit_xor (bit_xor a' b') c'
three p q r = ap₂ bit_xor (ap₂ bit_xor p q) r

-- x, y, z become w by a store at the first, the second or the third
first : (w x y z : ℕ) → bit_xor (bit_xor (bit_xor (bit_xor x w) (bit_xor (bit_xor x y) z)) y) z ≡ w
first w x y z = simp xor-sort

second : (w x y z : ℕ) → bit_xor (bit_xor x (bit_xor (bit_xor y w) (bit_xor (bit_xor x y) z))) z ≡ w
second w x y z = simp xor-sort

third : (w x y z : ℕ) → bit_xor (bit_xor x y) (bit_xor (bit_xor z w) (bit_xor (bit_xor x y) z)) ≡ w
third w x y z = simp xor-sort

module _ (e : ℕ → ℕ → ℕ) (cells : List ℕ) (i c w : ℕ) where
  abbrev After : List ℕ
  After = set cells c (fix e cells i c w)

  there : (k : ℕ) → (k ≡ c → ⊥) → get_or After k 0 ≡ get_or cells k 0
  there k h = get_or-set_other cells c k (fix e cells i c w) 0 h

  here : (k : ℕ) → c < length cells → k ≡ c → get_or After k 0 ≡ fix e cells i k w
  here k l q =
      ap (λ (x : ℕ). get_or After x 0) q ∙ get_or-set_same cells c (fix e cells i c w) 0 l
      ∙ ap (λ (x : ℕ). fix e cells i x w) (sym q)

  pub value_here : {cap : ℕ} → Spread e cap i → c < length cells → Touches e i c → value_of e After i ≡ w
  unfolding value_of
  value_here S l (inl q) =
      three (here (e 0 i) l q) (there (e 1 i) (λ z. omega arith)) (there (e 2 i) (λ z. omega arith))
      ∙ first w (get_or cells (e 0 i) 0) (get_or cells (e 1 i) 0) (get_or cells (e 2 i) 0)
  value_here S l (inr (inl q)) =
      three (there (e 0 i) (λ z. omega arith)) (here (e 1 i) l q) (there (e 2 i) (λ z. omega arith))
      ∙ second w (get_or cells (e 0 i) 0) (get_or cells (e 1 i) 0) (get_or cells (e 2 i) 0)
  value_here S l (inr (inr q)) =
      three (there (e 0 i) (λ z. omega arith)) (there (e 1 i) (λ z. omega arith)) (here (e 2 i) l q)
      ∙ third w (get_or cells (e 0 i) 0) (get_or cells (e 1 i) 0) (get_or cells (e 2 i) 0)

pub value_there : (e : ℕ → ℕ → ℕ) (cells : List ℕ) (j c v : ℕ) → (Touches e j c → ⊥)
    → value_of e (set cells c v) j ≡ value_of e cells j
unfolding value_of
value_there e cells j c v h =
    three (get_or-set_other cells c (e 0 j) v 0 (λ z. h (inl z)))
    (get_or-set_other cells c (e 1 j) v 0 (λ z. h (inr (inl z))))
    (get_or-set_other cells c (e 2 j) v 0 (λ z. h (inr (inr z))))

-- the store of `fill_turn`: i and c are the turn's item and cell as they were read, h its hash, v its value before and
-- y the wanted one
pub store_fixes : (map : Map) (w b : List ℕ) (p i c h v y : ℕ) → i ≡ turn_item (3 * map.m) map.t w p
    → c ≡ turn_cell (3 * map.m) map.t w p
    → h ≡ hash_of map i → v ≡ value_at map.m b h → y ≡ wanted map i
    → set b c (bit_xor (get_or b c 0) (bit_xor y v)) ≡ fixed map w b p
unfolding value_of value_at
store_fixes map w b p i c h v y ei ec eh ev ey = rw (← xor_assoc (get_or b c 0) y v, ev, ey, eh, ec, ei)

-- what the loop of `fill_all` keeps: the items of the turns from p on have their values, and only cells that items
-- touch have changed
pub record FilledFrom (map : Map) (w : List ℕ) (p : ℕ) (a b : List ℕ) : Type 0 where
  pub valued : (q : ℕ) → p ≤ q → q < map.t
      → value_of (graph map) b (turn_item (3 * map.m) map.t w q)
      ≡ wanted map (turn_item (3 * map.m) map.t w q)
  pub clean : Clean (graph map) map.t (3 * map.m) b
  pub beyond : Beyond (3 * map.m) a b

-- all items are peeled
module _ {map : Map} {w : List ℕ} (A : AtTurn map w map.t map.t) where
  abbrev Items : ℕ → ℕ
  Items = turn_item (3 * map.m) map.t w

  abbrev Cells : ℕ → ℕ
  Cells = turn_cell (3 * map.m) map.t w

  -- an item peeled later does not touch the cell of turn p
  later : (p q : ℕ) → p < q → q < map.t → Touches (graph map) (Items q) (Cells p) → ⊥
  later p q l k h =
      let o = A.peeled.order in
      let left : live Items p (Items q) ≡ true = live_le Items p q (Items q) (omega arith) (o.fresh q k) in
      live_not Items q (Items q) (o.fresh q k) p l (sym (o.alone p (omega arith) (Items q) (o.small q k) left h))

  item_spread : (i : ℕ) → Spread (graph map) (3 * map.m) i
  item_spread i = spread map.m (hash_of map) i map.fits

  pub cell_below : (p : ℕ) → p < map.t → Cells p < 3 * map.m
  cell_below p l = touch_below (Cells p) (item_spread (Items p)) (A.peeled.order.here p l)

  pub fill_none : (p : ℕ) {a : List ℕ} → map.t ≤ p → Blank (3 * map.m) a → FilledFrom map w p a a
  unfolding Clean
  fill_none p m h =
      record { valued = λ q l n. absurd (omega arith); clean = λ k l u. h.zeros k l; beyond = λ k l. refl }

  pub turn : {p : ℕ} {a b b' : List ℕ} → p < map.t → 3 * map.m ≤ length b → FilledFrom map w (p + 1) a b
      → b' ≡ fixed map w b p
      → FilledFrom map w p a b'
  unfolding Clean
  turn {p} {a} {b} pt l F z =
      let e = graph map in
      let o = A.peeled.order in
      let i = Items p in
      let c = Cells p in
      let v = fix e b i c (wanted map i) in
      let below : c < 3 * map.m = cell_below p pt in
      rw z (record {
        valued = λ q pq qt.
            ⊎_elim
            (λ (x : p ≡ q).
            rw (← x) (value_here e b i c (wanted map i) (item_spread i) (omega arith) (o.here p pt)))
            (λ (x : p < q). value_there e b (Items q) c v (later p q x qt) ∙ F.valued q (omega arith) qt)
            (eq-or-lt_of_le pq);
        clean = λ k m u. get_or-set_other b c k v 0 (λ x. u i (o.small p pt) (rw x (o.here p pt))) ∙ F.clean k m u;
        beyond = λ k m. get_or-set_other b c k v 0 (λ x. omega arith) ∙ F.beyond k m;
      })

  pub fill_all : {a b : List ℕ} → FilledFrom map w 0 a b → FilledAll map a b
  unfolding Valued
  fill_all {a} {b} F =
      record {
        valued = λ i l.
            let r : (p : ℕ) × (p < map.t) × (Items p ≡ i) =
            live_out Items map.t i
            (none_left (graph map) map.t Items Cells map.t A.peeled.order refl i l) in
            subst (λ (j : ℕ). value_of (graph map) b j ≡ wanted map j) r.2
            (F.valued r.0 (omega arith) r.1);
        clean = F.clean;
        beyond = F.beyond;
      }
