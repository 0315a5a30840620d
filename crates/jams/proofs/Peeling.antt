-- An item gets its turn, and is taken out when it comes.
--     one_left       a cell with one item left: the xor there is its number
--     turn_marked    an item that has its turn is marked
--     can_try        a cell can be tried
--     tried_turn     the item left at a cell gets its turn: its mark is set, and it is stored at the end of the queue
--     tried_none     no item gets one
--     turn_counted   the item whose turn it is is counted at each of its cells
--     taken, taken_seen    it is taken out, and the cells that it does not touch are as they were
--     start_peeled   all items counted: none has a turn
--     stuck_largest  all turns taken and not all items peeled: those left are the largest jam
--     at_most        at most all have their turns
-- Assumes nothing.
use mathlib.Core.Path.{◌≡◌, refl, sym, ap, ap₂, ◌∙◌, subst, fun_ext}
use mathlib.Core.Bool.{Bool, true, false, ◌&&◌, not, and-true, and-false}
use mathlib.Core.List.{List}
use mathlib.Core.Logic.{⊎_elim}
use Prim.Native.Nat.{ℕ, zero, suc, ◌+◌, ◌-◌, ◌≤◌, ◌<◌}
use native.Mathlib.Decide.{ℕ_discrete}
use native.Mathlib.Nat.{suc_inj}
use native.Mathlib.Numerals.{add-one}
use native.Mathlib.Omega.{arith}
use borrow.Author.Tests.{eq-eqb, ne_eqb, eqb-true}
use lib.Dec.{eqb}
use lib.ListN.{length, get_or, set, length-set}
use lib.Seq.{get_or-set_same, get_or-set_other}
use Rattle.basics.proofs.Bools.{and_both, not_both, true_or_false}
use Rattle.jams.specs.Jam.{Touches, Largest, size_of}
use Rattle.jams.specs.Inner.Peel.{touchb, live, Peeling, still}
use Rattle.jams.specs.Inner.Work.{Put, CellsHold, Peeled, Seen, AllSeen, Tryable, CellTried}
use Rattle.jams.specs.Inner.Work.{more_if, xor_if, xor_of, mark, turn_item, turn_cell}
use Rattle.jams.proofs.Sets.{Without, size_less, xor_less, size_zero, last_or_below, xor_if_twice}
use Rattle.jams.proofs.Jams.{touched, touches, AloneAt, alone_at, live_ext, live_not, live_le, rest_largest}

pub at_most : {e : ℕ → ℕ → ℕ} {t cap q n : ℕ} {w : List ℕ} → Peeled e t cap w q n → n ≤ t
at_most P = omega (arith, P.order.left)

pub one_left : {e : ℕ → ℕ → ℕ} {t cap q n : ℕ} {w : List ℕ} (c : ℕ) → Peeled e t cap w q n → c < cap → get_or w c 0 ≡ 1
    → AloneAt e t (live (turn_item cap t w) q) c (get_or w (cap + c) 0)
one_left {e} {t} {cap} {q} {n} {w} c P l d =
    rw (P.holds.xor c l) (alone_at e t (live (turn_item cap t w) q) c (sym (P.holds.count c l) ∙ d))

-- an item that is not marked has no turn
unmarked : {e : ℕ → ℕ → ℕ} {t cap q n : ℕ} {w : List ℕ} (i : ℕ) → Peeled e t cap w q n → i < t → mark cap w i ≡ 0
    → live (turn_item cap t w) n i ≡ true
unmarked {cap = cap} {w = w} i P l u = sym (P.marks i l) ∙ eq-eqb (mark cap w i) 0 u

-- an item that has its turn is marked
pub turn_marked : {e : ℕ → ℕ → ℕ} {t cap q n : ℕ} {w : List ℕ} (p : ℕ) → Peeled e t cap w q n → p < n
    → 0 < mark cap w (turn_item cap t w p)
turn_marked {t = t} {cap} {n = n} {w} p P l =
    let i = turn_item cap t w p in
    let some : ¬ (mark cap w i ≡ 0) =
    λ u. live_not (turn_item cap t w) n i (unmarked i P (P.order.small p l) u) p l refl in
    omega arith

-- while one is not marked, not all have their turns
not_all : {e : ℕ → ℕ → ℕ} {t cap q n : ℕ} {w : List ℕ} (i : ℕ) → Peeled e t cap w q n → i < t → mark cap w i ≡ 0 → n < t
not_all {t = t} {cap} {n = n} {w} i P l u =
    let some : ¬ (size_of (live (turn_item cap t w) n) t ≡ 0) =
    λ z. not_both (unmarked i P l u) (size_zero (live (turn_item cap t w) n) t z i l) in
    omega (arith, P.order.left)

pub can_try : {e : ℕ → ℕ → ℕ} {t cap q n : ℕ} {w : List ℕ} (c : ℕ) → Peeled e t cap w q n → c < cap → cap < 65536
    → t < 65536
    → cap + cap + t + t ≤ length w → Tryable cap t w n c
can_try {cap = cap} {w = w} c P l a b long =
    record {
      below = l;
      narrow = a;
      few = b;
      long = long;
      items = λ k m d. (one_left k P m d).below;
      room = λ d u. not_all (get_or w (cap + c) 0) P (one_left c P l d).below u;
    }

-- who is left after one more turn, which is i's
module _ (st st' : ℕ → ℕ) (n i : ℕ) (same : (p : ℕ) → p < n → st' p ≡ st p) (top : st' n ≡ i) where
  live_one : (j : ℕ) → live st' (suc n) j ≡ live st n j && not (eqb i j)
  unfolding live
  live_one j = ap₂ (λ (a : Bool) (x : ℕ). a && not (eqb x j)) (live_ext st' st n j same) top

  live_without : live st n i ≡ true → Without (live st n) (live st' (suc n)) i true
  live_without h =
      record {
        was = h;
        gone = live_one i ∙ rw (eq-eqb i i refl, and-false (live st n i));
        same = λ j q. sym (live_one j ∙ rw (ne_eqb i j (λ z. q (sym z)), and-true (live st n j)));
      }

  still_without : (e : ℕ → ℕ → ℕ) (k : ℕ) → live st n i ≡ true
      → Without (still e st n k) (still e st' (suc n) k) i (touchb e i k)
  still_without e k h =
      record {
        was = rw h;
        gone = rw (live_without h).gone;
        same = λ j q. ap (λ (b : Bool). b && touchb e j k) ((live_without h).same j q);
      }

pub tried_none : {cap t n : ℕ} {w : List ℕ} (c : ℕ) → Seen cap w c → CellTried cap t c w n w n
tried_none c h = record { peeled = λ e q P. P; here = h; kept = λ k m s. s; beyond = λ k m. refl }

-- the item left at c gets its turn
module _ {cap t n : ℕ} {w : List ℕ} (c : ℕ) (T : Tryable cap t w n c) (d : get_or w c 0 ≡ 1)
    (u : mark cap w (get_or w (cap + c) 0) ≡ 0) where
  abbrev I : ℕ
  I = get_or w (cap + c) 0

  -- the places of its mark and of the queue's end
  abbrev y : ℕ
  y = cap + cap + I

  abbrev z : ℕ
  z = cap + cap + t + n

  abbrev Given : List ℕ
  Given = set (set w y (c + 1)) z I

  abbrev Items : ℕ → ℕ
  Items = turn_item cap t w

  abbrev Items' : ℕ → ℕ
  Items' = turn_item cap t Given

  abbrev Cells : ℕ → ℕ
  Cells = turn_cell cap t w

  abbrev Cells' : ℕ → ℕ
  Cells' = turn_cell cap t Given

  I-below : I < t
  I-below = T.items c T.below d

  room : n < t
  room = T.room d u

  elsewhere : (k : ℕ) → (k ≡ y → ⊥) → (k ≡ z → ⊥) → get_or Given k 0 ≡ get_or w k 0
  elsewhere k p q = get_or-set_other (set w y (c + 1)) z k I 0 q ∙ get_or-set_other w y k (c + 1) 0 p

  count_kept : (k : ℕ) → k < cap + cap → get_or Given k 0 ≡ get_or w k 0
  count_kept k m = elsewhere k (λ q. omega arith) (λ q. omega arith)

  item_kept : (p : ℕ) → p < n → Items' p ≡ Items p
  item_kept p m = elsewhere (cap + cap + t + p) (λ q. omega (arith, I-below)) (λ q. omega arith)

  item_top : Items' n ≡ I
  item_top = get_or-set_same (set w y (c + 1)) z I 0 (simp length-set (omega (arith, T.long, room)))

  mark_kept : (i : ℕ) → i < t → (i ≡ I → ⊥) → mark cap Given i ≡ mark cap w i
  mark_kept i m h = elsewhere (cap + cap + i) (λ q. h (omega arith)) (λ q. omega arith)

  mark_top : mark cap Given I ≡ c + 1
  mark_top =
      get_or-set_other (set w y (c + 1)) z y I 0 (λ q. omega (arith, I-below))
      ∙ get_or-set_same w y (c + 1) 0 (omega (arith, T.long, I-below))

  module _ {e : ℕ → ℕ → ℕ} {q : ℕ} (P : Peeled e t cap w q n) where
    O : AloneAt e t (live Items q) c I
    O = one_left c P T.below d

    fresh : live Items n I ≡ true
    fresh = unmarked I P I-below u

    cell_kept : (p : ℕ) → p < n → Cells' p ≡ Cells p
    cell_kept p m =
        ap (λ (i : ℕ). mark cap Given i - 1) (item_kept p m)
        ∙ ap (λ (k : ℕ). k - 1) (mark_kept (Items p) (P.order.small p m) (live_not Items n I fresh p m))

    cell_top : Cells' n ≡ c
    cell_top = rw item_top (omega (arith, mark_top))

    live_below : (p j : ℕ) → p ≤ n → live Items' p j ≡ live Items p j
    live_below p j m = live_ext Items' Items p j (λ r k. item_kept r (omega arith))

    gone : Without (live Items n) (live Items' (suc n)) I true
    gone = live_without Items Items' n I item_kept item_top fresh

    -- what held of each turn below n, and holds of turn n, holds of each turn below suc n
    each : (F : ℕ → ℕ → ℕ → Type 0) → ((p : ℕ) → p < n → F p (Items p) (Cells p)) → F n I c
        → (p : ℕ) → p < suc n → F p (Items' p) (Cells' p)
    each F below here p m =
        ⊎_elim
        (λ (z : p ≡ n). rw (z, cell_top, item_top) here)
        (λ (z : p < n). rw (cell_kept p z, item_kept p z) (below p z))
        (last_or_below m)

    order' : Peeling e t Items' Cells' (suc n)
    order' =
        let o = P.order in
        record {
          small = each (λ p i k. i < t) o.small I-below;
          fresh = each (λ p i k. live Items' p i ≡ true)
              (λ p z. live_below p (Items p) (omega arith) ∙ o.fresh p z)
              (live_below n I (omega arith) ∙ fresh);
          here = each (λ p i k. Touches e i k) o.here O.here;
          alone = each (λ p i k. (j : ℕ) → j < t → live Items' p j ≡ true → Touches e j k → j ≡ i)
              (λ p z j jt lv tj. o.alone p z j jt (sym (live_below p j (omega arith)) ∙ lv) tj)
              (λ j jt lv tj.
              O.only j jt (live_le Items q n j P.behind (sym (live_below n j (omega arith)) ∙ lv)) tj);
          left =
              let s : size_of (live Items n) t ≡ suc (size_of (live Items' (suc n)) t) =
              size_less (live Items n) (live Items' (suc n)) I t true I-below gone in
              omega (arith, o.left);
        }

    marks' : (i : ℕ) → i < t → eqb (mark cap Given i) 0 ≡ live Items' (suc n) i
    marks' i m =
        elim (ℕ_discrete i I) [
          | yes h ↦ rw h (ne_eqb (mark cap Given I) 0 (λ q. omega (arith, mark_top)) ∙ sym gone.gone)
          | no h ↦ ap (λ (k : ℕ). eqb k 0) (mark_kept i m h) ∙ P.marks i m ∙ gone.same i h
        ]

    same_left : (k : ℕ) → still e Items' q k ≡ still e Items q k
    same_left k = fun_ext (λ j. ap (λ (b : Bool). b && touchb e j k) (live_below q j P.behind))

    given : Peeled e t cap Given q (suc n)
    given =
        record {
          order = order';
          holds = record {
            count = λ k m. count_kept k (omega arith) ∙ rw (same_left k) (P.holds.count k m);
            xor = λ k m. count_kept (cap + k) (omega arith) ∙ rw (same_left k) (P.holds.xor k m);
          };
          marks = marks';
          behind = omega (arith, P.behind);
        }

  seen_kept : (k : ℕ) → k < cap → Seen cap w k → Seen cap Given k
  seen_kept k m s d' u' =
      let one : get_or w k 0 ≡ 1 = sym (count_kept k (omega arith)) ∙ d' in
      let j = get_or w (cap + k) 0 in
      let u'' : mark cap Given j ≡ 0 = ap (mark cap Given) (sym (count_kept (cap + k) (omega arith))) ∙ u' in
      elim (ℕ_discrete j I) [
        | yes h ↦ omega (arith, mark_top, ap (mark cap Given) h)
        | no h ↦ s one (sym (mark_kept j (T.items k m one) h) ∙ u'')
      ]

  pub tried_turn : CellTried cap t c w n Given (n + 1)
  tried_turn =
      record {
        peeled = λ e q P. subst (Peeled e t cap Given q) (sym (add-one n)) (given P);
        here = λ _ v. omega (arith, mark_top, ap (mark cap Given) (count_kept (cap + c) (omega (arith, T.below))), v);
        kept = seen_kept;
        beyond = λ k m. elsewhere k (λ q. omega (arith, I-below)) (λ q. omega (arith, room));
      }

more_inj : (b : Bool) (x y : ℕ) → more_if b x ≡ more_if b y → x ≡ y
more_inj true x y e = suc_inj e
more_inj false x y e = e

-- the item of turn q
module _ {e : ℕ → ℕ → ℕ} {t cap q n : ℕ} {w : List ℕ} (P : Peeled e t cap w q n) (l : q < n) where
  abbrev Now : ℕ
  Now = turn_item cap t w q

  now_left : live (turn_item cap t w) q Now ≡ true
  now_left = P.order.fresh q l

  pub turn_counted : (k : ℕ) → k < cap → Touches e Now k → 0 < get_or w k 0
  turn_counted k m h =
      let s = still e (turn_item cap t w) q k in
      let some : ¬ (get_or w k 0 ≡ 0) =
      λ z. not_both (and_both now_left (touches e Now k h))
      (size_zero s t (sym (P.holds.count k m) ∙ z) Now (P.order.small q l)) in
      omega arith

  -- is taken out
  module _ {w' : List ℕ} (R : Put e cap Now w' w) where
    mark_same : (i : ℕ) → mark cap w' i ≡ mark cap w i
    mark_same i = sym (R.rest (cap + cap + i) (omega arith))

    items_same : turn_item cap t w' ≡ turn_item cap t w
    items_same = fun_ext (λ p. sym (R.rest (cap + cap + t + p) (omega arith)))

    cells_same : turn_cell cap t w' ≡ turn_cell cap t w
    cells_same =
        fun_ext
        (λ p.
        ap (λ (k : ℕ). k - 1) (mark_same (turn_item cap t w' p) ∙ ap (λ (st : ℕ → ℕ). mark cap w (st p)) items_same))

    gone_at : (k : ℕ)
        → Without (still e (turn_item cap t w) q k) (still e (turn_item cap t w) (suc q) k) Now (touchb e Now k)
    gone_at k = still_without (turn_item cap t w) (turn_item cap t w) q Now (λ p m. refl) refl e k now_left

    holds_less : CellsHold t cap (still e (turn_item cap t w) (suc q)) w'
    holds_less =
        let s = still e (turn_item cap t w) q in
        let s' = still e (turn_item cap t w) (suc q) in
        record {
          count = λ k m.
              more_inj (touchb e Now k) (get_or w' k 0) (size_of (s' k) t) (sym (R.count k m) ∙ P.holds.count k m
              ∙ size_less (s k) (s' k) Now t (touchb e Now k) (P.order.small q l) (gone_at k));
          xor = λ k m.
              sym (xor_if_twice (touchb e Now k) Now (get_or w' (cap + k) 0))
              ∙ ap (xor_if (touchb e Now k) Now) (sym (R.xor k m) ∙ P.holds.xor k m)
              ∙ sym (xor_less (s k) (s' k) Now t (touchb e Now k) (P.order.small q l) (gone_at k));
        }

    pub taken : Peeled e t cap w' (q + 1) n
    taken =
        rw add-one (record {
          order = rw (cells_same, items_same) P.order;
          holds = rw items_same holds_less;
          marks = λ i m. ap (λ (k : ℕ). eqb k 0) (mark_same i) ∙ rw items_same (P.marks i m);
          behind = l;
        })

    pub taken_seen : (k : ℕ) → k < cap → (Touches e Now k → ⊥) → Seen cap w k → Seen cap w' k
    taken_seen k m h s d u =
        let x = get_or w' (cap + k) 0 in
        ⊎_elim
        (λ (b : touchb e Now k ≡ true). h (touched e Now k b))
        (λ (b : touchb e Now k ≡ false).
        let same : get_or w (cap + k) 0 ≡ x = R.xor k m ∙ rw b refl in
        s (R.count k m ∙ rw b d) (ap (mark cap w) same ∙ sym (mark_same x) ∙ u))
        (true_or_false (touchb e Now k))

all_left : (t : ℕ) → size_of (λ i. true) t ≡ t
unfolding size_of
all_left zero = refl
all_left (suc t) = ap suc (all_left t)

pub start_peeled : (e : ℕ → ℕ → ℕ) {t cap : ℕ} {w : List ℕ} → CellsHold t cap (λ c i. touchb e i c) w
    → ((i : ℕ) → i < t → mark cap w i ≡ 0)
    → Peeled e t cap w 0 0
unfolding live
start_peeled e {t} {cap} {w} H bare =
    record {
      order = record {
        small = λ p l. absurd (omega arith);
        fresh = λ p l. absurd (omega arith);
        here = λ p l. absurd (omega arith);
        alone = λ p l. absurd (omega arith);
        left = omega (arith, all_left t);
      };
      holds = record { count = H.count; xor = H.xor };
      marks = λ i l. eq-eqb (mark cap w i) 0 (bare i l);
      behind = omega arith;
    }

seen_stuck : {e : ℕ → ℕ → ℕ} {t cap n : ℕ} {w : List ℕ} → Peeled e t cap w n n → AllSeen cap w → (k : ℕ) → k < cap
    → get_or w k 0 ≡ 1 → ⊥
seen_stuck {cap = cap} {w = w} P S k l d =
    let o = one_left k P l d in
    S k l d (eqb-true (mark cap w (get_or w (cap + k) 0)) 0 (P.marks (get_or w (cap + k) 0) o.below ∙ o.inside))

pub stuck_largest : {e : ℕ → ℕ → ℕ} {t cap n : ℕ} {w : List ℕ} → ((i c : ℕ) → Touches e i c → c < cap)
    → Peeled e t cap w n n
    → AllSeen cap w → (n ≡ t → ⊥) → Largest e t (live (turn_item cap t w) n)
stuck_largest {e} {t} {cap} {n} {w} below P S h =
    rest_largest e t (turn_item cap t w) (turn_cell cap t w) n P.order h
    (λ c z.
    let st = turn_item cap t w in
    let l : c < cap = below (xor_of (still e st n c) t) c (alone_at e t (live st n) c z).here in
    seen_stuck P S c l (P.holds.count c l ∙ z))
