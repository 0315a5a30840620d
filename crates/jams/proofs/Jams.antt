-- Jams and peeling.
--     jam_two                 a jam has two items at least
--     one_item_never_jams     document 01's remark, of no items too
--     jam_is_never_once       a jam is a nonempty set that touches no cell just once, as the demands say it
--     jamless_not_jammed      no jam and a jam exclude each other
--     one_largest             two largest jams are one set
--     largest_one_size        and have one size
--     or_cases                one of two tests passes
--     any_cell_of, some_cell     a test passes at one of an item's cells
--     touches, touched        an item touches a cell, and the test says so
--     alone_at         a cell that one of a set touches: the xor there is its number
--     closed_jam       a set that is not empty, and of which no cell is touched by exactly one, is a jam
--     jam_has_none_peeled     who is in a jam was not peeled
--     all_peeled       all are peeled: there is no jam
--     rest_largest     not all are, and no cell is touched by exactly one of those left: they are the largest jam
-- Assumes nothing.
use mathlib.Core.Path.{◌≡◌, refl, sym, ap, ap₂, ◌∙◌}
use mathlib.Core.Bool.{Bool, true, false, ◌&&◌, ◌||◌, not, or-true}
use mathlib.Core.List.{List}
use mathlib.Core.Logic.{◌⊎◌, inl, inr, ⊎_elim}
use Prim.Native.Nat.{ℕ, zero, suc, ◌≤◌, ◌<◌}
use native.Mathlib.Omega.{arith}
use borrow.Author.Tests.{eq-eqb, ne_eqb, eqb-true, eqb-false, not-true}
use lib.Dec.{eqb}
use lib.ListN.{length}
use Rattle.basics.proofs.Bools.{both, and_both, not_both, true_or_false}
use Rattle.jams.specs.Jam.{Touches, Jam, NoJam, Largest, size_of, touch, Jammed, Jamless, LargestJam}
use Rattle.jams.specs.Vouched.{NeverOnce, JamIsNeverOnce, OneItemNeverJams, OneLargest}
use Rattle.jams.specs.Inner.Peel.{touchb, live, Peeling, still}
use Rattle.jams.specs.Inner.Work.{xor_of}
use Rattle.jams.proofs.Sets.{size_ext, size_le, size_zero, size_some, size_two, size_other}
use Rattle.jams.proofs.Sets.{One, size_one, last_or_below}

-- a jam has two items at least: one, and another that touches one of its cells
pub jam_two : {e : ℕ → ℕ → ℕ} {t : ℕ} {s : ℕ → Bool} → Jam e t s → 2 ≤ size_of s t
jam_two {e} {t} {s} J =
    let i = J.some.0 in
    let o = J.twice i (e 0 i) J.some.1 J.some.2 (inl refl) in
    size_two s t i o.0 J.some.1 J.some.2 o.1 o.2 o.4

pub one_item_never_jams : OneItemNeverJams
one_item_never_jams seed items l s J = omega (arith, jam_two J, size_le s (length items))

pub jamless_not_jammed : (seed : ℕ) (items : List ℕ) → Jamless seed items → Jammed seed items → ⊥
jamless_not_jammed seed items N K = N K.0 K.1

same_test : (a b : Bool) → (a ≡ true → b ≡ true) → (b ≡ true → a ≡ true) → a ≡ b
same_test true b f g = sym (f refl)
same_test false true f g = g refl
same_test false false f g = refl

-- each of two largest jams holds the other
pub one_largest : OneLargest
one_largest e t s s' L M i l = same_test (s i) (s' i) (M.all s L.jam i l) (L.all s' M.jam i l)

pub largest_one_size : (seed : ℕ) (items : List ℕ) {m n : ℕ} → LargestJam seed items m → LargestJam seed items n → m ≡ n
largest_one_size seed items L M =
    let t = length items in
    sym L.2 ∙ size_ext L.0 M.0 t (one_largest (touch seed items) t L.0 M.0 L.1 M.1) ∙ M.2

pub or_cases : (a b : Bool) → a || b ≡ true → (a ≡ true) ⊎ (b ≡ true)
or_cases true b e = inl refl
or_cases false b e = inr e

-- the test f passes at one of item i's cells
abbrev pub any_cell : (ℕ → ℕ → ℕ) → (ℕ → Bool) → ℕ → Bool
any_cell e f i = f (e 0 i) || (f (e 1 i) || f (e 2 i))

-- it does if it passes at a cell that the item touches
pub any_cell_of : (e : ℕ → ℕ → ℕ) (f : ℕ → Bool) (i c : ℕ) → Touches e i c → f c ≡ true → any_cell e f i ≡ true
any_cell_of e f i c (inl a) h = rw (a, h)
any_cell_of e f i c (inr (inl a)) h = rw (a, h, or-true (f (e 0 i)))
any_cell_of e f i c (inr (inr a)) h = rw (a, h, or-true (f (e 1 i)), or-true (f (e 0 i)))

-- and then there is such a cell
pub some_cell : (e : ℕ → ℕ → ℕ) (f : ℕ → Bool) (i : ℕ) → any_cell e f i ≡ true → (c : ℕ) × Touches e i c × (f c ≡ true)
some_cell e f i h =
    ⊎_elim (λ (a : f (e 0 i) ≡ true). (e 0 i, inl refl, a))
    (λ (b : f (e 1 i) || f (e 2 i) ≡ true).
    ⊎_elim (λ (a : f (e 1 i) ≡ true). (e 1 i, inr (inl refl), a))
    (λ (a : f (e 2 i) ≡ true). (e 2 i, inr (inr refl), a))
    (or_cases (f (e 1 i)) (f (e 2 i)) b))
    (or_cases (f (e 0 i)) (f (e 1 i) || f (e 2 i)) h)

pub touched : (e : ℕ → ℕ → ℕ) (i c : ℕ) → touchb e i c ≡ true → Touches e i c
unfolding touchb
touched e i c h =
    let r : (d : ℕ) × Touches e i d × (eqb d c ≡ true) = some_cell e (λ d. eqb d c) i h in
    rw (eqb-true r.0 c r.2) at r.1

pub touches : (e : ℕ → ℕ → ℕ) (i c : ℕ) → Touches e i c → touchb e i c ≡ true
unfolding touchb
touches e i c w = any_cell_of e (λ d. eqb d c) i c w (eq-eqb c c refl)

-- those of a set that touch cell c
abbrev pub touching : (ℕ → ℕ → ℕ) → (ℕ → Bool) → ℕ → ℕ → Bool
touching e s c i = s i && touchb e i c

-- item i of the set touches cell c, and no other of the set does
pub record AloneAt (e : ℕ → ℕ → ℕ) (t : ℕ) (s : ℕ → Bool) (c i : ℕ) : Type 0 where
  pub below : i < t
  pub inside : s i ≡ true
  pub here : Touches e i c
  pub only : (j : ℕ) → j < t → s j ≡ true → Touches e j c → j ≡ i

-- so it is where exactly one of the set touches the cell, and the xor there is its number
pub alone_at : (e : ℕ → ℕ → ℕ) (t : ℕ) (s : ℕ → Bool) (c : ℕ) → size_of (touching e s c) t ≡ 1
    → AloneAt e t s c (xor_of (touching e s c) t)
alone_at e t s c z =
    let i = xor_of (touching e s c) t in
    let o : One (touching e s c) t i = size_one (touching e s c) t z in
    let b = both (s i) (touchb e i c) o.passes in
    record {
      below = o.below;
      inside = b.0;
      here = touched e i c b.1;
      only = λ j l h w. o.only j l (and_both h (touches e j c w));
    }

pub closed_jam : (e : ℕ → ℕ → ℕ) (t : ℕ) (s : ℕ → Bool)
    → ((c : ℕ) → size_of (touching e s c) t ≡ 1 → ⊥)
    → (i : ℕ) × (i < t) × (s i ≡ true)
    → Jam e t s
closed_jam e t s no_one some =
    record {
      some = some;
      twice = λ i c l h w.
          let o : (j : ℕ) × (j < t) × (s j && touchb e j c ≡ true) × (j ≡ i → ⊥) =
          size_other (touching e s c) t i (no_one c) l (and_both h (touches e i c w)) in
          let b = both (s o.0) (touchb e o.0 c) o.2 in
          (o.0, o.1, b.0, touched e o.0 c b.1, o.3);
    }

jam_never_once : {e : ℕ → ℕ → ℕ} {t : ℕ} {s : ℕ → Bool} → Jam e t s → NeverOnce e t s
jam_never_once J i c l h w alone =
    let o = J.twice i c l h w in
    o.4 (alone o.0 o.1 o.2 o.3)

never_once_jam : {e : ℕ → ℕ → ℕ} {t : ℕ} {s : ℕ → Bool} → (i : ℕ) × (i < t) × (s i ≡ true) → NeverOnce e t s → Jam e t s
never_once_jam {e} {t} {s} some N =
    closed_jam e t s
    (λ c z.
    let o = alone_at e t s c z in
    N (xor_of (touching e s c) t) c o.below o.inside o.here o.only)
    some

pub jam_is_never_once : JamIsNeverOnce
jam_is_never_once e t s = ((λ J. (J.some, jam_never_once J)), (λ h. never_once_jam h.0 h.1))

-- who is left was peeled at no turn
pub live_not : (st : ℕ → ℕ) (n i : ℕ) → live st n i ≡ true → (p : ℕ) → p < n → st p ≡ i → ⊥
unfolding live
live_not st zero i h p l e = omega arith
live_not st (suc n) i h p l e =
    ⊎_elim
    (λ (q : p ≡ n).
    eqb-false (st n) i (not-true (eqb (st n) i) (both (live st n i) (not (eqb (st n) i)) h).1) (ap st (sym q) ∙ e))
    (λ (m : p < n). live_not st n i (both (live st n i) (not (eqb (st n) i)) h).0 p m e)
    (last_or_below l)

-- who was peeled at no turn is left
pub live_all : (st : ℕ → ℕ) (n i : ℕ) → ((p : ℕ) → p < n → st p ≡ i → ⊥) → live st n i ≡ true
unfolding live
live_all st zero i h = refl
live_all st (suc n) i h =
    and_both (live_all st n i (λ p l. h p (omega arith))) (ap not (ne_eqb (st n) i (h n (omega arith))))

-- who is not left was peeled at some turn
pub live_out : (st : ℕ → ℕ) (n i : ℕ) → live st n i ≡ false → (p : ℕ) × (p < n) × (st p ≡ i)
unfolding live
live_out st zero i h = absurd (not_both refl h)
live_out st (suc n) i h =
    ⊎_elim
    (λ (e : eqb (st n) i ≡ true). (n, omega arith, eqb-true (st n) i e))
    (λ (e : eqb (st n) i ≡ false).
    ⊎_elim
    (λ (a : live st n i ≡ true). absurd (not_both (and_both a (ap not e)) h))
    (λ (a : live st n i ≡ false).
    let r : (p : ℕ) × (p < n) × (st p ≡ i) = live_out st n i a in
    (r.0, omega arith, r.2))
    (true_or_false (live st n i)))
    (true_or_false (eqb (st n) i))

pub live_ext : (st st' : ℕ → ℕ) (n i : ℕ) → ((p : ℕ) → p < n → st p ≡ st' p) → live st n i ≡ live st' n i
unfolding live
live_ext st st' zero i h = refl
live_ext st st' (suc n) i h =
    ap₂ (λ (a : Bool) (x : ℕ). a && not (eqb x i)) (live_ext st st' n i (λ p l. h p (omega arith))) (h n (omega arith))

-- who is left after more turns is left after fewer
pub live_le : (st : ℕ → ℕ) (m n i : ℕ) → m ≤ n → live st n i ≡ true → live st m i ≡ true
live_le st m n i l h = live_all st m i (λ p k. live_not st n i h p (omega arith))

module _ (e : ℕ → ℕ → ℕ) (t : ℕ) (st at : ℕ → ℕ) (n : ℕ) (P : Peeling e t st at n) where
  -- the first peeled item of a jam had another of the jam beside it, which was peeled earlier
  no_first : (s : ℕ → Bool) → Jam e t s → (m p : ℕ) → p < m → p < n → s (st p) ≡ true → ⊥
  no_first s J zero p l k h = omega arith
  no_first s J (suc m) p l k h =
      let o : (j : ℕ) × (j < t) × (s j ≡ true) × Touches e j (at p) × (j ≡ st p → ⊥) =
      J.twice (st p) (at p) (P.small p k) h (P.here p k) in
      ⊎_elim
      (λ (a : live st p o.0 ≡ true). o.4 (P.alone p k o.0 o.1 a o.3))
      (λ (a : live st p o.0 ≡ false).
      let r : (q : ℕ) × (q < p) × (st q ≡ o.0) = live_out st p o.0 a in
      no_first s J m r.0 (omega arith) (omega arith) (ap s r.2 ∙ o.2))
      (true_or_false (live st p o.0))

  pub jam_has_none_peeled : (s : ℕ → Bool) → Jam e t s → (i : ℕ) → s i ≡ true → live st n i ≡ true
  jam_has_none_peeled s J i h = live_all st n i (λ p l q. no_first s J (suc p) p (omega arith) l (ap s q ∙ h))

  pub none_left : n ≡ t → (i : ℕ) → i < t → live st n i ≡ false
  none_left q i l = size_zero (live st n) t (omega (arith, P.left)) i l

  pub all_peeled : n ≡ t → NoJam e t
  all_peeled q s J =
      not_both (jam_has_none_peeled s J J.some.0 J.some.2) (none_left q J.some.0 J.some.1)

  pub rest_largest : (n ≡ t → ⊥) → ((c : ℕ) → size_of (still e st n c) t ≡ 1 → ⊥) → Largest e t (live st n)
  rest_largest q h =
      record {
        jam = closed_jam e t (live st n) h (size_some (live st n) t (λ z. q (omega (arith, P.left))));
        all = λ s J i l k. jam_has_none_peeled s J i k;
      }
