-- A peeling order that is written out, seen to be one by a test. Assumes nothing.
use mathlib.Core.Path.{◌≡◌, ap, ◌∙◌}
use mathlib.Core.Bool.{Bool, true, false, ◌&&◌, ◌||◌, not}
use mathlib.Core.Logic.{⊎_elim}
use Prim.Native.Nat.{ℕ, zero, suc, ◌<◌}
use native.Mathlib.Omega.{arith}
use borrow.Author.Tests.{ltb-true, eqb-true}
use lib.Dec.{eqb, ltb}
use Rattle.basics.proofs.Bools.{both, and_both, differ}
use Rattle.jams.specs.Jam.{size_of}
use Rattle.jams.specs.Inner.Peel.{touchb, live, still, Peeling}
use Rattle.jams.proofs.Sets.{last_or_below}
use Rattle.jams.proofs.Jams.{touched, touches}

-- all numbers below n pass
unfoldable pub all_below : (ℕ → Bool) → ℕ → Bool
all_below test zero = true
all_below test (suc n) = all_below test n && test n

all_below_each : (test : ℕ → Bool) (n : ℕ) → all_below test n ≡ true → (p : ℕ) → p < n → test p ≡ true
unfolding all_below
all_below_each test zero e p l = absurd (omega arith)
all_below_each test (suc n) e p l =
    let q = both (all_below test n) (test n) e in
    ⊎_elim (λ (z : p ≡ n). ap test z ∙ q.1) (λ (m : p < n). all_below_each test n q.0 p m) (last_or_below l)

-- who fails the first test or passes the second passes the second if it passes the first
second : (a b : Bool) → not a || b ≡ true → a ≡ true → b ≡ true
second true b e p = e
second false b e p = differ (cc)

module _ (e : ℕ → ℕ → ℕ) (t : ℕ) (st at : ℕ → ℕ) where
  -- item j is not left at the cell of turn p, or it is the item of that turn
  abbrev pub aloneb : ℕ → ℕ → Bool
  aloneb p j = not (still e st p (at p) j) || eqb j (st p)

  -- the item of turn p is left, touches the cell, and no other that is left does
  abbrev pub turnb : ℕ → Bool
  turnb p = ltb (st p) t && (still e st p (at p) (st p) && all_below (aloneb p) t)

  -- so it is at each of t turns, and none is left after them
  abbrev pub orderb : Bool
  orderb = all_below turnb t && eqb (size_of (live st t) t) 0

  module _ (h : orderb ≡ true) where
    whole : (all_below turnb t ≡ true) × (eqb (size_of (live st t) t) 0 ≡ true)
    whole = both (all_below turnb t) (eqb (size_of (live st t) t) 0) h

    turn : (p : ℕ) → p < t → (ltb (st p) t ≡ true) × (still e st p (at p) (st p) && all_below (aloneb p) t ≡ true)
    turn p l = both (ltb (st p) t) _ (all_below_each turnb t whole.0 p l)

    rest : (p : ℕ) → p < t → (still e st p (at p) (st p) ≡ true) × (all_below (aloneb p) t ≡ true)
    rest p l = both (still e st p (at p) (st p)) _ (turn p l).1

    left_here : (p : ℕ) → p < t → (live st p (st p) ≡ true) × (touchb e (st p) (at p) ≡ true)
    left_here p l = both (live st p (st p)) (touchb e (st p) (at p)) (rest p l).0

    pub order_test : Peeling e t st at t
    order_test =
        record {
          small = λ p l. ltb-true (st p) t (turn p l).0;
          fresh = λ p l. (left_here p l).0;
          here = λ p l. touched e (st p) (at p) (left_here p l).1;
          alone = λ p l j m left there.
              eqb-true j (st p)
              (second (still e st p (at p) j) (eqb j (st p)) (all_below_each (aloneb p) t (rest p l).1 j m)
              (and_both left (touches e j (at p) there)));
          left = omega (arith, eqb-true (size_of (live st t) t) 0 whole.1);
        }
