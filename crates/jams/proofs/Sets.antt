-- Sets of numbers below t, given by a test: their size, and the xor of their numbers.
--     size_ext, xor_ext       two tests that agree below t
--     size_zero, xor_zero     an empty set: the test fails below t, and the xor is 0
--     size_some               a set that is not empty has a number
--     size_within             a set within another has no more numbers
--     size_less, xor_less     one number taken out
--     size_without            one that is in the set: one less
--     size_one                a set of one: the xor is its number
--     size_two                a set with two numbers that differ has two at least
--     size_other              a set that is not of one has another number beside the one at hand
-- Assumes nothing.
use mathlib.Core.Path.{◌≡◌, refl, sym, ap, ap₂, ◌∙◌}
use mathlib.Core.Bool.{Bool, true, false, ◌&&◌, not, and-true, and-false, and-eq-true_iff}
use mathlib.Core.Logic.{◌⊎◌, ⊎_elim}
use Prim.Native.Nat.{ℕ, zero, suc, ◌≤◌, ◌<◌}
use native.Mathlib.Nat.{le_of_suc-le-suc, eq-or-lt_of_le}
use native.Mathlib.Omega.{arith}
use borrow.Author.Tests.{eq-eqb, ne_eqb}
use lib.Dec.{eqb}
use lib.Bits.{bit_xor}
use Rattle.basics.proofs.Bools.{not_both, true_or_false}
use Rattle.words.proofs.Xor.{xor_cancel, xor-sort}
use Rattle.jams.specs.Jam.{size_of}
use Rattle.jams.specs.Inner.Work.{more_if, xor_if, xor_of}

-- a number below suc t is t, or below t
pub last_or_below : {k t : ℕ} → k < suc t → (k ≡ t) ⊎ (k < t)
last_or_below h = eq-or-lt_of_le (le_of_suc-le-suc h)

pub size_ext : (p q : ℕ → Bool) (t : ℕ) → ((k : ℕ) → k < t → p k ≡ q k) → size_of p t ≡ size_of q t
unfolding size_of
size_ext p q zero h = refl
size_ext p q (suc t) h = ap₂ more_if (h t (omega arith)) (size_ext p q t (λ k l. h k (omega arith)))

pub xor_ext : (p q : ℕ → Bool) (t : ℕ) → ((k : ℕ) → k < t → p k ≡ q k) → xor_of p t ≡ xor_of q t
unfolding xor_of
xor_ext p q zero h = refl
xor_ext p q (suc t) h =
    ap₂ (λ (b : Bool) (x : ℕ). xor_if b t x) (h t (omega arith)) (xor_ext p q t (λ k l. h k (omega arith)))

pub size_le : (p : ℕ → Bool) (t : ℕ) → size_of p t ≤ t
unfolding size_of
size_le p zero = omega arith
size_le p (suc t) = more_le (p t) (size_le p t)
  where
    more_le : (b : Bool) {n t : ℕ} → n ≤ t → more_if b n ≤ suc t
    more_le true l = omega arith
    more_le false l = omega arith

more_zero : (b : Bool) (n : ℕ) → more_if b n ≡ 0 → (b ≡ false) × (n ≡ 0)
more_zero true n e = absurd (omega arith)
more_zero false n e = (refl, e)

pub size_zero : (p : ℕ → Bool) (t : ℕ) → size_of p t ≡ 0 → (k : ℕ) → k < t → p k ≡ false
unfolding size_of
size_zero p zero e k l = absurd (omega arith)
size_zero p (suc t) e k l =
    let z : (p t ≡ false) × (size_of p t ≡ 0) = more_zero (p t) (size_of p t) e in
    ⊎_elim (λ (q : k ≡ t). ap p q ∙ z.0) (λ (m : k < t). size_zero p t z.1 k m) (last_or_below l)

pub xor_zero : (p : ℕ → Bool) (t : ℕ) → size_of p t ≡ 0 → xor_of p t ≡ 0
unfolding size_of xor_of
xor_zero p zero e = refl
xor_zero p (suc t) e =
    let z : (p t ≡ false) × (size_of p t ≡ 0) = more_zero (p t) (size_of p t) e in
    rw z.0 (xor_zero p t z.1)

pub size_some : (p : ℕ → Bool) (t : ℕ) → (size_of p t ≡ 0 → ⊥) → (k : ℕ) × (k < t) × (p k ≡ true)
unfolding size_of
size_some p zero h = absurd (h refl)
size_some p (suc t) h =
    ⊎_elim
    (λ (e : p t ≡ true). (t, omega arith, e))
    (λ (e : p t ≡ false).
    let r : (k : ℕ) × (k < t) × (p k ≡ true) = size_some p t (λ z. h (rw e z)) in
    (r.0, omega arith, r.2))
    (true_or_false (p t))

-- what is within another set has no more numbers than it
pub size_within : (p q : ℕ → Bool) (t : ℕ) → ((k : ℕ) → k < t → p k ≡ true → q k ≡ true) → size_of p t ≤ size_of q t
unfolding size_of
size_within p q zero h = omega arith
size_within p q (suc t) h = more_within (p t) (q t) (h t (omega arith)) (size_within p q t (λ k l. h k (omega arith)))
  where
    more_within : (a b : Bool) {m n : ℕ} → (a ≡ true → b ≡ true) → m ≤ n → more_if a m ≤ more_if b n
    more_within true b h l = rw (h refl) (omega arith)
    more_within false true h l = omega arith
    more_within false false h l = l

-- q is p with i taken out, where p has i by the test b
pub record Without (p q : ℕ → Bool) (i : ℕ) (b : Bool) : Type 0 where
  pub was : p i ≡ b
  pub gone : q i ≡ false
  pub same : (k : ℕ) → (k ≡ i → ⊥) → p k ≡ q k

more_comm : (a b : Bool) (n : ℕ) → more_if a (more_if b n) ≡ more_if b (more_if a n)
more_comm true true n = refl
more_comm true false n = refl
more_comm false true n = refl
more_comm false false n = refl

pub xor_if_twice : (b : Bool) (i x : ℕ) → xor_if b i (xor_if b i x) ≡ x
xor_if_twice true i x = xor_cancel x i
xor_if_twice false i x = refl

xor_if_comm : (a b : Bool) (i j x : ℕ) → xor_if a i (xor_if b j x) ≡ xor_if b j (xor_if a i x)
xor_if_comm true true i j x = simp xor-sort
xor_if_comm true false i j x = refl
xor_if_comm false true i j x = refl
xor_if_comm false false i j x = refl

pub size_less : (p q : ℕ → Bool) (i t : ℕ) (b : Bool) → i < t → Without p q i b → size_of p t ≡ more_if b (size_of q t)
unfolding size_of
size_less p q i zero b l w = absurd (omega arith)
size_less p q i (suc t) b l w =
    ⊎_elim
    (λ (e : i ≡ t).
    ap₂ more_if (ap p (sym e) ∙ w.was) (size_ext p q t (λ k m. w.same k (λ z. omega arith)))
    ∙ ap (λ (a : Bool). more_if b (more_if a (size_of q t))) (sym (ap q (sym e) ∙ w.gone)))
    (λ (m : i < t).
    ap₂ more_if (w.same t (λ z. omega arith)) (size_less p q i t b m w) ∙ more_comm (q t) b (size_of q t))
    (last_or_below l)

pub xor_less : (p q : ℕ → Bool) (i t : ℕ) (b : Bool) → i < t → Without p q i b → xor_of q t ≡ xor_if b i (xor_of p t)
unfolding xor_of
xor_less p q i zero b l w = absurd (omega arith)
xor_less p q i (suc t) b l w =
    ⊎_elim
    (λ (e : i ≡ t).
    ap (λ (a : Bool). xor_if a t (xor_of q t)) (ap q (sym e) ∙ w.gone)
    ∙ xor_ext q p t (λ k m. sym (w.same k (λ z. omega arith)))
    ∙ sym (xor_if_twice b i (xor_of p t))
    ∙ ap₂ (λ (a : Bool) (j : ℕ). xor_if b i (xor_if a j (xor_of p t))) (sym (ap p (sym e) ∙ w.was)) e)
    (λ (m : i < t).
    ap₂ (λ (a : Bool) (x : ℕ). xor_if a t x) (sym (w.same t (λ z. omega arith))) (xor_less p q i t b m w)
    ∙ xor_if_comm (p t) b t i (xor_of p t))
    (last_or_below l)

-- p has one number, i
pub record One (p : ℕ → Bool) (t i : ℕ) : Type 0 where
  pub below : i < t
  pub passes : p i ≡ true
  pub only : (k : ℕ) → k < t → p k ≡ true → k ≡ i

one_more : (p : ℕ → Bool) (t : ℕ) (b : Bool) → p t ≡ b → more_if b (size_of p t) ≡ 1
    → (size_of p t ≡ 1 → One p t (xor_of p t))
    → One p (suc t) (xor_if b t (xor_of p t))
one_more p t true e h rec =
    let z : size_of p t ≡ 0 = omega arith in
    let x : bit_xor (xor_of p t) t ≡ t = rw (xor_zero p t z) in
    rw x (record {
      below = omega arith;
      passes = e;
      only =
          λ k l q. ⊎_elim (λ (m : k ≡ t). m) (λ (m : k < t). absurd (not_both q (size_zero p t z k m)))
          (last_or_below l);
    })
one_more p t false e h rec =
    let r : One p t (xor_of p t) = rec h in
    record {
      below = omega (arith, r.below);
      passes = r.passes;
      only =
          λ k l q. ⊎_elim (λ (m : k ≡ t). absurd (not_both q (ap p m ∙ e))) (λ (m : k < t). r.only k m q)
          (last_or_below l);
    }

pub size_one : (p : ℕ → Bool) (t : ℕ) → size_of p t ≡ 1 → One p t (xor_of p t)
unfolding size_of xor_of
size_one p zero h = absurd (omega arith)
size_one p (suc t) h = one_more p t (p t) refl h (size_one p t)

-- p with i taken out
abbrev pub without : (ℕ → Bool) → ℕ → ℕ → Bool
without p i k = p k && not (eqb i k)

pub without_is : (p : ℕ → Bool) (i : ℕ) → Without p (without p i) i (p i)
without_is p i =
    record {
      was = refl;
      gone = rw (eq-eqb i i refl, and-false (p i));
      same = λ k h. rw (ne_eqb i k (λ z. h (sym z)), and-true (p k));
    }

-- a number of the set taken out: one less
pub size_without : (p : ℕ → Bool) (t i : ℕ) → i < t → p i ≡ true → size_of p t ≡ suc (size_of (without p i) t)
size_without p t i l e = rw e at (size_less p (without p i) i t (p i) l (without_is p i))

-- two numbers that differ: the set is neither empty nor of one
pub size_two : (p : ℕ → Bool) (t i j : ℕ) → i < t → p i ≡ true → j < t → p j ≡ true → (j ≡ i → ⊥) → 2 ≤ size_of p t
size_two p t i j l h m g other =
    let not_none : ¬ (size_of p t ≡ 0) = λ z. not_both h (size_zero p t z i l) in
    let not-one : ¬ (size_of p t ≡ 1) = λ z. other ((size_one p t z).only j m g ∙ sym ((size_one p t z).only i l h)) in
    omega arith

pub size_other : (p : ℕ → Bool) (t i : ℕ) → (size_of p t ≡ 1 → ⊥) → i < t → p i ≡ true
    → (j : ℕ) × (j < t) × (p j ≡ true) × (j ≡ i → ⊥)
size_other p t i h l e =
    let c : size_of p t ≡ suc (size_of (without p i) t) = size_without p t i l e in
    let r : (k : ℕ) × (k < t) × (without p i k ≡ true) = size_some (without p i) t (λ z. h (omega arith)) in (
      r.0,
      r.1,
      ((and-eq-true_iff (p r.0) (not (eqb i r.0))).0 r.2).0,
      λ z. not_both r.2 (ap (without p i) z ∙ (without_is p i).gone),
    )
