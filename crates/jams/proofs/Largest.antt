-- The largest jam.
--     jams_together       two jams together are a jam
--     largest_there       items that hold a jam hold a largest one
--     largest_is_there    so do a list's items, with its size
--     size_of_largest     its size: two items at least, all of them at most, and no jam has more
--     largest_some        so it is not 0
--     largest_jammed      items that hold a largest jam hold a jam
--     largest_not_jamless     and do not hold none
-- The largest is found by thinning: from all items, whoever is alone at a cell is taken out, until no cell is touched
-- just once. Who is taken out is in no jam, so what is left holds every jam, and is a jam itself where there is one.
-- Assumes nothing.
use mathlib.Core.Path.{◌≡◌, refl, ap, ◌∙◌}
use mathlib.Core.Bool.{Bool, true, not, or-true}
use mathlib.Core.List.{List}
use mathlib.Core.Logic.{◌⊎◌, inl, inr, ⊎_elim}
use Prim.Native.Nat.{ℕ, zero, suc, ◌<◌}
use native.Mathlib.Decide.{ℕ_discrete}
use native.Mathlib.Omega.{arith}
use borrow.Author.Tests.{eq-eqb, ne_eqb, eqb-true}
use lib.Dec.{eqb}
use lib.ListN.{length}
use Rattle.basics.proofs.Bools.{and_both, not_both}
use Rattle.jams.specs.Jam.{Touches, Jam, Largest, size_of, touch, Jammed, Jamless, LargestJam}
use Rattle.jams.specs.Vouched.{JamsTogether, LargestIsThere, SizeOfLargest}
use Rattle.jams.specs.Inner.Work.{xor_of}
use Rattle.jams.proofs.Sets.{size_le, size_zero, size_some, size_within, without, size_without}
use Rattle.jams.proofs.Jams.{or_cases, any_cell, any_cell_of, some_cell, touching, AloneAt, alone_at}
use Rattle.jams.proofs.Jams.{jam_two, closed_jam, jam_is_never_once}

-- at each cell of an item of either jam there is another of that jam, so another of the two together
pub jams_together : JamsTogether
jams_together e t s s' J K =
    record {
      some = (J.some.0, J.some.1, rw J.some.2);
      twice = λ i c l h w.
          ⊎_elim
          (λ (a : s i ≡ true). let o = J.twice i c l a w in (o.0, o.1, rw o.2, o.3, o.4))
          (λ (a : s' i ≡ true).
          let o = K.twice i c l a w in
          (o.0, o.1, rw (o.2, or-true (s o.0)), o.3, o.4))
          (or_cases (s i) (s' i) h);
    }

module _ (e : ℕ → ℕ → ℕ) (t : ℕ) where
  -- a set that holds every jam
  abbrev HoldsAll : (ℕ → Bool) → Type 0
  HoldsAll s = (s' : ℕ → Bool) → Jam e t s' → (i : ℕ) → i < t → s' i ≡ true → s i ≡ true

  -- cell c is touched by exactly one of a set
  abbrev Once : (ℕ → Bool) → ℕ → Type 0
  Once s c = size_of (touching e s c) t ≡ 1

  -- an item that is alone at a cell, in a set that holds every jam, is in no jam: each jam is in the rest
  rest_holds_all : (s : ℕ → Bool) (c i : ℕ) → HoldsAll s → AloneAt e t s c i → HoldsAll (without s i)
  rest_holds_all s c i H o s' J k l h =
      and_both (H s' J k l h)
      (ap not (ne_eqb i k (λ q.
      ((jam_is_never_once e t s').0 J).1 i c o.below (ap s' q ∙ h) o.here
      (λ j m g w. o.only j m (H s' J j m g) w))))

  -- some cell is touched by exactly one, or none is
  once_or_never : (s : ℕ → Bool) → ((c : ℕ) × Once s c) ⊎ ((c : ℕ) → Once s c → ⊥)
  once_or_never s =
      let once : ℕ → Bool = λ c. eqb (size_of (touching e s c) t) 1 in
      elim (ℕ_discrete (size_of (any_cell e once) t) 0) [
        | yes none ↦ inr (λ c z.
            let i = xor_of (touching e s c) t in
            let o = alone_at e t s c z in
            not_both (any_cell_of e once i c o.here (eq-eqb (size_of (touching e s c) t) 1 z))
            (size_zero (any_cell e once) t none i o.below))
        | no some ↦
            let r : (i : ℕ) × (i < t) × (any_cell e once i ≡ true) = size_some (any_cell e once) t some in
            let d : (c : ℕ) × Touches e r.0 c × (once c ≡ true) = some_cell e once r.0 r.2 in
            inl (d.0, eqb-true (size_of (touching e s d.0) t) 1 d.2)
      ]

  -- a set that holds every jam, of fewer than m items, is thinned until no cell is touched by exactly one
  thinned : (m : ℕ) (s : ℕ → Bool) → size_of s t < m → HoldsAll s
      → (s' : ℕ → Bool) × HoldsAll s' × ((c : ℕ) → Once s' c → ⊥)
  thinned zero s l H = absurd (omega arith)
  thinned (suc m) s l H =
      ⊎_elim
      (λ (d : (c : ℕ) × Once s c).
      let c = d.0 in
      let i = xor_of (touching e s c) t in
      let o = alone_at e t s c d.1 in
      thinned m (without s i) (omega (arith, size_without s t i o.below o.inside)) (rest_holds_all s c i H o))
      (λ (never : (c : ℕ) → Once s c → ⊥). (s, H, never))
      (once_or_never s)

  -- thinned from all items, the set has an item where there is a jam: it is a jam, and holds every jam
  largest_there : (s : ℕ → Bool) × Jam e t s → (s : ℕ → Bool) × Largest e t s
  largest_there K =
      let r = thinned (suc t) (λ i. true) (omega (arith, size_le (λ i. true) t)) (λ s J i l h. refl) in
      let i = K.1.some.0 in
      let l = K.1.some.1 in
      (r.0, record { jam = closed_jam e t r.0 r.2 (i, l, r.1 K.0 K.1 i l K.1.some.2); all = r.1 })

-- the largest jam of a list's items, with its size
pub largest_is_there : LargestIsThere
largest_is_there seed items K =
    let t = length items in
    let L : (s : ℕ → Bool) × Largest (touch seed items) t s = largest_there (touch seed items) t K in
    (size_of L.0 t, (L.0, L.1, refl))

-- the largest jam is a jam, lies within the items, and every jam lies within it
pub size_of_largest : SizeOfLargest
size_of_largest seed items size L =
    let t = length items in
    rw (← L.2) (jam_two L.1.jam, size_le L.0 t, λ s J. size_within s L.0 t (L.1.all s J))

-- the largest jam is not empty
pub largest_some : (seed : ℕ) (items : List ℕ) {size : ℕ} → LargestJam seed items size → 0 < size
largest_some seed items {size} L = omega (arith, (size_of_largest seed items size L).0)

-- the largest jam is a jam
pub largest_jammed : (seed : ℕ) (items : List ℕ) {size : ℕ} → LargestJam seed items size → Jammed seed items
largest_jammed seed items L = (L.0, L.1.jam)

pub largest_not_jamless : (seed : ℕ) (items : List ℕ) {size : ℕ} → LargestJam seed items size → Jamless seed items → ⊥
largest_not_jamless seed items L N = N L.0 L.1.jam
