-- Demand 1 and request Five, of any build that ends as builds do: which map it names, and the size that it reports.
-- Assumes nothing.
use mathlib.Core.Path.{◌≡◌, ap}
use mathlib.Core.List.{List}
use mathlib.Core.Logic.{◌↔◌}
use Prim.Native.Nat.{ℕ, ◌≤◌, ◌<◌}
use native.Mathlib.Omega.{arith}
use Rattle.refusals.specs.Numbers.{BuildSaid, taken, refused, number_said, jam_said}
use Rattle.refusals.proofs.Naming.{not_taken, jam_not_taken, jam_not_refused}
use Rattle.stores.specs.Stores.{Stores}
use Rattle.stores.specs.declared.Sizes.{Sizes}
use Rattle.jams.specs.Jam.{Jammed, Jamless}
use Rattle.verdicts.specs.Ended.{Ended, refusal, jam, accepted}
use Rattle.index.specs.Demands.{Names}

-- items that are not jammed hold no jam
pub not_jammed_jamless : (seed : ℕ) (items : List ℕ) → (Jammed seed items → ⊥) → Jamless seed items
not_jammed_jamless seed items none s J = none (s, J)

module _ {judged : BuildSaid} {w : Sizes} {Jams : (map size : ℕ) → Type 0} {NoJam : Type 0} {Fill : Stores → Type 0}
    {S : Stores} {said : BuildSaid} {S' : Stores} where
  -- the map that is named has the first jam, of the size that is reported
  pub named_jams : Ended judged w Jams NoJam Fill S said S' → (m : ℕ) → Names said m → Jams m (jam_said said)
  named_jams (refusal k i j e c) m f = jam_not_refused m f.0 k i f.1 e
  named_jams (jam m' p j J e c) m f =
      let g = f.1 in let same : m' ≡ m = cc in rw (ap jam_said e) (rw same at J)
  named_jams (accepted j N e F) m f = jam_not_taken m f.0 f.1 e

  -- where nothing else is refused, a map is named exactly if it has the first jam ..
  pub names_iff : Ended judged w Jams NoJam Fill S said S' → judged ≡ taken
      → ((m p m' p' : ℕ) → Jams m p → Jams m' p' → (m ≡ m') × (p ≡ p')) → ((m p : ℕ) → Jams m p → NoJam → ⊥)
      → (m : ℕ) → Names said m ↔ ((size : ℕ) × Jams m size)
  names_iff E passed one none m = ((λ f. (jam_said said, named_jams E m f)), there E)
    where
      there : Ended judged w Jams NoJam Fill S said S' → (size : ℕ) × Jams m size → Names said m
      there (refusal k i j e c) K = not_taken k i j passed
      there (jam m' p j J e c) K = (p, rw (one m K.0 m' p K.1 J).0 e)
      there (accepted j N e F) K = absurd (none m K.0 K.1 N)

  -- .. and the build accepts exactly if none has one
  pub taken_iff : Ended judged w Jams NoJam Fill S said S' → judged ≡ taken → ((m p : ℕ) → Jams m p → NoJam → ⊥)
      → (said ≡ taken) ↔ NoJam
  taken_iff (refusal k i j e c) passed none = not_taken k i j passed
  taken_iff (jam m p j J e c) passed none = (jam_not_taken m p e, (λ N. absurd (none m p J N)))
  taken_iff (accepted j N e F) passed none = ((λ t. N), (λ t. e))

  -- whatever it is handed, it says 5 exactly if it names a map, and reports a size above 0 exactly then
  pub five_iff : Ended judged w Jams NoJam Fill S said S'
      → ((k i : ℕ) → judged ≡ refused k i → (1 ≤ k) × (k ≤ 4)) → ((m p : ℕ) → Jams m p → 0 < p)
      → ((number_said said ≡ 5) ↔ ((m : ℕ) × Names said m)) × ((0 < jam_said said) ↔ (number_said said ≡ 5))
  five_iff (refusal k i j e c) low some =
      let other : number_said said ≡ 5 → ⊥ = λ five. omega (arith, ap number_said e, low k i j) in (
        ((λ five. absurd (other five)), (λ f. jam_not_refused f.0 f.1.0 k i f.1.1 e)),
        ((λ h. absurd (omega (arith, ap jam_said e))), (λ five. absurd (other five))),
      )
  five_iff (jam m p j J e c) low some = (
    ((λ five. (m, (p, e))), (λ f. ap number_said e)),
    ((λ h. ap number_said e), (λ five. omega (arith, ap jam_said e, some m p J))),
  )
  five_iff (accepted j N e F) low some =
      let other : number_said said ≡ 5 → ⊥ = λ five. omega (arith, ap number_said e) in (
        ((λ five. absurd (other five)), (λ f. jam_not_taken f.0 f.1.0 f.1.1 e)),
        ((λ h. absurd (omega (arith, ap jam_said e))), (λ five. absurd (other five))),
      )
