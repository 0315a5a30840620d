-- The first map of the slim profile that has a jam: there is one, and its largest jam has one size; where there is one,
-- there are not no jams. Assumes nothing.
use mathlib.Core.Path.{◌≡◌, refl}
use mathlib.Core.List.{List}
use Prim.Native.Nat.{ℕ}
use Rattle.tables.specs.Delimiters.{delimiters}
use Rattle.items.specs.Items.{handle_items}
use Rattle.jams.proofs.Jams.{largest_one_size}
use Rattle.jams.proofs.Largest.{largest_not_jamless}
use Rattle.slim.specs.Build.{SlimJam, in₁, in₃, SlimJamless}

module _ {keys : List ℕ} {b seed₁ seed₃ : ℕ} where
  pub first_jam_one : {m p m' p' : ℕ} → SlimJam keys b seed₁ seed₃ m p → SlimJam keys b seed₁ seed₃ m' p'
      → (m ≡ m') × (p ≡ p')
  first_jam_one (in₁ L) (in₁ L') = (refl, largest_one_size seed₁ keys L L')
  first_jam_one (in₁ L) (in₃ N L') = absurd (largest_not_jamless seed₁ keys L N)
  first_jam_one (in₃ N L) (in₁ L') = absurd (largest_not_jamless seed₁ keys L' N)
  first_jam_one (in₃ N L) (in₃ N' L') = (refl, largest_one_size seed₃ (handle_items (delimiters b keys)) L L')

  pub jam_not_none : {m p : ℕ} → SlimJam keys b seed₁ seed₃ m p → SlimJamless keys b seed₁ seed₃ → ⊥
  jam_not_none (in₁ L) N = largest_not_jamless seed₁ keys L N.one
  jam_not_none (in₃ M L) N = largest_not_jamless seed₃ (handle_items (delimiters b keys)) L N.three
