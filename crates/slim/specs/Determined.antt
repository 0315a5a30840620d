-- What the statement of the slim build determines. The one thing left free is which fitting filling of the cells is
-- written.
use Rattle.std.specs.Prelude.{◌≡◌, Result, Ok, List, ℕ}
use Rattle.refusals.specs.Numbers.{said_by_build}
use Rattle.refusals.specs.declared.Unbuilt.{Unbuilt}
use Rattle.tables.specs.Delimiters.{delimiters}
use Rattle.stores.specs.Stores.{Stores}
use Rattle.items.specs.Items.{handle_items}
use Rattle.maps.specs.Determined.{Alike}
use Rattle.slim.specs.Build.{SlimBuilt}

-- two outcomes of one build: one verdict; the same stores, but where it accepts the cells of both are alike
pub record OneSlimBuild (keys : List ℕ) (b seed₁ seed₃ : ℕ) (v : Result (Unit {0}) Unbuilt) (S : Stores)
    (v' : Result (Unit {0}) Unbuilt) (S' : Stores) : Type 0 where
  pub answer : v ≡ v'
  pub refused : (v ≡ Ok tt → ⊥) → S ≡ S'
  pub offsets : v ≡ Ok tt → Alike seed₁ keys S.cells S'.cells
  pub handles : v ≡ Ok tt → Alike seed₃ (handle_items (delimiters b keys)) S.handles S'.handles
  pub lefts : S.left ≡ S'.left
  pub rights : S.right ≡ S'.right
  pub works : S.work ≡ S'.work
  pub lengths : S.lengths ≡ S'.lengths

-- any two outcomes of a build that its statement allows on the same input are one
abbrev pub SlimBuildDetermined : Type 0
SlimBuildDetermined =
    (keys : List ℕ) (b seed₁ seed₃ : ℕ) (S : Stores) (v : Result (Unit {0}) Unbuilt) (S₁ : Stores)
    (v' : Result (Unit {0}) Unbuilt) (S₂ : Stores)
    → SlimBuilt keys b seed₁ seed₃ S (said_by_build v) S₁ → SlimBuilt keys b seed₁ seed₃ S (said_by_build v') S₂
    → OneSlimBuild keys b seed₁ seed₃ v S₁ v' S₂
