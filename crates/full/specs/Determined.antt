-- What the statement of the full build determines. The one thing left free is which fitting filling of the cells is
-- written.
use Rattle.std.specs.Prelude.{◌≡◌, Result, Ok, List, ℕ}
use Rattle.refusals.specs.Numbers.{said_by_build}
use Rattle.refusals.specs.declared.Unbuilt.{Unbuilt}
use Rattle.stores.specs.Stores.{Stores, Seeds}
use Rattle.items.specs.Items.{handle_items}
use Rattle.maps.specs.Determined.{Alike}
use Rattle.call.specs.Determined.{CallAlike}
use Rattle.full.specs.Build.{FullBuilt}

-- two outcomes of one build: one verdict; the same stores, but where it accepts the cells of both are alike
pub record OneFullBuild (keys : List ℕ) (b : ℕ) (s : Seeds) (v : Result (Unit {0}) Unbuilt) (S : Stores)
    (v' : Result (Unit {0}) Unbuilt) (S' : Stores) : Type 0 where
  pub answer : v ≡ v'
  pub refused : (v ≡ Ok tt → ⊥) → S ≡ S'
  pub cells : v ≡ Ok tt → CallAlike keys b s.one s.two S.cells S'.cells
  pub handles : v ≡ Ok tt → Alike s.three (handle_items keys) S.handles S'.handles
  pub lefts : S.left ≡ S'.left
  pub rights : S.right ≡ S'.right
  pub works : S.work ≡ S'.work
  pub lengths : S.lengths ≡ S'.lengths

-- any two outcomes of a build that its statement allows on the same input are one
abbrev pub BuildDetermined : Type 0
BuildDetermined =
    (keys : List ℕ) (b : ℕ) (s : Seeds) (S : Stores) (v : Result (Unit {0}) Unbuilt) (S₁ : Stores)
    (v' : Result (Unit {0}) Unbuilt) (S₂ : Stores)
    → FullBuilt keys b s S (said_by_build v) S₁ → FullBuilt keys b s S (said_by_build v') S₂
    → OneFullBuild keys b s v S₁ v' S₂
