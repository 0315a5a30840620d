-- What a build of one map determines: everything but the cells that items touch in an accepted build.
use Rattle.std.specs.Prelude.{◌≡◌, List, ℕ, ◌<◌, length, get_or, drop, Result, OnOk, OnErr}
use Rattle.cells.specs.Cells.{cell_count, map_value}
use Rattle.items.specs.Items.{items_of}
use Rattle.items.specs.declared.Items.{Items}
use Rattle.jams.specs.Jam.{Touches, touch}
use Rattle.maps.specs.Built.{MapBuilt}

-- two fillings: they answer every item alike, and agree on every cell that no item touches and on those from C(t) on
pub record Alike (seed : ℕ) (items a b : List ℕ) : Type 0 where
  pub answers : (i : ℕ) → i < length items
      → map_value a (length items) seed (get_or items i 0) ≡ map_value b (length items) seed (get_or items i 0)
  pub untouched : (c : ℕ) → c < cell_count (length items)
      → ((i : ℕ) → i < length items → Touches (touch seed items) i c → ⊥) → get_or a c 0 ≡ get_or b c 0
  pub beyond : drop (cell_count (length items)) a ≡ drop (cell_count (length items)) b
  pub long : length a ≡ length b

-- two outcomes of a build, each an answer, cells and work: equal where there is a jam, and up to the filling where
-- there is none
pub record SameOutcome (seed : ℕ) (items : List ℕ) (answer₁ : Result (Unit {0}) ℕ) (cells work : List ℕ)
    (answer₂ : Result (Unit {0}) ℕ) (cells₂ work₂ : List ℕ) : Type 0 where
  pub answer : answer₁ ≡ answer₂
  pub swept : work ≡ work₂
  pub jammed : OnErr answer₁ (cells ≡ cells₂)
  pub filled : OnOk answer₁ (Alike seed items cells cells₂)

-- any two outcomes of a build on the same input are the same, up to the filling
abbrev pub MapDetermined : Type 0
MapDetermined =
    (which : Items) (b seed : ℕ) (T cells work : List ℕ) (answer₁ : Result (Unit {0}) ℕ) (cells₁ work₁ : List ℕ)
    (answer₂ : Result (Unit {0}) ℕ) (cells₂ work₂ : List ℕ)
    → MapBuilt which b seed T cells work answer₁ cells₁ work₁
    → MapBuilt which b seed T cells work answer₂ cells₂ work₂
    → SameOutcome seed (items_of which b T) answer₁ cells₁ work₁ answer₂ cells₂ work₂
