-- The order in which items are peeled: `st p` is the item peeled at turn p, and `at p` the cell that it was peeled at.
use Rattle.std.specs.Prelude.{◌≡◌, Bool, true, ◌&&◌, ◌||◌, not, ℕ, zero, suc, ◌+◌, ◌<◌, eqb}
use Rattle.jams.specs.Jam.{Touches, size_of}

-- item i touches cell c, as a test
unfoldable pub touchb : (ℕ → ℕ → ℕ) → ℕ → ℕ → Bool
touchb e i c = eqb (e 0 i) c || (eqb (e 1 i) c || eqb (e 2 i) c)

-- i is not among the first n peeled
unfoldable pub live : (ℕ → ℕ) → ℕ → ℕ → Bool
live st zero i = true
live st (suc n) i = live st n i && not (eqb (st n) i)

-- i is not among the first n peeled, and touches cell c
abbrev pub still : (ℕ → ℕ → ℕ) → (ℕ → ℕ) → ℕ → ℕ → ℕ → Bool
still e st n c i = live st n i && touchb e i c

-- n items were peeled one after another, each alone at one of its cells among those not yet peeled
pub record Peeling (e : ℕ → ℕ → ℕ) (t : ℕ) (st at : ℕ → ℕ) (n : ℕ) : Type 0 where
  pub small : (p : ℕ) → p < n → st p < t
  pub fresh : (p : ℕ) → p < n → live st p (st p) ≡ true
  pub here : (p : ℕ) → p < n → Touches e (st p) (at p)
  pub alone : (p : ℕ) → p < n → (j : ℕ) → j < t → live st p j ≡ true → Touches e j (at p) → j ≡ st p
  pub left : size_of (live st n) t + n ≡ t
