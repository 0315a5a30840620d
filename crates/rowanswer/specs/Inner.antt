-- What inner functions leave.
use Rattle.std.specs.Prelude.{List, ℕ, ◌≤◌, length}
use Rattle.rowanswer.specs.Answers.{Shown}

-- a text is shown where there is room for it
abbrev pub ShownWhereRoom : List ℕ → List ℕ → ℕ → List ℕ → Type 0
ShownWhereRoom text before r after = length text ≤ length before → Shown text before r after

-- a text of which P says that it is the one is shown where there is room for it
abbrev pub ShowsWhereRoom : (List ℕ → Type 0) → List ℕ → ℕ → List ℕ → Type 0
ShowsWhereRoom P before r after = (text : List ℕ) × (P text × ShownWhereRoom text before r after)
