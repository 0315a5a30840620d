-- Fields of given widths in one number, from the top.
use Rattle.std.specs.Prelude.{List, [], ◌∷◌, ℕ, ◌+◌, ◌*◌, ◌/◌, ◌%◌, ◌^◌, ◌<◌}

-- how many bits the widths have together
abbrev pub total : List ℕ → ℕ
total [] = 0
total (w ∷ ws) = w + total ws

-- the number: each field stands above all that follow it
abbrev pub joined : List ℕ → List ℕ → ℕ
joined [] fs = 0
joined (w ∷ ws) [] = 0
joined (w ∷ ws) (f ∷ fs) = f * 2 ^ total ws + joined ws fs

-- the fields of a number
abbrev pub parted : List ℕ → ℕ → List ℕ
parted [] x = []
parted (w ∷ ws) x = x / 2 ^ total ws ∷ parted ws (x % 2 ^ total ws)

-- there is a field for each width, and it fits
pub data Fit : List ℕ → List ℕ → Type 0 where
  none : Fit [] []
  one : {w f : ℕ} {ws fs : List ℕ} → f < 2 ^ w → Fit ws fs → Fit (w ∷ ws) (f ∷ fs)
