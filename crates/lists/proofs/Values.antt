-- The numbers that a slice's values are: the number at a place. Assumes nothing.
use Prim.Native.Nat.{ℕ, ◌<◌}
use mathlib.Core.List.{List, map}
use mathlib.Core.Path.{◌≡◌, sym, ap, ◌∙◌}
use lib.ListN.{length, get_or}
use Rattle.std.proofs.lemmas.List.{get_or-map}

pub number_at : {X : Type 0} (value : X → ℕ) (xs : List X) (k : ℕ) (x : X) (number : ℕ) → k < length xs
    → x ≡ get_or xs k x → number ≡ value x → number ≡ get_or (map value xs) k 0
number_at value xs k x number h e f = f ∙ ap value e ∙ sym (get_or-map value xs k x 0 h)
