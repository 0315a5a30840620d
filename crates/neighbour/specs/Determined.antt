-- What the statement of the neighbour ask determines: everything. (It changes no lent memory.)
use Rattle.std.specs.Prelude.{◌≡◌, Result, List, ℕ}
use Rattle.refusals.specs.declared.Refusal.{Refusal}
use Rattle.places.specs.declared.Place.{Place}
use Rattle.neighbour.specs.Ask.{said_by_neighbour, neighbour_says}

-- any two answers of an ask that its statement allows on the same input are one
abbrev pub NeighbourAskDetermined : Type 0
NeighbourAskDetermined =
    (keys handles lefts rights lengths : List ℕ) (seed x : ℕ) (a a' : Result Place Refusal)
    → said_by_neighbour a ≡ neighbour_says keys handles lefts rights lengths seed x
    → said_by_neighbour a' ≡ neighbour_says keys handles lefts rights lengths seed x → a ≡ a'
