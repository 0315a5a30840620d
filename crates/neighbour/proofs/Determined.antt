-- Any two answers that the statement of the ask allows are one. Assumes nothing.
use mathlib.Core.Path.{sym, ◌∙◌}
use Rattle.neighbour.specs.Determined.{NeighbourAskDetermined}
use Rattle.neighbour.proofs.Asking.{said_injective}

pub neighbour_ask_determined : NeighbourAskDetermined
neighbour_ask_determined keys handles lefts rights lengths seed x a a' e e' = said_injective a a' (e ∙ sym e')
