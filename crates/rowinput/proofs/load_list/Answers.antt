-- `rowinput::load_list` meets its contract: the count line, then that many lines. Assumes nothing.
use Rattle.std.proofs.lemmas.List.{map-id}
use Rattle.rowinput.proofs.Scanning.{list_headless, list_short, list_whole}
use Rattle.rowinput.proofs.load_list.Goals as goal

pub returns-in_err-first : goal.returns-in_err-first
returns-in_err-first c = rw c.from_residual.ensures (list_headless _ _ _ _ _ _ _ c.in_err-first.ensures)

pub returns-in_err-end : goal.returns-in_err-end
returns-in_err-end c =
    rw c.from_residual-in_err-end.ensures
    (list_short _ _ _ _ _ _ _ _ c.in_ok-first.ensures (simp map-id at c.in_err-end.ensures))

pub returns : goal.returns
returns c = list_whole _ _ _ _ _ _ _ _ c.in_ok-first.ensures _ (simp map-id at c.in_ok-end.ensures)
