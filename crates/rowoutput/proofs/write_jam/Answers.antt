-- `rowoutput::write_jam` meets its contract: in a room for both, the second line is put after the first. Assumes nothing.
use native.Mathlib.Omega.{arith}
use Rattle.digits.proofs.Placing.{writes_off}
use Rattle.rowoutput.proofs.Printing.{jam_short, two_lines}
use Rattle.rowoutput.proofs.write_jam.Goals as goal

pub returns-in_err-checked_sub : goal.returns-in_err-checked_sub
returns-in_err-checked_sub c =
    let e = c.in_err-checked_sub.ensures in rw c.from_residual.ensures (writes_off _ _ _ (omega arith))

pub returns-then-branch-jam_length : goal.returns-then-branch-jam_length
returns-then-branch-jam_length c =
    let e = c.in_ok-checked_sub.ensures in let n = c.jam_length.ensures in writes_off _ _ _ (omega arith)

pub returns-in_err-a : goal.returns-in_err-a
returns-in_err-a c = rw c.from_residual-in_err-a.ensures (jam_short c.args.size _ _ _ c.in_err-a.ensures)

pub returns : goal.returns
returns c =
    let e = c.in_ok-checked_sub.ensures in
    let n = c.jam_length.ensures in
    two_lines _ _ _ _ _ _ _ (omega arith) c.in_ok-a.ensures c.write_line-2.ensures
