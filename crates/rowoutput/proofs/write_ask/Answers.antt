-- `rowoutput::write_ask` meets its contract: in a room for all of them the four lines are put one after the
-- other. Assumes nothing.
use native.Mathlib.Omega.{arith}
use Rattle.digits.proofs.Placing.{writes_off}
use Rattle.rowoutput.proofs.Printing.{key_short, call_short, before_short, four_lines}
use Rattle.rowoutput.proofs.write_ask.Goals as goal

pub returns-in_err-checked_sub : goal.returns-in_err-checked_sub
returns-in_err-checked_sub c =
    let e = c.in_err-checked_sub.ensures in rw c.from_residual.ensures (writes_off _ _ _ (omega arith))

pub returns-then-branch-ask_length : goal.returns-then-branch-ask_length
returns-then-branch-ask_length c =
    let e = c.in_ok-checked_sub.ensures in let n = c.ask_length.ensures in writes_off _ _ _ (omega arith)

pub returns-in_err-a : goal.returns-in_err-a
returns-in_err-a c =
    let e = c.in_ok-checked_sub.ensures in
    let n = c.ask_length.ensures in
    rw c.from_residual-in_err-a.ensures (key_short _ _ _ _ _ _ (omega arith) _ c.in_err-a.ensures)

pub returns-in_err-b : goal.returns-in_err-b
returns-in_err-b c =
    let e = c.in_ok-checked_sub.ensures in
    let n = c.ask_length.ensures in
    rw c.from_residual-in_err-b.ensures
    (call_short _ _ _ _ _ _ (omega arith) _ _ c.in_ok-a.ensures _ c.in_err-b.ensures)

pub returns-in_err-d : goal.returns-in_err-d
returns-in_err-d c =
    let e = c.in_ok-checked_sub.ensures in
    let n = c.ask_length.ensures in
    rw c.from_residual-in_err-d.ensures
    (before_short _ _ _ _ _ _ (omega arith) _ _ c.in_ok-a.ensures _ _ c.in_ok-b.ensures _ c.in_err-d.ensures)

pub returns : goal.returns
returns c =
    let e = c.in_ok-checked_sub.ensures in
    let n = c.ask_length.ensures in
    four_lines _ _ _ _ _ _ (omega arith) _ _ c.in_ok-a.ensures _ _ c.in_ok-b.ensures _ _ c.in_ok-d.ensures _ _
    c.write_line-3.ensures
