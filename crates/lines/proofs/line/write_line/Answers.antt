-- `lines::line::write_line` meets its contract: in a room for the line the tag is put, and the number and the line
-- feed after it. Assumes nothing.
use native.Mathlib.Omega.{arith}
use Rattle.digits.proofs.Placing.{writes_off, writes_first}
use Rattle.lines.proofs.Lining.{write_after, line_size}
use Rattle.lines.proofs.line.write_line.Goals as goal

pub returns-in_err-checked_sub : goal.returns-in_err-checked_sub
returns-in_err-checked_sub c =
    let a = c.args in
    let e = c.in_err-checked_sub.ensures in
    rw c.from_residual.ensures (writes_off _ _ _ (omega (arith, line_size a.kind a.tag.now a.v)))

pub returns-then-branch-line_length : goal.returns-then-branch-line_length
returns-then-branch-line_length c =
    let e = c.in_ok-checked_sub.ensures in let n = c.line_length.ensures in writes_off _ _ _ (omega arith)

pub returns-in_err-j : goal.returns-in_err-j
returns-in_err-j c = rw c.from_residual-in_err-j.ensures (writes_first _ _ _ _ c.in_err-j.ensures _)

pub returns-in-Decimal : goal.returns-in-Decimal
returns-in-Decimal c =
    let e = c.in_ok-checked_sub.ensures in
    let n = c.line_length.ensures in
    write_after _ _ _ _ _ _ _ _ _ _ c.in-Decimal.is (omega arith) c.in_ok-j.ensures c.write_decimal.ensures

pub returns-in-Hex : goal.returns-in-Hex
returns-in-Hex c =
    let e = c.in_ok-checked_sub.ensures in
    let n = c.line_length.ensures in
    write_after _ _ _ _ _ _ _ _ _ _ c.in-Hex.is (omega arith) c.in_ok-j.ensures c.write_hex.ensures
