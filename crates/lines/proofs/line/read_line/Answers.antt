-- `lines::line::read_line` meets its contract: the number is read after the tag. Assumes nothing.
use mathlib.Core.Path.{refl}
use Rattle.digits.specs.Numbers.{decimal_text, hex_text, ended}
use Rattle.digits.proofs.Decimals.{amount_reads}
use Rattle.lines.proofs.Lining.{read_after, read_off}
use Rattle.lines.proofs.line.read_line.Goals as goal

pub returns-in_err-j : goal.returns-in_err-j
returns-in_err-j c = rw c.from_residual.ensures (read_off _ _ _ _ _ c.in_err-j.ensures)

pub returns-in-Decimal : goal.returns-in-Decimal
returns-in-Decimal c =
    rw (c.in-Decimal.is, c.ok.ensures.value)
    (read_after _ (ended decimal_text 10) _ _ _ _ c.in_ok-j.ensures _ (amount_reads _ 10 _ _ _ refl c.read_decimal.ensures))

pub returns-in-Hex : goal.returns-in-Hex
returns-in-Hex c =
    rw c.in-Hex.is (read_after _ (ended hex_text 10) _ _ _ _ c.in_ok-j.ensures _ c.read_hex.ensures)
