-- `lines::line::number_length` meets its contract, kind by kind. Assumes nothing.
use native.Mathlib.Omega.{arith}
use mathlib.Core.Path.{sym}
use Rattle.digits.proofs.Hexes.{hex_length}
use Rattle.lines.proofs.line.number_length.Goals as goal

pub returns-in-Hex : goal.returns-in-Hex
returns-in-Hex c = rw c.in-Hex.is (sym (hex_length c.args.v), omega arith)
