-- `digits::decimal::decimal_length` meets its contract: a number has one digit more than its logarithm, and 0 has one.
-- Assumes nothing.
use native.Mathlib.Omega.{arith}
use mathlib.Core.Path.{sym}
use Rattle.digits.proofs.Decimals.{text_power}
use Rattle.digits.proofs.decimal.decimal_length.Goals as goal

pub returns : goal.returns
returns c =
    let m = c.max.ensures in let i = c.ilog10.ensures in
    (sym (text_power c.args.n c.max.result c.ilog10.result m i.power_le i.next_power_gt), omega (arith, i.bound))
