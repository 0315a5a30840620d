-- `digits::decimal::write_decimal` meets its contract: the text is as many digits as it is long. Assumes nothing.
use Rattle.digits.proofs.Decimals.{text_count}
use Rattle.digits.proofs.decimal.write_decimal.Goals as goal

pub returns : goal.returns
returns c = rw (text_count c.args.n, ← c.decimal_length.ensures.0) c.write_digits.ensures
