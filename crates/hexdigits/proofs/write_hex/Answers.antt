-- `hexdigits::write_hex` meets its contract: it is the call's own. Assumes nothing.
use borrow.Author.Rules.{rules}
use Rattle.digits.specs.Numbers.{hex_text}
use Rattle.hexdigits.proofs.write_hex.Goals as goal

pub returns : goal.returns
unfolding hex_text
returns c = search rules
