-- `words::fattest::fattest` meets its contract: the highest digit in which the ends differ tells the power of two.
-- Assumes nothing.
use Rattle.std.proofs.Common.{arith}
use Rattle.words.proofs.Sharing.{shared_lt}
use Rattle.words.proofs.Fatness.{fattest_shifted}
use Rattle.words.proofs.fattest.fattest.Goals as goal

-- the ends differ in some digit
pub overflow_sub-k : goal.overflow_sub-k
overflow_sub-k c = omega (arith, shared_lt c.args.a c.args.b (omega arith) (omega arith) c.requires.0)

pub returns : goal.returns
returns c = fattest_shifted c.args.a c.args.b c.requires.0 (omega arith)
