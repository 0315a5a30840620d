-- `words::product::wrapping_mul` meets its contract: each product of halves fits, and together they are the product.
-- Assumes nothing.
use Rattle.std.proofs.Common.{◌^◌, rules}
use Rattle.words.proofs.Products.{below, low_digits}
use Rattle.words.proofs.product.wrapping_mul.Goals as goal

pub overflow_mul-middle : goal.overflow_mul-middle
overflow_mul-middle c = below (search rules) (search rules)

pub overflow_mul-middle-2 : goal.overflow_mul-middle-2
overflow_mul-middle-2 c = below (search rules) (search rules)

pub overflow_mul-result : goal.overflow_mul-result
overflow_mul-result c = below (search rules) (search rules)

pub returns : goal.returns
returns c = low_digits (2 ^ 32) c.args.a c.args.b
