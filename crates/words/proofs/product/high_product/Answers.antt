-- `words::product::high_product` meets its contract: no column is too large, and together they are the product.
-- Assumes nothing.
use Rattle.std.proofs.Common.{◌-◌, ◌*◌, ◌/◌, ◌%◌, ◌^◌, ◌≤◌, arith, rules}
use Rattle.words.proofs.Products.{below, product_most, high_digits}
use Rattle.words.proofs.product.high_product.Goals as goal

-- how large each product of halves is at most
columns : (c : goal.Start)
    → let a = c.args.a in
    let b = c.args.b in
    let P = 2 ^ 32 in
    let most = (P - 1) * (P - 1) in
    (a / P * (b % P) ≤ most) × (a % P * (b % P) ≤ most) × (a % P * (b / P) ≤ most) × (a / P * (b / P) ≤ most)
columns c = (
  product_most (omega arith) (omega arith),
  product_most (omega arith) (omega arith),
  product_most (omega arith) (omega arith),
  product_most (omega arith) (omega arith),
)

pub overflow_mul-right : goal.overflow_mul-right
overflow_mul-right c = below (search rules) (search rules)

pub overflow_mul-right-2 : goal.overflow_mul-right-2
overflow_mul-right-2 c = below (search rules) (search rules)

pub overflow_add-right : goal.overflow_add-right
overflow_add-right c = omega (arith, columns c)

pub overflow_mul-middle : goal.overflow_mul-middle
overflow_mul-middle c = below (search rules) (search rules)

pub overflow_add-middle : goal.overflow_add-middle
overflow_add-middle c = omega (arith, columns c)

pub overflow_mul-result : goal.overflow_mul-result
overflow_mul-result c = below (search rules) (search rules)

pub overflow_add-result : goal.overflow_add-result
overflow_add-result c = omega (arith, columns c)

pub overflow_add-result-2 : goal.overflow_add-result-2
overflow_add-result-2 c = omega (arith, columns c)

pub returns : goal.returns
returns c = cc (high_digits (2 ^ 32) (omega arith) c.args.a c.args.b)
