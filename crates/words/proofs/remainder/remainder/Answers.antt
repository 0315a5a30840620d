-- `words::remainder::remainder` meets its contract: the quotient from the reciprocal is not too large, and at most
-- one too small. Assumes nothing.
use Rattle.std.proofs.Common.{ℕ, ◌+◌, ◌-◌, ◌*◌, ◌%◌, ◌^◌, ◌<◌, arith, rules}
use Rattle.words.proofs.Remainders.{quotient_under, quotient_over, corrected, one_bit}
use Rattle.words.proofs.remainder.remainder.Goals as goal

pub overflow_sub-less : goal.overflow_sub-less
overflow_sub-less c =
    rw c.high_product.ensures
    (quotient_under (2 ^ 64) _ _ (omega arith) c.requires.0.within c.requires.0.most c.args.h)

over : (c : goal.After-high_product) → c.args.h < c.high_product.result * c.args.m + (c.args.m + c.args.m)
over c =
    rw c.high_product.ensures
    (quotient_over (2 ^ 64) _ _ (omega arith) c.requires.0.within c.requires.0.most c.args.h
    c.ranges.h.fits (omega arith))

pub overflow_mul-less : goal.overflow_mul-less
overflow_mul-less c = omega (arith, overflow_sub-less c)

pub overflow_mul-result : goal.overflow_mul-result
overflow_mul-result c = one_bit (search rules) (search rules)

pub returns : goal.returns
returns c =
    let a = c.args in
    let q = c.high_product.result in
    let d : ℕ = (a.h - q * a.m + (2 ^ 64 - a.m)) % 2 ^ 64 in
    let under = overflow_sub-less c in
    corrected a.h a.m q d under (over c) c.requires.1 (omega arith) (omega arith)
