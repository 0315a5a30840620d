-- `words::remainder::small_remainder` meets its contract: the low product is the fraction. Assumes nothing.
use Rattle.std.proofs.Common.{◌^◌, mul-le-mul_left, arith}
use Rattle.words.proofs.Remainders.{fraction}
use Rattle.words.proofs.remainder.small_remainder.Goals as goal

pub returns : goal.returns
returns c =
    let at-start = c.before.before in
    let known = at-start.requires in
    cc (fraction (2 ^ 64) at-start.args.m at-start.args.r (omega arith) known.0.within known.0.most at-start.args.x known.2 (omega arith))

pub overflow_add-r : goal.overflow_add-r
overflow_add-r c = omega (arith, mul-le-mul_left c.args.r c.requires.1)
