-- `lists::lines_end` meets its contract: each line that is read is one more of the lines passed. Assumes nothing.
use native.Mathlib.Omega.{arith}
use mathlib.Core.Path.{◌≡◌}
use Rattle.lines.proofs.Lining.{line_unique}
use Rattle.lines.proofs.Listing.{lined_start, lined_outside, lined_more, lined_bad}
use Rattle.lists.proofs.lines_end.Goals as goal

pub returns-then-s-i : goal.returns-then-s-i
returns-then-s-i c = lined_outside _ _ _ _ _ (omega arith)

pub loop-k-init : goal.loop-k-init
loop-k-init c = lined_start _ _ _ _ (omega arith)

pub returns-in_err-at : goal.returns-in_err-at
returns-in_err-at c =
    let a = c.args in
    rw c.from_residual.ensures
    (lined_bad _ _ _ _ _ _ _ (line_unique a.kind a.tag.now a.most (omega arith)) (omega arith) c.loop-k.invariant
    c.in_err-at.ensures)

pub loop-k-preserved : goal.loop-k-preserved
loop-k-preserved c = lined_more _ _ _ _ _ _ _ c.loop-k.invariant c.in_ok-at.ensures

pub returns : goal.returns
returns c = let e : c.loop-k._k ≡ c.args.n = omega arith in rw e at c.loop-k.invariant
