-- `lists::load` meets its contract: each line that is read is one more of the lines loaded. Assumes nothing.
use native.Mathlib.Omega.{arith}
use mathlib.Core.Path.{◌≡◌}
use Rattle.std.proofs.lemmas.List.{map-set, length-map}
use Rattle.lines.proofs.Lining.{line_unique}
use Rattle.lines.proofs.Listing.{loads_start, loads_small, loads_outside, loads_more, loads_bad}
use Rattle.lines.proofs.Listing.{read_within}
use Rattle.lists.proofs.load.Goals as goal

pub returns-then-out-n : goal.returns-then-out-n
returns-then-out-n g c = loads_small _ _ _ _ _ _ (omega (arith, length-map c.args.out.now g.T.Word.value))

pub returns-then-s-i : goal.returns-then-s-i
returns-then-s-i g c = loads_outside _ _ _ _ _ _ (omega arith)

pub loop-k-init : goal.loop-k-init
loop-k-init g c = loads_start _ _ _ _ _ (omega arith)

pub returns-in_err-read : goal.returns-in_err-read
returns-in_err-read g c =
    let a = c.args in
    let w = c.widen-limit.ensures in
    rw (c.from_residual.ensures, ← w.value)
    (loads_bad _ _ _ _ _ _ _ _ _ (line_unique a.kind a.tag.now c.widen-limit.result (omega arith)) (omega arith)
    (omega (arith, length-map a.out.now g.T.Word.value)) c.loop-k.invariant c.in_err-read.ensures)

pub returns-in_err-out : goal.returns-in_err-out
returns-in_err-out g c =
    let w = c.widen-limit.ensures in
    let n = c.in_err-out.ensures in
    let r = read_within _ _ _ _ _ c.in_ok-read.ensures in
    absurd (omega (arith, w.below, n, r))

pub loop-k-preserved : goal.loop-k-preserved
loop-k-preserved g c =
    rw (map-set, c.in_ok-out.ensures)
    (loads_more _ _ _ _ _ _ _ _ _ (omega (arith, length-map c.args.out.now g.T.Word.value)) c.loop-k.invariant
    c.in_ok-read.ensures)

pub returns : goal.returns
returns g c =
    let e : c.loop-k.k ≡ c.args.n = omega arith in
    let w = c.widen-limit.ensures in
    rw (← w.value) (rw e at c.loop-k.invariant)
