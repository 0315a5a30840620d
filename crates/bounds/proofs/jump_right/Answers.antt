-- `bounds::jump_right` meets its contract: no jump passes the row after the last of the split's rows, and a jump lands
-- on a later row. Assumes nothing.
use native.Mathlib.Omega.{arith}
use Rattle.std.proofs.Common.{◌<◌, ◌≤◌, ◌∙◌, length}
use Rattle.tables.specs.Inner.{listing}
use Rattle.splits.specs.Splits.{right}
use Rattle.splits.proofs.Rows.{right_gt, right_le}
use Rattle.splits.proofs.Jumping.{right_turn, right_stop}
use Rattle.bounds.proofs.jump_right.Goals as goal
use Rattle.bounds.proofs.jump_right.Goals.{After-from-j}

-- where a turn goes
went : (c : After-from-j) → let T = listing c.args.rows.now in
    (c.loop-j.j < c.from-j.result) × (c.loop-j.j < length T) × (c.from-j.result ≤ right T c.args.m)
went c =
    let a = c.args in
    let i = c.loop-j.invariant in
    right_turn (listing a.rows.now) a.m c.len_at-l.result c.requires.0 c.len_at-l.ensures c.loop-j.j c.goes_on_right.ensures
    c.from-j.result c.loop-j-test.true i.0 i.1
    (λ small. c.from-j.ensures ∙ c.requires.1.entries c.loop-j.j (omega arith) (omega arith))

pub loop-j-init : goal.loop-j-init
loop-j-init c =
    let split = c.requires.0.split in
    omega (arith, right_gt (listing c.args.rows.now) c.requires.0.table c.args.m split.pos split.small)

pub loop-j-smaller : goal.loop-j-smaller
loop-j-smaller c = omega (arith, went c)

pub loop-j-preserved : goal.loop-j-preserved
loop-j-preserved c = omega (arith, went c)

pub returns : goal.returns
returns c =
    let a = c.args in
    let split = c.requires.0.split in
    let i = c.loop-j.invariant in (
      right_stop (listing a.rows.now) a.m c.len_at-l.result c.requires.0 c.len_at-l.ensures c.loop-j.j c.goes_on_right.ensures
          c.loop-j-test.false i.0 i.1,
      omega (arith, right_le (listing a.rows.now) c.requires.0.table a.m split.pos split.small),
    )
