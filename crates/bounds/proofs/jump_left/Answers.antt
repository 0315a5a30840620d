-- `bounds::jump_left` meets its contract: no jump passes the first of the split's rows, and a jump lands on an earlier
-- row. Assumes nothing.
use native.Mathlib.Omega.{arith}
use Rattle.std.proofs.Common.{◌<◌, ◌≤◌, ◌∙◌}
use Rattle.tables.specs.Inner.{listing}
use Rattle.splits.specs.Splits.{left}
use Rattle.splits.proofs.Rows.{left_lt}
use Rattle.splits.proofs.Jumping.{left_turn, left_stop}
use Rattle.bounds.proofs.jump_left.Goals as goal
use Rattle.bounds.proofs.jump_left.Goals.{After-from-j}

-- where a turn goes
went : (c : After-from-j) → (c.from-j.result < c.loop-j.j) × (left (listing c.args.rows.now) c.args.m ≤ c.from-j.result)
went c =
    let a = c.args in
    let i = c.loop-j.invariant in
    left_turn (listing a.rows.now) a.m c.len_at-l.result c.requires.0 c.len_at-l.ensures c.loop-j.j c.goes_on_left.ensures
    c.from-j.result c.loop-j-test.true i.0 i.1 (λ some. c.from-j.ensures ∙ c.requires.1.entries c.loop-j.j some i.0)

pub loop-j-init : goal.loop-j-init
loop-j-init c =
    let split = c.requires.0.split in
    omega (arith, left_lt (listing c.args.rows.now) c.requires.0.table c.args.m split.pos split.small)

pub loop-j-smaller : goal.loop-j-smaller
loop-j-smaller c = (went c).0

pub loop-j-preserved : goal.loop-j-preserved
loop-j-preserved c = omega (arith, went c)

pub returns : goal.returns
returns c =
    let a = c.args in
    let i = c.loop-j.invariant in (
      left_stop (listing a.rows.now) a.m c.len_at-l.result c.requires.0 c.len_at-l.ensures c.loop-j.j c.goes_on_left.ensures
          c.loop-j-test.false i.0 i.1,
      i.0,
    )
