-- `asks::indexes::Indexes::answer_asks` meets its contract: each ask's lines are written after those of the asks before it. Assumes
-- nothing.
use native.Mathlib.Omega.{arith}
use Rattle.lines.specs.Lines.{texts}
use Rattle.lines.proofs.Putting.{put_start}
use Rattle.asks.specs.Asks.{ask_lines}
use Rattle.asks.proofs.Printing.{prints_off, next_off, next_at, all_at}
use Rattle.asks.proofs.indexes.Indexes.answer_asks.Goals as goal

pub returns-then-out-i : goal.returns-then-out-i
returns-then-out-i c = prints_off (texts (ask_lines c.args.self.now.keys.now) c.args.asks.now) _ _ _ (omega arith)

pub loop-x-init : goal.loop-x-init
loop-x-init c = put_start (ask_lines c.args.self.now.keys.now) c.args.asks.now _ _ (omega arith)

pub returns-in_err-at : goal.returns-in_err-at
returns-in_err-at c =
    rw c.from_residual.ensures
    (next_off (ask_lines c.args.self.now.keys.now) c.args.asks.now _ _ _ _ _ c.loop-x-test.true c.loop-x.invariant _ c.in_err-at.ensures)

pub loop-x-preserved : goal.loop-x-preserved
loop-x-preserved c =
    next_at (ask_lines c.args.self.now.keys.now) c.args.asks.now _ _ _ _ _ c.loop-x-test.true c.loop-x.invariant _ _ c.in_ok-at.ensures

pub returns : goal.returns
returns c =
    all_at (ask_lines c.args.self.now.keys.now) c.args.asks.now _ _ c.loop-x.x-index _ _ (omega arith) c.loop-x.invariant
