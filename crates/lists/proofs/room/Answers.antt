-- `lists::room` meets its contract: each line leaves less of the room. Assumes nothing.
use native.Mathlib.Omega.{arith}
use mathlib.Core.List.{map}
use Rattle.std.proofs.lemmas.List.{length-map}
use Rattle.lines.proofs.Putting.{room_start, room_off, room_more, room_end}
use Rattle.lists.proofs.Values.{number_at}
use Rattle.lists.proofs.room.Goals as goal

pub loop-x-init : goal.loop-x-init
loop-x-init g c = room_start _ (map g.T.Word.value c.args.xs.now) _

pub returns-in_err-left : goal.returns-in_err-left
returns-in_err-left g c =
    let v = number_at g.T.Word.value c.args.xs.now _ _ _ c.loop-x-test.true c.x-item.is c.widen.ensures.value in
    let s = c.in_err-left.ensures in
    rw c.from_residual.ensures
    (room_off _ _ _ _ _ c.line_length.result (omega (arith, length-map c.args.xs.now g.T.Word.value)) c.loop-x.invariant
    (rw v at c.line_length.ensures.0) (omega arith))

pub loop-x-preserved : goal.loop-x-preserved
loop-x-preserved g c =
    let v = number_at g.T.Word.value c.args.xs.now _ _ _ c.loop-x-test.true c.x-item.is c.widen.ensures.value in
    let s = c.in_ok-left.ensures in
    rw s.1
    (room_more _ _ _ _ _ c.line_length.result (omega (arith, length-map c.args.xs.now g.T.Word.value)) c.loop-x.invariant
    (rw v at c.line_length.ensures.0) s.0)

pub returns : goal.returns
returns g c =
    room_end _ _ _ _ c.loop-x.x-index (omega (arith, length-map c.args.xs.now g.T.Word.value)) c.loop-x.invariant
