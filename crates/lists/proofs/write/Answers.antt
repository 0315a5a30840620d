-- `lists::write` meets its contract: in a room for all lines each that is put is one more. Assumes nothing.
use native.Mathlib.Omega.{arith}
use mathlib.Core.List.{map}
use Rattle.std.proofs.lemmas.List.{length-map}
use Rattle.digits.proofs.Placing.{writes_off}
use Rattle.lines.proofs.Putting.{put_short, put_room, put_start, put_fits, put_more, put_end}
use Rattle.lists.proofs.Values.{number_at}
use Rattle.lists.proofs.write.Goals as goal

pub returns-in_err-checked_sub : goal.returns-in_err-checked_sub
returns-in_err-checked_sub g c =
    let e = c.in_err-checked_sub.ensures in rw c.from_residual.ensures (writes_off _ _ _ (omega arith))

pub returns-in_err-room : goal.returns-in_err-room
returns-in_err-room g c =
    let e = c.in_ok-checked_sub.ensures in
    rw c.from_residual-in_err-room.ensures
    (writes_off _ _ _ (put_short _ _ _ _ e.0 (rw e.1 at c.in_err-room.ensures)))

pub loop-x-init : goal.loop-x-init
loop-x-init g c =
    let e = c.in_ok-checked_sub.ensures in (
      put_room _ _ _ _ c.in_ok-room.field-0 e.0 (rw e.1 at c.in_ok-room.ensures),
      put_start _ (map g.T.Word.value c.args.xs.now) _ _ e.0,
    )

pub returns-in_err-at : goal.returns-in_err-at
returns-in_err-at g c =
    let v = number_at g.T.Word.value c.args.xs.now _ _ _ c.loop-x-test.true c.x-item.is c.widen.ensures.value in
    let i = c.loop-x.invariant in
    absurd (put_fits _ _ _ _ _ _ _ _ i.0 (omega (arith, length-map c.args.xs.now g.T.Word.value)) i.1
    (rw v at c.in_err-at.ensures))

pub loop-x-preserved : goal.loop-x-preserved
loop-x-preserved g c =
    let v = number_at g.T.Word.value c.args.xs.now _ _ _ c.loop-x-test.true c.x-item.is c.widen.ensures.value in
    let i = c.loop-x.invariant in (
      i.0,
      put_more _ _ _ _ _ _ _ _ i.0 (omega (arith, length-map c.args.xs.now g.T.Word.value)) i.1 _
          (rw v at c.in_ok-at.ensures),
    )

pub returns : goal.returns
returns g c =
    put_end _ _ _ _ c.loop-x.x-index _ _ (omega (arith, length-map c.args.xs.now g.T.Word.value)) c.loop-x.invariant.1
