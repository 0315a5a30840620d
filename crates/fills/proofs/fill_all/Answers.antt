-- `fills::fill_all` meets its contract: the items of the turns from p on have their values. Assumes nothing.
use Rattle.std.proofs.Common.{◌≡◌, ◌+◌, ◌-◌, arith}
use Rattle.fills.proofs.Filling.{fill_none, turn, fill_all}
use Rattle.fills.proofs.fill_all.Goals as goal

pub loop-p-init : goal.loop-p-init
loop-p-init c = fill_none c.requires.0 c.args.map.now.t (omega arith) c.requires.1

pub loop-p-preserved : goal.loop-p-preserved
loop-p-preserved c =
    let p = c.loop-p.p in
    let next : p ≡ p - 1 + 1 = omega arith in
    turn c.requires.0 (omega arith) (omega arith) (rw next at c.loop-p.invariant) c.fill_turn.ensures

pub returns : goal.returns
returns c =
    let none : c.loop-p.p ≡ 0 = omega arith in
    fill_all c.requires.0 (rw none at c.loop-p.invariant)
