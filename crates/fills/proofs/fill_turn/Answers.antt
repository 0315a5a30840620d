-- `fills::fill_turn` meets its contract: the work holds the turn's item and cell, and what the calls ensure is put into
-- the store. Assumes nothing.
use Rattle.std.proofs.Common.{◌-◌, ap, arith}
use Rattle.jams.proofs.Peeling.{turn_marked}
use Rattle.fills.proofs.Filling.{store_fixes, cell_below}
use Rattle.fills.proofs.fill_turn.Goals as goal

pub overflow_sub-c : goal.overflow_sub-c
overflow_sub-c c =
    let mark = rw c.from-i.ensures at c.from-c.ensures in
    omega (arith, turn_marked c.args.p c.requires.0.peeled c.requires.2)

pub bounds-cells-c : goal.bounds-cells-c
bounds-cells-c c =
    let mark = rw c.from-i.ensures at c.from-c.ensures in omega (arith, cell_below c.requires.0 c.args.p c.requires.2)

pub bounds-cells-c-2 : goal.bounds-cells-c-2
bounds-cells-c-2 c =
    let mark = rw c.from-i.ensures at c.from-c.ensures in omega (arith, cell_below c.requires.0 c.args.p c.requires.2)

pub returns : goal.returns
returns c =
    let a = c.args in
    let mark = rw c.from-i.ensures at c.from-c.ensures in
    store_fixes a.map.now a.work.now a.cells.now a.p c.from-i.result (c.from-c.result - 1) c.hash_at-h.result
    c.value_from-value.result c.value_at-want.result c.from-i.ensures (ap (λ k. k - 1) mark) c.hash_at-h.ensures
    c.value_from-value.ensures c.value_at-want.ensures
