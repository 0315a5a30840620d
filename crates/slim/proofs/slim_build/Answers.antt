-- `slim::slim_build` meets its contract: refusals 1 to 4 in their order change nothing, then the index is built and the
-- verdict on its maps is how it ends. Assumes nothing.
use Rattle.std.proofs.Common.{length, rules}
use Rattle.std.proofs.lemmas.Result.{err_from_is_err_and}
use Rattle.stores.proofs.Limiting.{limits_named}
use Rattle.stores.specs.Stores.{lent}
use Rattle.verdicts.proofs.Refusing.{limit_refuses, judge_refuses, judge_passes}
use Rattle.verdicts.proofs.Ending.{still_fits, settled, ended_as}
use Rattle.slim.specs.Inner.{SlimReady}
use Rattle.slim.proofs.slim_build.Goals as goal

pub returns-in_err-limits : goal.returns-in_err-limits
returns-in_err-limits c =
    let e = err_from_is_err_and c.from_residual.result c.from_residual.ensures.1 in
    rw (e.1, e.2) (limit_refuses c.args.keys.now c.args.b c.in_err-limits.ensures)

pub build_sizes-want-requires : goal.build_sizes-want-requires
build_sizes-want-requires c = limits_named (length c.args.keys.now) c.args.b c.in_ok-limits.ensures

pub new-rows-requires : goal.new-rows-requires
new-rows-requires c =
    let l = limits_named (length c.args.keys.now) c.args.b c.in_ok-limits.ensures in
    record { some = l.0; most = l.1; rows = l.2 }

pub returns-in_err-judge : goal.returns-in_err-judge
returns-in_err-judge c =
    let e = err_from_is_err_and c.from_residual-in_err-judge.result c.from_residual-in_err-judge.ensures.1 in
    rw (e.1, e.2) (judge_refuses c.args.keys.now c.args.b c.in_ok-limits.ensures c.build_sizes-want.ensures c.in_err-judge.ensures)

pub build_maps-maps-requires : goal.build_maps-maps-requires
build_maps-maps-requires c =
    rw (c.new-rows.ensures.table, c.new-rows.ensures.size)
    (judge_passes c.args.keys.now c.args.b c.in_ok-limits.ensures c.build_sizes-want.ensures c.in_ok-judge.ensures
    (λ i h. (c.type_inv.keys i).fits))

pub settle-requires : goal.settle-requires
settle-requires c =
    let a = c.args in
    let m = c.build_maps-maps in
    let ready : SlimReady a.keys.now a.b (lent a.offsets.now a.handles.now a.left.now a.right.now a.work.now a.lengths.now) =
    judge_passes a.keys.now a.b c.in_ok-limits.ensures c.build_sizes-want.ensures c.in_ok-judge.ensures
    (λ i h. (c.type_inv.keys i).fits) in
    still_fits ready (lent m.new.offsets m.new.handles m.new.left m.new.right m.new.work m.new.lengths)
    c.build_sizes-want.ensures m.auto.offsets m.auto.handles m.auto.left m.auto.right m.auto.work m.auto.lengths

pub returns : goal.returns
returns c =
    let a = c.args in
    let m = c.build_maps-maps in
    let ready : SlimReady a.keys.now a.b (lent a.offsets.now a.handles.now a.left.now a.right.now a.work.now a.lengths.now) =
    judge_passes a.keys.now a.b c.in_ok-limits.ensures c.build_sizes-want.ensures c.in_ok-judge.ensures
    (λ i h. (c.type_inv.keys i).fits) in
    let M = rw (c.new-rows.ensures.table, c.new-rows.ensures.size) at m.ensures in
    -- the slices are the caller's own still, so they hold what the value of all stores held last
    ended_as (settled m.result (lent m.new.offsets m.new.handles m.new.left m.new.right m.new.work m.new.lengths) ready.judged
    c.build_sizes-want.ensures M c.settle.ensures.settles) (search rules)
