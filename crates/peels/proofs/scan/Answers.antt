-- `peels::scan` meets its contract: each cell tried gives a turn to the item that is alone there. Assumes nothing.
use Rattle.std.proofs.Common.{ℕ, ◌+◌, ◌*◌, refl, ◌∙◌, arith}
use Rattle.jams.specs.Inner.Work.{Blank}
use Rattle.jams.proofs.Clearing.{cleared_blank, cleared_beyond}
use Rattle.peels.proofs.Trying.{first_turn, cell_tried, try_at, seen_next}
use Rattle.peels.proofs.scan.Goals as goal

pub loop-c-init : goal.loop-c-init
loop-c-init c =
    let s = c.args in
    let n : ℕ = 6 * s.map.now.m + s.map.now.t in
    let blank : Blank n c.clear.new.s = cleared_blank n s.work.now c.clear.ensures c.clear.auto.s (omega arith) in
    (first_turn (omega arith) blank c.count_all.ensures, λ k l. absurd (omega arith), λ k l. refl)

pub try_cell-n-requires : goal.try_cell-n-requires
try_cell-n-requires c = try_at c.loop-c.c c.loop-c.invariant.0 c.loop-c-test.true

pub loop-c-preserved : goal.loop-c-preserved
loop-c-preserved c =
    let tried = c.try_cell-n.ensures in
    let inv = c.loop-c.invariant in (
      cell_tried inv.0 tried c.try_cell-n.auto.work,
      seen_next c.loop-c.c c.loop-c-test.true tried inv.1,
      λ k l. tried.beyond k (omega arith) ∙ inv.2 k l,
    )

pub returns : goal.returns
returns c =
    let inv = c.loop-c.invariant in
    let n : ℕ = 6 * c.args.map.now.m + c.args.map.now.t in
    record {
      turn = inv.0;
      seen = λ k l. inv.1 k (omega arith);
      beyond = λ k l.
          inv.2 k l ∙ c.count_all.ensures.beyond k (omega arith)
          ∙ cleared_beyond n c.args.work.now c.clear.ensures k (omega arith);
    }
