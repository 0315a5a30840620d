-- `maps::build::build` meets its contract: the items are peeled, the cells are filled where all of them are, and the
-- law `built` says what that means. Assumes nothing.
use Rattle.std.proofs.Common.{inl, inr}
use Rattle.maps.proofs.Building.{built}
use Rattle.maps.proofs.build.build.Goals.{then-n-t, else-n-t}
use Rattle.maps.proofs.build.build.Goals as goal

pub returns : goal.returns
returns c =
    built c.args.seed c.mix_seed-mixed.ensures c.clear.ensures c.clear.auto.s c.peel_all-n.ensures c.peel_all-n.auto.work
    c.clear-2.ensures
    (record {
      long = c.if-n-t.auto.cells;
      how = elim c.if-n-t.branch [
        | then-n-t w ↦ inl (w.if-n-t.true, rw w.cells-is w.fill_all.ensures, w.answer-is)
        | else-n-t w ↦ inr (w.if-n-t.false, w.cells-is, w.answer-is)
      ];
    })
