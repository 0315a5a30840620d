-- `bounds::root_of` meets its contract: the root of the splits so far stays, or the next split is shorter and takes its
-- place. Assumes nothing.
use native.Mathlib.Omega.{arith}
use Rattle.std.proofs.Common.{◌∙◌, ◌+◌, ◌-◌, sym}
use Rattle.tables.specs.Inner.{listing}
use Rattle.splits.proofs.Parents.{root_shorter, root_kept}
use Rattle.bounds.proofs.root_of.Goals.{then-l-shortest, else-l-shortest}
use Rattle.bounds.proofs.root_of.Goals as goal

pub loop-m-preserved : goal.loop-m-preserved
loop-m-preserved c =
    let T = listing c.args.rows.now in
    let p = c.loop-m in
    elim c.if-l-shortest.branch [
      | then-l-shortest w ↦ record {
        some = omega arith;
        within = omega arith;
        root = w.r-is ∙ sym (root_shorter T (p.m + 1 - 1) p.m p.r (omega arith) (omega arith) p.invariant.some p.invariant.root (omega arith));
        length = rw w.r-is (w.shortest-is ∙ c.len_at-l.ensures);
      }
      | else-l-shortest w ↦ record {
        some = omega arith;
        within = omega arith;
        root = w.r-is ∙ sym (root_kept T (p.m + 1 - 1) p.m p.r (omega arith) (omega arith) p.invariant.some p.invariant.root (omega arith));
        length = rw w.r-is (w.shortest-is ∙ p.invariant.length);
      }
    ]
