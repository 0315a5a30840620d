-- `lengths::build_lengths` meets its contract: the loop has written the entries of the splits, and entry 0 comes last.
-- Assumes nothing.
use native.Mathlib.Omega.{arith}
use Rattle.std.proofs.Common.{◌≡◌, length, sym}
use Rattle.tables.specs.Inner.{listing}
use Rattle.splits.specs.Splits.{length_entry}
use Rattle.splits.proofs.Parents.{length_first}
use Rattle.splits.proofs.Stores.{wrote_first}
use Rattle.lengths.proofs.build_lengths.Goals as goal

pub returns : goal.returns
returns c =
    let p = c.loop-m in
    let T = listing c.args.rows.now in
    let last : p.m ≡ length T = omega arith in
    wrote_first p.m (length T) (length_entry T) c.args.lengths.now p.lengths 0 last (omega arith) (omega arith)
    p.auto.lengths (sym (length_first T)) p.invariant
