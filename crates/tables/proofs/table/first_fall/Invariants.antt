-- The loop of `tables::table::first_fall`: the search over the whole table has come to row i.
use mathlib.Core.Path.{◌≡◌}
use Prim.Native.Nat.{◌-◌}
use lib.ListN.{length}
use Rattle.tables.specs.Tables.{fall_from, first_fall}
use Rattle.tables.proofs.table.first_fall.Given as goal

abbrev pub invariant-loop-i : goal.invariant-loop-i
invariant-loop-i l = first_fall l.keys ≡ fall_from l.keys l.i (length l.keys - l.i)
