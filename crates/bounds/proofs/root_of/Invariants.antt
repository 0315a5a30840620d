use Rattle.std.proofs.Common.{◌≡◌, ◌<◌, ◌-◌}
use Rattle.tables.specs.Inner.{listing}
use Rattle.splits.specs.Splits.{len, root_to}
use Rattle.bounds.proofs.root_of.Given as goal

abbrev pub invariant-loop-m : goal.invariant-loop-m
invariant-loop-m l = record {
  some : 0 < l.r;
  within : l.r < l.m;
  root : l.r ≡ root_to (listing l.rows) (l.m - 1);
  length : l.shortest ≡ len (listing l.rows) l.r;
}
