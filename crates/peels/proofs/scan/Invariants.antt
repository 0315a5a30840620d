use Rattle.std.proofs.Common.{ℕ, ◌+◌, ◌*◌, ◌<◌}
use Rattle.counts.specs.Inner.{AtTurn}
use Rattle.jams.specs.Inner.Work.{Beyond, Seen}
use Rattle.peels.proofs.scan.Given as goal

abbrev pub invariant-loop-c : goal.invariant-loop-c
invariant-loop-c l =
    AtTurn l.map l.work 0 l.n × ((k : ℕ) → k < l.c → Seen (3 * l.m) l.work k)
    × Beyond (6 * l.m + 2 * l.t) l.initial.work l.work
