use Rattle.std.proofs.Common.{◌-◌, ◌≤◌}
use Rattle.peels.specs.Inner.{Queued}
use Rattle.peels.proofs.peel_all.Given as goal

abbrev pub invariant-loop-q : goal.invariant-loop-q
invariant-loop-q l =
    (l.q ≤ l.n) × (l.n ≤ l.map.t) × Queued l.map l.initial.work l.work l.q l.n

abbrev pub decreases-loop-q : goal.decreases-loop-q
decreases-loop-q l = l.map.t - l.q
