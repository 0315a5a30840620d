-- `value` is the number of the digits passed, and within the limit.
use Prim.Native.Nat.{◌≤◌, ◌+◌}
use mathlib.Core.Path.{◌≡◌}
use lib.Seq.{slice}
use Rattle.digits.specs.Inner.{folded}
use Rattle.digits.proofs.decimal.number.Given as goal

abbrev pub invariant-loop-b : goal.invariant-loop-b
invariant-loop-b l = (l.value ≡ folded 0 (slice l.i (l.i + l.b-index) l.s)) × (l.value ≤ l.most)
