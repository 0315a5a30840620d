-- `value` is the number of the digits passed.
use Prim.Native.Nat.{◌<◌, ◌+◌, ◌^◌}
use mathlib.Core.Path.{◌≡◌}
use lib.Seq.{slice}
use Rattle.digits.specs.Numbers.{digits_in}
use Rattle.hexdigits.proofs.read_hex.Given as goal

abbrev pub invariant-loop-b : goal.invariant-loop-b
invariant-loop-b l =
    (digits_in 16 l.b-index l.value ≡ slice l.i (l.i + l.b-index) l.s) × (l.value < 16 ^ l.b-index)
