use mathlib.Core.Path.{◌≡◌}
use lib.ListN.{length}
use Rattle.digits.specs.Texts.{placed}
use Rattle.digits.specs.Numbers.{digits_in}
use Rattle.digits.proofs.put.write_digits.Given as goal

abbrev pub invariant-loop-j : goal.invariant-loop-j
invariant-loop-j l =
    (length l.out ≡ length l.initial.out) × (placed l.out l.i (digits_in l.base l.j l.w) ≡ placed l.initial.out l.i
    (digits_in l.base l.k l.v))
