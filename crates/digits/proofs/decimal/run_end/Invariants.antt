-- Every byte passed is a digit.
use Prim.Native.Nat.{ℕ, ◌≤◌, ◌<◌}
use mathlib.Core.Bool.{true}
use mathlib.Core.Path.{◌≡◌}
use lib.ListN.{get_or}
use Rattle.digits.specs.Numbers.{is_digit}
use Rattle.digits.proofs.decimal.run_end.Given as goal

abbrev pub invariant-loop-j : goal.invariant-loop-j
invariant-loop-j l = (k : ℕ) → k < l.j → l.i ≤ k → is_digit (get_or l.s k 0) ≡ true
