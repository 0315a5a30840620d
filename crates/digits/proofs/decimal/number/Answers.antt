-- `digits::decimal::number` meets its contract: each digit of the run is one more, or passes the limit. Assumes
-- nothing.
use native.Mathlib.Omega.{arith}
use Prim.Native.Nat.{ℕ, ◌+◌, ◌-◌, ◌<◌}
use mathlib.Core.List.{List}
use mathlib.Core.Path.{◌≡◌, refl, ap, ◌∙◌}
use lib.ListN.{length, take, drop, get_or}
use lib.Seq.{slice}
use Rattle.std.proofs.lemmas.List.{get_or-drop, get_or-take, length-drop, length-take-le}
use Rattle.digits.specs.Inner.{Run, Limited, folded}
use Rattle.digits.proofs.Runs.{Digit, run_digit}
use Rattle.digits.proofs.decimal.number.Goals as goal

-- the digit that the loop is at, n digits after the first
digit : (s : List ℕ) (i j : ℕ) → Run s i j → (n v d : ℕ) → n < length (take (j - i) (drop i s))
    → v ≡ folded 0 (slice i (i + n) s) → d ≡ get_or (take (j - i) (drop i s)) n 0 → Digit s i j (i + n) v d
digit s i j run n v d h e f =
    let w = run.within in
    let l : length (take (j - i) (drop i s)) ≡ j - i = length-take-le (j - i) (drop i s) (omega (arith, length-drop i s)) in
    run_digit s i j run (i + n) v d (omega arith) (omega arith) e
    (f ∙ get_or-take (j - i) (drop i s) n 0 (omega arith) ∙ get_or-drop i s n 0)

pub returns-then-most-d : goal.returns-then-most-d
unfolding Limited
returns-then-most-d c =
    let d = digit _ _ _ c.requires.0 _ _ _ c.loop-b-test.true c.loop-b.invariant.0 c.from-d.ensures in
    let r = d.range in (d.large c.args.most (omega arith), refl)

pub returns-then-most-d-2 : goal.returns-then-most-d-2
unfolding Limited
returns-then-most-d-2 c =
    let d = digit _ _ _ c.requires.0 _ _ _ c.loop-b-test.true c.loop-b.invariant.0 c.from-d.ensures in
    let r = d.range in (d.large c.args.most (omega arith), refl)

pub loop-b-preserved : goal.loop-b-preserved
loop-b-preserved c =
    let d = digit _ _ _ c.requires.0 _ _ _ c.loop-b-test.true c.loop-b.invariant.0 c.from-d.ensures in
    let e : c.args.i + c.loop-b.b-index + 1 ≡ c.args.i + (c.loop-b.b-index + 1) = omega arith in
    (d.step ∙ ap (λ (k : ℕ). folded 0 (slice c.args.i k c.args.s.now)) e, omega arith)

pub returns : goal.returns
unfolding Limited
returns c =
    let a = c.args in
    let w = c.requires.0.within in
    let o = c.requires.0.order in
    let l : length (take (a.j - a.i) (drop a.i a.s.now)) ≡ a.j - a.i =
    length-take-le (a.j - a.i) (drop a.i a.s.now) (omega (arith, length-drop a.i a.s.now)) in
    let e : a.i + c.loop-b.b-index ≡ a.j = omega arith in
    let v = rw e at c.loop-b.invariant.0 in
    (v, omega arith, refl)
