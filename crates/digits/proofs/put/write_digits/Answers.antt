-- `digits::put::write_digits` meets its contract. The loop's invariant: with the j digits of w put at i the text is
-- whole. Assumes nothing.
use native.Mathlib.Omega.{arith}
use Prim.Native.Nat.{◌-◌, ◌+◌}
use mathlib.Core.Path.{◌∙◌}
use lib.ListN.{length-set}
use Rattle.digits.proofs.Placing.{writes_off, writes_at}
use Rattle.digits.proofs.Glyphs.{ended_length, digits_back, digits_whole}
use Rattle.digits.proofs.put.write_digits.Goals as goal

pub returns-in_err-checked_sub : goal.returns-in_err-checked_sub
returns-in_err-checked_sub c =
    let a = c.args in
    let e = c.in_err-checked_sub.ensures in
    rw c.from_residual.ensures (writes_off _ _ _ (omega (arith, ended_length a.base a.k a.v a.end)))

pub returns-then-branch-k : goal.returns-then-branch-k
returns-then-branch-k c =
    let a = c.args in
    let e = c.in_ok-checked_sub.ensures in
    writes_off _ _ _ (omega (arith, ended_length a.base a.k a.v a.end))

pub loop-j-preserved : goal.loop-j-preserved
loop-j-preserved c =
    let l = c.loop-j in
    let a = c.args in
    let e = l.invariant.0 in
    let n = length-set a.out.now (a.i + a.k) a.end in (
      length-set l.out (a.i + (l.j - 1)) c.digit_byte.result ∙ l.invariant.0,
      digits_back a.base l.j l.w l.out a.i c.digit_byte.result (omega arith) (omega arith)
          c.digit_byte.ensures ∙ l.invariant.1,
    )

pub returns : goal.returns
returns c =
    let a = c.args in
    let l = c.loop-j in
    let n = ended_length a.base a.k a.v a.end in
    writes_at _ _ _ _ _ (omega arith) (omega arith)
    (digits_whole a.base a.k a.v a.end a.i l.w l.j _ _ (omega arith) (omega arith) l.invariant.1)
