-- `lines::text::write_bytes` meets its contract: where there is room the copy stands at i. Assumes nothing.
use native.Mathlib.Omega.{arith}
use Prim.Native.Nat.{◌+◌, ◌-◌}
use mathlib.Core.Path.{◌≡◌, refl}
use lib.ListN.{length}
use Rattle.std.proofs.lemmas.List.{drop-drop}
use Rattle.digits.proofs.Placing.{writes_off, writes_at}
use Rattle.lines.proofs.text.write_bytes.Goals as goal

pub returns-in_err-checked_sub : goal.returns-in_err-checked_sub
returns-in_err-checked_sub c =
    let e = c.in_err-checked_sub.ensures in rw c.from_residual.ensures (writes_off _ _ _ (omega arith))

pub returns-then-branch-t : goal.returns-then-branch-t
returns-then-branch-t c = let e = c.in_ok-checked_sub.ensures in writes_off _ _ _ (omega arith)

pub returns : goal.returns
returns c =
    let e = c.in_ok-checked_sub.ensures in
    let a = c.args in
    let k : a.i + length a.t.now - a.i ≡ length a.t.now = omega arith in
    writes_at _ _ _ _ _ refl (omega arith) (rw (k, c.copy_from_slice.ensures.after, drop-drop))
