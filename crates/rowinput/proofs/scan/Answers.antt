-- `rowinput::scan` meets its contract: the bucket line, two lists and the end. Assumes nothing.
use native.Mathlib.Omega.{arith}
use mathlib.Core.Path.{refl}
use Rattle.rowinput.specs.Input.{ReadsInput}
use Rattle.rowinput.specs.Inner.{LoadsList}
use Rattle.rowinput.proofs.Scanning.{no_bucket, no_keys, no_asks, no_end, taken}
use Rattle.rowinput.proofs.scan.Goals as goal

pub returns-in_err-bucket : goal.returns-in_err-bucket
unfolding ReadsInput
returns-in_err-bucket c = rw c.from_residual.ensures (refl, no_bucket _ _ _ c.in_err-bucket.ensures, refl, refl)

pub returns-in_err-key_lines : goal.returns-in_err-key_lines
unfolding ReadsInput LoadsList
returns-in_err-key_lines c =
    rw c.from_residual-in_err-key_lines.ensures
    (refl, no_keys _ _ _ _ c.in_ok-bucket.ensures c.in_err-key_lines.ensures, c.load_list.auto.out, refl)

pub returns-in_err-ask_lines : goal.returns-in_err-ask_lines
unfolding ReadsInput LoadsList
returns-in_err-ask_lines c =
    rw c.from_residual-in_err-ask_lines.ensures (
      refl,
      no_asks _ _ _ _ c.in_ok-bucket.ensures _ _ _ _ c.in_ok-key_lines.ensures c.in_err-ask_lines.ensures,
      c.load_list.auto.out,
      c.load_list-2.auto.out,
    )

pub returns-then-ask_lines-s : goal.returns-then-ask_lines-s
unfolding ReadsInput LoadsList
returns-then-ask_lines-s c = (
  refl,
  no_end _ _ _ _ c.in_ok-bucket.ensures _ _ _ _ c.in_ok-key_lines.ensures _ _ _ _ c.in_ok-ask_lines.ensures
      (λ e. omega arith),
  c.load_list.auto.out,
  c.load_list-2.auto.out,
)

pub returns : goal.returns
unfolding ReadsInput LoadsList
returns c =
    taken _ _ _ _ c.in_ok-bucket.ensures _ _ _ _ c.in_ok-key_lines.ensures _ _ _ _ c.in_ok-ask_lines.ensures
    (omega arith) refl refl
