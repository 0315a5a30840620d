-- `hexdigits::read_hex` meets its contract: 16 digits that `end` follows are the text of one number. Assumes nothing.
use native.Mathlib.Omega.{arith}
use Prim.Native.Nat.{ℕ, ◌+◌, ◌-◌, ◌<◌, ◌≤◌}
use mathlib.Core.List.{List}
use mathlib.Core.Path.{◌≡◌, sym, ◌∙◌}
use lib.ListN.{length, take, drop, get_or}
use Rattle.std.proofs.lemmas.List.{get_or-drop, get_or-take, length-drop, length-take-le}
use Rattle.digits.proofs.Hexes.{hex_start, hex_step, hex_below, hex_fits}
use Rattle.digits.proofs.Hexes.{hex_short, hex_none, hex_open, hex_over, hex_value_is}
use Rattle.hexdigits.proofs.read_hex.Goals as goal

-- the 16 bytes that the loop reads
sixteen : (s : List ℕ) (i : ℕ) → i + 17 ≤ length s → length (take (i + 16 - i) (drop i s)) ≡ 16
sixteen s i h =
    length-take-le (i + 16 - i) (drop i s) (omega (arith, length-drop i s)) ∙ omega arith

byte : (s : List ℕ) (i k : ℕ) → k < 16 → get_or (take (i + 16 - i) (drop i s)) k 0 ≡ get_or s (i + k) 0
byte s i k h = get_or-take (i + 16 - i) (drop i s) k 0 (omega arith) ∙ get_or-drop i s k 0

pub returns-in_err-checked_sub : goal.returns-in_err-checked_sub
returns-in_err-checked_sub c =
    let e = c.in_err-checked_sub.ensures in
    rw c.from_residual.ensures (hex_short _ c.args.i _ _ (omega arith))

pub returns-then-branch-lt17 : goal.returns-then-branch-lt17
returns-then-branch-lt17 c =
    let e = c.in_ok-checked_sub.ensures in hex_short _ c.args.i _ _ (omega arith)

pub loop-b-init : goal.loop-b-init
loop-b-init c = (hex_start c.args.s.now c.args.i, omega arith)

pub returns-in_err-d : goal.returns-in_err-d
returns-in_err-d c =
    let o = c.in_ok-checked_sub.ensures in
    let n = sixteen c.args.s.now c.args.i (omega arith) in
    let h : c.loop-b.b-index < 16 = omega arith in
    let out = c.in_err-d.ensures in
    let at = byte c.args.s.now c.args.i c.loop-b.b-index h in
    rw c.from_residual-in_err-d.ensures (hex_none _ _ _ _ c.loop-b.b-index h (λ d l e. out d l (e ∙ sym at)))

pub overflow_mul-value : goal.overflow_mul-value
overflow_mul-value c =
    let o = c.in_ok-checked_sub.ensures in
    let n = sixteen c.args.s.now c.args.i (omega arith) in
    let d = c.in_ok-d.ensures in
    omega (arith, hex_fits c.loop-b.b-index c.loop-b.value c.in_ok-d.d d.0 c.loop-b.invariant.1 (omega arith))

pub overflow_add-value : goal.overflow_add-value
overflow_add-value c =
    let o = c.in_ok-checked_sub.ensures in
    let n = sixteen c.args.s.now c.args.i (omega arith) in
    let d = c.in_ok-d.ensures in
    omega (arith, hex_fits c.loop-b.b-index c.loop-b.value c.in_ok-d.d d.0 c.loop-b.invariant.1 (omega arith))

pub loop-b-preserved : goal.loop-b-preserved
loop-b-preserved c =
    let o = c.in_ok-checked_sub.ensures in
    let n = sixteen c.args.s.now c.args.i (omega arith) in
    let d = c.in_ok-d.ensures in
    let l = c.loop-b in
    let h : l.b-index < 16 = omega arith in (
      hex_step l.b-index l.value c.in_ok-d.d d.0 c.args.s.now c.args.i (omega arith)
          (d.1 ∙ byte c.args.s.now c.args.i l.b-index h) l.invariant.0,
      hex_below l.b-index l.value c.in_ok-d.d d.0 l.invariant.1,
    )

pub returns-then-s-i : goal.returns-then-s-i
returns-then-s-i c = hex_open _ _ _ _ c.if-s-i.true

pub returns-then-most-value : goal.returns-then-most-value
returns-then-most-value c =
    let o = c.in_ok-checked_sub.ensures in
    let n = sixteen c.args.s.now c.args.i (omega arith) in
    let l = c.loop-b in
    let e : l.b-index ≡ 16 = omega arith in
    hex_over _ _ _ _ _ (omega arith) (rw e at l.invariant.1) (rw e at l.invariant.0) c.if-s-i.false c.if-most-value.true

pub returns : goal.returns
returns c =
    let o = c.in_ok-checked_sub.ensures in
    let n = sixteen c.args.s.now c.args.i (omega arith) in
    let l = c.loop-b in
    let e : l.b-index ≡ 16 = omega arith in
    hex_value_is _ _ _ _ _ (omega arith) (rw e at l.invariant.1) (rw e at l.invariant.0) c.if-s-i.false
    c.if-most-value.false
