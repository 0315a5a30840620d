-- `digits::decimal::read_decimal` meets its contract: the run of digits at i is the text of a number exactly if each
-- test is passed. Assumes nothing.
use native.Mathlib.Omega.{arith}
use mathlib.Core.Bool.{true, false}
use mathlib.Core.Path.{◌≡◌, sym, ◌∙◌}
use Rattle.basics.proofs.Bools.{differ}
use Rattle.digits.specs.Numbers.{ReadsAmount, is_digit}
use Rattle.digits.proofs.Runs.{none_short, none_other, none_empty, none_zero, run_amount}
use Rattle.digits.proofs.decimal.read_decimal.Goals as goal
use Rattle.digits.proofs.decimal.read_decimal.Goals.{then-s-i-eq48+else-i-j, else-s-i-eq48}

pub returns-then-s-i : goal.returns-then-s-i
unfolding ReadsAmount
returns-then-s-i c = λ v he rest f. omega arith

pub returns-then-is_digit : goal.returns-then-is_digit
unfolding ReadsAmount
returns-then-is_digit c =
    λ v he rest f.
    let e : true ≡ false = sym c.if-is_digit.true ∙ c.before.is_digit.ensures ∙ he in
    differ (cc)

pub returns-then-s-j : goal.returns-then-s-j
returns-then-s-j c = none_short _ _ _ _ c.before.run_end-j.ensures _ c.if-s-j.true

pub returns-then-s-j-2 : goal.returns-then-s-j-2
returns-then-s-j-2 c = none_other _ _ _ _ c.before.before.before.run_end-j.ensures _ c.if-s-j-2.true

pub returns-then-j-i : goal.returns-then-j-i
returns-then-j-i c = none_empty _ _ _ _ c.before.before.before.before.run_end-j.ensures _ c.if-j-i.true

pub returns-then-i-j : goal.returns-then-i-j
returns-then-i-j c =
    let p = c.before.before.before.before.before.before.before in
    none_zero _ _ _ _ p.run_end-j.ensures _ c.before.if-s-i-eq48.true (omega arith)

pub returns : goal.returns
returns c =
    let passed = c.before.before.before in
    let p = passed.before.before.before.before in
    let a = p.args in
    let no_digit : is_digit a.end ≡ false = sym p.before.before.is_digit.ensures ∙ p.before.if-is_digit.false in
    let order = p.run_end-j.ensures.order in
    run_amount _ _ _ _ p.run_end-j.ensures (omega arith)
    (elim c.before.if-s-i-eq48.branch [ then-s-i-eq48+else-i-j w ↦ λ z. omega arith | else-s-i-eq48 w ↦ λ z. absurd (w.if-s-i-eq48.false z) ])
    passed.before.before.before.if-s-j.false passed.before.if-s-j-2.false _ _ no_digit c.number.ensures
