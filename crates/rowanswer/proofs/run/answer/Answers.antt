-- `rowanswer::run::answer` meets its contract: there is room for every text that rowcheck prints. Assumes nothing.
use native.Mathlib.Omega.{arith}
use borrow.Author.Rules.{rules}
use lib.ListN.{length}
use mathlib.Core.Path.{◌≡◌}
use Rattle.rowanswer.specs.Answers.{Shown}
use Rattle.rowanswer.proofs.Showing.{shown_counts}
use Rattle.rowanswer.proofs.Sizes.{rowcheck_longest}
use Rattle.rowanswer.proofs.run.answer.Goals as goal

pub returns : goal.returns
returns c =
    let s = c in
    let S = c.answer_lent.ensures in
    let room : length s.args.out.now ≡ 65536 = search rules in
    let shown : Shown S.0 s.args.out.now c.answer_lent.result c.answer_lent.new.out =
    S.1.1 (omega (arith, rowcheck_longest s.args.input.now S.0 S.1.0)) in
    record { counts = shown_counts shown; says = (S.0, (S.1.0, shown)) }
