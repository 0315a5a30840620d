-- `rowanswer::run::print_answers` meets its contract: the head line, and the asks' lines after it. Assumes nothing.
use Rattle.rowanswer.proofs.Showing.{head_off, answers_shown}
use Rattle.rowanswer.proofs.run.print_answers.Goals as goal

pub returns-in_default : goal.returns-in_default
returns-in_default c =
    head_off c.args.indexes.now.keys.now c.args.asks.now c.args.out.now c.write_head.new.out c.in_default.ensures

pub returns : goal.returns
returns c =
    answers_shown c.args.indexes.now.keys.now c.args.asks.now c.args.out.now c.write_head.new.out c.answer_asks.new.out _
    c.in-Some.ensures c.answer_asks.result c.unwrap_or.result c.answer_asks.ensures c.unwrap_or.ensures
