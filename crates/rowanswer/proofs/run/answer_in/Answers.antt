-- `rowanswer::run::answer_in` meets its contract: the first seed that is taken leaves stores that answer; or the
-- table's refusal is printed, or the jam under the last seed. Assumes nothing.
use Rattle.std.proofs.Common.{refl}
use Rattle.refusals.specs.Numbers.{number}
use Rattle.rowoutput.specs.Output.{refused_text, jam_text}
use Rattle.rowanswer.specs.Answers.{answered, answers}
use Rattle.seeds.specs.Inner.{Chose}
use Rattle.rowanswer.proofs.Reading.{refuses_text, jam_text_told}
use Rattle.rowanswer.proofs.run.answer_in.Goals as goal

pub invariant_of-indexes-clause-answers : goal.invariant_of-indexes-clause-answers
unfolding Chose
invariant_of-indexes-clause-answers c = c.in-Ok.ensures.2.answers

pub print_answers-requires : goal.print_answers-requires
unfolding Chose
print_answers-requires c = c.requires

pub returns-in-Ok : goal.returns-in-Ok
unfolding Chose
returns-in-Ok c =
    let a = c.args in
    let chose = c.in-Ok.ensures in
    let took = chose.2 in (
      answered a.keys.now a.asks.now,
      (answers took.two took.most took.table _ chose.0 took.taken refl, c.print_answers.ensures),
    )

pub returns-in-Err-Refused : goal.returns-in-Err-Refused
unfolding Chose
returns-in-Err-Refused c =
    let refused = rw c.in-Err-Refused.field-0-is at c.in-Err-Refused.ensures in
    (refused_text (number c.in-Err-Refused.refusal), (refuses_text c.args.asks.now refused, c.refuse.ensures))

pub returns-in-Err-Jammed : goal.returns-in-Err-Jammed
unfolding Chose
returns-in-Err-Jammed c =
    let jammed = rw c.in-Err-Jammed.field-0-is at c.in-Err-Jammed.ensures in
    (jam_text c.in-Err-Jammed.jam.size, (jam_text_told c.args.asks.now jammed.0 (_, jammed.1), c.refuse_jam.ensures))
