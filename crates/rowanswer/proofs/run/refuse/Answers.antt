-- `rowanswer::run::refuse` meets its contract: it writes the refusal's line at the start. Assumes nothing.
use Rattle.refusals.specs.Numbers.{number}
use Rattle.rowoutput.specs.Output.{refused_text}
use Rattle.rowanswer.proofs.Showing.{writes_shown}
use Rattle.rowanswer.proofs.run.refuse.Goals as goal

pub returns : goal.returns
returns c =
    writes_shown (refused_text (number c.args.refusal)) c.args.out.now c.write_refusal.new.out c.write_refusal.result
    c.unwrap_or.result c.write_refusal.ensures c.unwrap_or.ensures
