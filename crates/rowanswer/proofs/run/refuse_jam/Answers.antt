-- `rowanswer::run::refuse_jam` meets its contract: it writes the two lines at the start. Assumes nothing.
use Rattle.rowoutput.specs.Output.{jam_text}
use Rattle.rowanswer.proofs.Showing.{writes_shown}
use Rattle.rowanswer.proofs.run.refuse_jam.Goals as goal

pub returns : goal.returns
returns c =
    writes_shown (jam_text c.args.size) c.args.out.now c.write_jam.new.out c.write_jam.result c.unwrap_or.result
    c.write_jam.ensures c.unwrap_or.ensures
