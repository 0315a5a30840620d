-- `descent::search::Search::probe` meets its contract: where the look-up's row is accepted the walk goes there, and otherwise it stays.
-- Assumes nothing.
use Rattle.std.proofs.Common.{sym, ◌∙◌}
use Rattle.descent.proofs.Steps.{probed_to, probed_under}
use Rattle.descent.proofs.search.Search.probe.Goals as goal

pub returns-then-accepts : goal.returns-then-accepts
returns-then-accepts c =
    probed_to c.probe_length-f.ensures c.requires.0.is c.requires.1 c.requires.2 (cc)
    (sym c.accepts.ensures ∙ c.if-accepts.true) (cc)

pub returns : goal.returns
returns c =
    probed_under c.probe_length-f.ensures c.requires.0.is c.requires.1 c.requires.2 (cc)
    (sym c.accepts.ensures ∙ c.if-accepts.false)
