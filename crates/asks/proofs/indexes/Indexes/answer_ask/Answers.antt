-- `asks::indexes::Indexes::answer_ask` meets its contract: over stores that answer as the table says neither index refuses,
-- and the lines written are the ask's. Assumes nothing.
use Rattle.asks.proofs.Asking.{neighbour_answers, ask_said}
use Rattle.asks.proofs.indexes.Indexes.answer_ask.Goals as goal

pub returns-in_err-place : goal.returns-in_err-place
returns-in_err-place c =
    absurd (neighbour_answers c.args.self.now.answers c.args.x _ c.neighbour_ask.ensures c.in_err-place.ensures.value)

pub returns : goal.returns
returns c =
    rw (ask_said c.args.self.now.answers c.args.x c.args.self.now.bytes.now c.args.self.now.marked _ _ _ _ _ c.in_ok-place.ensures.value
    c.neighbour_ask.ensures c.in_ok-outcome.ensures.value c.call_ask.ensures c.called.ensures)
    c.write_ask.ensures
