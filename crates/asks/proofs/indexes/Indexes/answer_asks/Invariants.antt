-- The lines of the asks so far are written, and `at` is the place after them.
use lib.ListN.{take}
use Rattle.std.proofs.Common.{Some}
use Rattle.digits.specs.Texts.{Writes}
use Rattle.lines.specs.Lines.{texts}
use Rattle.asks.specs.Asks.{ask_lines}
use Rattle.asks.proofs.indexes.Indexes.answer_asks.Given as goal

abbrev pub invariant-loop-x : goal.invariant-loop-x
invariant-loop-x l = Writes (texts (ask_lines l.self.keys.now) (take l.x-index l.asks)) l.initial.out l.i l.out (Some l.at)
