-- Document 01, "`rowcheck`": what is printed of an ask. It depends on the table alone.
use Rattle.std.specs.Prelude.{List, Some, None, ℕ}
use Rattle.tables.specs.Tables.{smaller}
use Rattle.index.specs.Answers.{row_of, probes_of}
use Rattle.rowoutput.specs.Output.{ask_text}

-- the four lines of an ask
abbrev pub ask_lines : List ℕ → ℕ → List ℕ
ask_lines keys x = ask_text x (row_of Some None keys x) (smaller keys x) (probes_of keys x)
