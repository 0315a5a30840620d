-- Document 01, "`rowcheck`", and request Five: what is printed.
use Rattle.std.specs.Prelude.{ℕ, List, ◌++◌, Option, Some, None}
use Rattle.digits.specs.Texts.{bytes}
use Rattle.lines.specs.Lines.{line, texts}
use Rattle.lines.specs.declared.Kind.TheVariants.{Decimal, Hex}

-- `keys` is n
abbrev pub head_text : ℕ → List ℕ
head_text n = line Decimal (bytes "keys=") n

-- `call` is the call index's row or none
abbrev pub call_text : Option ℕ → List ℕ
call_text (Some row) = line Decimal (bytes "call=") row
call_text None = bytes "call=none\n"

-- `ask` is the key, `before` and `probes` the neighbour answer
unfoldable pub ask_text : ℕ → Option ℕ → ℕ → ℕ → List ℕ
ask_text x call before probes =
    line Hex (bytes "ask=") x
    ++ (call_text call ++ (line Decimal (bytes "before=") before ++ line Decimal (bytes "probes=") probes))

-- all of it, for n keys and the asks qs, where the indexes answer call x, before x and probes x
unfoldable pub answers_text : ℕ → (ℕ → Option ℕ) → (ℕ → ℕ) → (ℕ → ℕ) → List ℕ → List ℕ
answers_text n call before probes qs = head_text n ++ texts (λ x. ask_text x (call x) (before x) (probes x)) qs

-- a refusal, by its number alone
abbrev pub refused_text : ℕ → List ℕ
refused_text k = line Decimal (bytes "refused=") k

-- request Five: where all seeds jam, a second line with the size of the largest jam
unfoldable pub jam_text : ℕ → List ℕ
jam_text size = refused_text 5 ++ line Decimal (bytes "jammed=") size
