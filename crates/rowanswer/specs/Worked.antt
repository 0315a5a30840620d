-- Document 01's input and what it prints, and the smallest and largest numbers, as the definitions have them.
use Rattle.std.specs.Prelude.{Option, Some, None, ℕ, ◌-◌, cond, List, [], ◌∷◌, ◌++◌, ◌≡◌, eqb}
use Rattle.digits.specs.Texts.{bytes}
use Rattle.digits.specs.Numbers.{decimal_text, hex_text, most_word}
use Rattle.rowinput.specs.Input.{row_text}
use Rattle.rowoutput.specs.Output.{answers_text, refused_text, jam_text}

-- bucket 2 and keys 2, 3, 8, asks 3, 9, 16, 0
abbrev sample_input : List ℕ
sample_input =
    bytes "bucket=2\nkeys=3\nkey=0000000000000002\nkey=0000000000000003\nkey=0000000000000008\nasks=4\n"
    ++ bytes "ask=0000000000000003\nask=0000000000000009\nask=0000000000000010\nask=0000000000000000\n"

-- what it prints
abbrev sample_output : List ℕ
sample_output =
    bytes "keys=3\nask=0000000000000003\ncall=1\nbefore=1\nprobes=1\n"
    ++ (bytes "ask=0000000000000009\ncall=none\nbefore=3\nprobes=2\n"
    ++ (bytes "ask=0000000000000010\ncall=none\nbefore=3\nprobes=0\n"
    ++ bytes "ask=0000000000000000\ncall=none\nbefore=0\nprobes=2\n"))

-- the row or none of each ask
abbrev sample_call : ℕ → Option ℕ
sample_call x = cond (eqb x 3) (Some 1) None

-- how many keys are smaller than each ask
abbrev sample_before : ℕ → ℕ
sample_before x = cond (eqb x 0) 0 (cond (eqb x 3) 1 3)

-- the probes of each ask
abbrev sample_probes : ℕ → ℕ
sample_probes x = cond (eqb x 3) 1 (cond (eqb x 16) 0 2)

-- the input's text, and what is printed of it
abbrev pub TextsWorked : Type 0
TextsWorked = (row_text 2 (2 ∷ 3 ∷ 8 ∷ []) (3 ∷ 9 ∷ 16 ∷ 0 ∷ []) ≡ sample_input)
    × (answers_text 3 sample_call sample_before sample_probes (3 ∷ 9 ∷ 16 ∷ 0 ∷ []) ≡ sample_output)

-- numbers in decimal and as 16 hexadecimal digits, a refusal, and a jam of four items
abbrev pub NumbersWorked : Type 0
NumbersWorked = (decimal_text 0 ≡ bytes "0") × (decimal_text 65535 ≡ bytes "65535")
    × (decimal_text most_word ≡ bytes "18446744073709551615") × (hex_text (most_word - 1) ≡ bytes "fffffffffffffffe")
    × (refused_text 5 ≡ bytes "refused=5\n") × (jam_text 4 ≡ bytes "refused=5\njammed=4\n")
