-- What rowcheck's statement determines: the text, the result and the memory.
use Rattle.std.specs.Prelude.{◌≡◌, List, ℕ}
use Rattle.rowanswer.specs.Answers.{RowcheckText, Shows}

-- an input has one text that is printed of it
abbrev pub OneText : Type 0
OneText =
    (input text text' : List ℕ) → RowcheckText input text → RowcheckText input text' → text ≡ text'

-- any two results and memories that the contract of `answer` allows are equal
abbrev pub AnswerDetermined : Type 0
AnswerDetermined =
    (input before : List ℕ) (r : ℕ) (after : List ℕ) (r' : ℕ) (after' : List ℕ)
    → Shows (RowcheckText input) before r after → Shows (RowcheckText input) before r' after'
    → (r ≡ r') × (after ≡ after')
