-- What the contract of the inner reader cites: a count line and that many lines, whose numbers are loaded.
use Rattle.std.specs.Prelude.{ℕ, ◌≤◌, min, List, ◌++◌, ◌≡◌, length, drop, Option, Some, None}
use Rattle.digits.specs.Texts.{Has, Hasnt}
use Rattle.digits.specs.Numbers.{most_word}
use Rattle.lines.specs.Lines.{AllWithin}
use Rattle.rowinput.specs.Input.{list_text}
use Rattle.rowinput.specs.declared.Listed.{Listed}

-- s has the text of n numbers at i, which ends at `end`, and the numbers are put at the start of `out`, which is left
-- as `after`
pub record ListAt (most : ℕ) (head tag s : List ℕ) (i : ℕ) (out after : List ℕ) (n end : ℕ) : Type 0 where
  pub xs : List ℕ
  pub count : length xs ≡ n
  pub few : n ≤ min (length out) most
  pub words : AllWithin most_word xs
  pub text : Has s i (list_text head tag xs) end
  pub held : after ≡ xs ++ drop n out

-- s has the text of no such numbers at i
abbrev pub NoList : ℕ → List ℕ → List ℕ → List ℕ → ℕ → Type 0
NoList most head tag s i =
    (xs : List ℕ) → length xs ≤ most → AllWithin most_word xs → Hasnt s i (list_text head tag xs)

-- what a reader says that looks for the text of at most `most` numbers at i, and for which there is room in `out`
unfoldable pub LoadsList : ℕ → List ℕ → List ℕ → List ℕ → ℕ → List ℕ → List ℕ → Option Listed
    → Type 0
LoadsList most head tag s i out after (Some l) = ListAt most head tag s i out after l.count l.end
LoadsList most head tag s i out after None = NoList (min (length out) most) head tag s i
