-- One line: a number that is read after a tag, how long a line is, and that no line begins another. Assumes nothing.
use Prim.Native.Nat.{ℕ, ◌+◌, ◌*◌, ◌≤◌}
use native.Mathlib.Nat.{zero-mul, suc-mul, add_comm}
use native.Mathlib.Omega.{arith}
use mathlib.Core.List.{List, [], ◌∷◌, ◌++◌}
use mathlib.Core.Path.{◌≡◌, refl, sym, ◌∙◌}
use lib.ListN.{length, length-append}
use Rattle.digits.specs.Texts.{Reads, Writes}
use Rattle.digits.specs.Numbers.{decimal_text, hex_text, ended, most_word}
use Rattle.digits.specs.declared.Read.{Read}
use Rattle.std.proofs.Common.{Option, Some, None}
use Rattle.digits.proofs.Positions.{has_then, hasnt_first, hasnt_then, Unique, tag_unique}
use Rattle.digits.proofs.Placing.{writes_then}
use Rattle.digits.proofs.Decimals.{decimal_unique}
use Rattle.digits.proofs.Hexes.{hex_unique, hex_length}
use Rattle.lines.specs.Lines.{number_text, line, lines, texts, Expects}
use Rattle.lines.specs.declared.Kind.{Kind}
use Rattle.lines.specs.declared.Kind.TheVariants.{Decimal, Hex}

-- a text after a tag that stands there, or does not
module _ (most : ℕ) (text : ℕ → List ℕ) (s : List ℕ) (i : ℕ) (tag : List ℕ) where
  pub read_after : (j : ℕ) → Expects tag s i (Some j) → (r : Option Read) → Reads most text s j r
      → Reads most (λ v. tag ++ text v) s i r
  unfolding Expects Reads
  read_after j h (Some r) g = (g.0, has_then s i j tag h (text r.value) r.next g.1)
  read_after j h None g = λ v l. hasnt_then s i j tag h (text v) (g v l)

  pub read_off : Expects tag s i None → Reads most (λ v. tag ++ text v) s i None
  unfolding Expects Reads
  read_off h v l = hasnt_first s i tag (text v) h

-- in a room for the line the tag is put, and the number and the line feed after it
pub write_after : (kind k : Kind) (tag out mid after : List ℕ) (v i j : ℕ) (r : Option ℕ) → kind ≡ k
    → i + length (line kind tag v) ≤ length out → Writes tag out i mid (Some j)
    → Writes (ended (number_text k) 10 v) mid j after r → Writes (line kind tag v) out i after r
write_after kind k tag out mid after v i j r e room w g =
    writes_then tag out mid i j w (ended (number_text kind) 10 v) after r room (rw e g)

-- no line begins another
pub decimal_line_unique : (tag : List ℕ) (most : ℕ) → Unique most (line Decimal tag)
decimal_line_unique tag most = tag_unique tag most (ended decimal_text 10) (decimal_unique most 10 refl)

pub line_unique : (kind : Kind) (tag : List ℕ) (most : ℕ) → most ≤ most_word → Unique most (line kind tag)
line_unique Decimal tag most h = decimal_line_unique tag most
line_unique Hex tag most h = tag_unique tag most (ended hex_text 10) (hex_unique most 10 h)

-- how long a line is, and n lines with 16 digits each
pub line_size : (kind : Kind) (tag : List ℕ) (v : ℕ)
    → length (line kind tag v) ≡ length tag + length (number_text kind v) + 1
line_size kind tag v =
    let a = length-append tag (ended (number_text kind) 10 v) in
    let b = length-append (number_text kind v) (10 ∷ []) in
    omega arith

pub hex_lines_size : (tag xs : List ℕ) → length (lines Hex tag xs) ≡ length xs * (length tag + 17)
unfolding texts
hex_lines_size tag [] = sym (zero-mul (length tag + 17))
hex_lines_size tag (x ∷ xs) =
    let a : length (line Hex tag x) ≡ length tag + 17 =
    (let l = line_size Hex tag x in let n = hex_length x in omega arith) in
    length-append (line Hex tag x) (lines Hex tag xs)
    ∙ rw (a, hex_lines_size tag xs, suc-mul) (add_comm (length tag + 17) (length xs * (length tag + 17)))
