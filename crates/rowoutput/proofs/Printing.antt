-- The four lines of an ask and the two of a jam: how long they are and can be, and that lines put one after the other
-- in a room for all are the whole. Assumes nothing.
use Rattle.std.proofs.Common.{Option, Some, None}
use Prim.Native.Nat.{ℕ, ◌+◌, ◌^◌, ◌<◌, ◌≤◌}
use native.Mathlib.Omega.{arith}
use mathlib.Core.List.{List, ◌++◌}
use mathlib.Core.Path.{◌≡◌, ap, ◌∙◌}
use lib.ListN.{length, length-append}
use Rattle.digits.specs.Texts.{bytes, Writes}
use Rattle.digits.proofs.Placing.{writes_first, writes_on}
use Rattle.digits.proofs.Decimals.{text_within}
use Rattle.digits.proofs.Hexes.{hex_length}
use Rattle.lines.specs.Lines.{line}
use Rattle.lines.specs.declared.Kind.TheVariants.{Decimal, Hex}
use Rattle.lines.proofs.Lining.{line_size}
use Rattle.rowoutput.specs.Output.{call_text, ask_text, refused_text, jam_text}

abbrev key_line : ℕ → List ℕ
key_line x = line Hex (bytes "ask=") x

abbrev before_line : ℕ → List ℕ
before_line n = line Decimal (bytes "before=") n

abbrev probes_line : ℕ → List ℕ
probes_line n = line Decimal (bytes "probes=") n

module _ (x : ℕ) (call : Option ℕ) (before probes : ℕ) where
  pub ask_size : length (ask_text x call before probes)
      ≡ length (key_line x) + length (call_text call) + length (before_line before) + length (probes_line probes)
  unfolding ask_text
  ask_size =
      let a = length-append (key_line x) (call_text call ++ (before_line before ++ probes_line probes)) in
      let b = length-append (call_text call) (before_line before ++ probes_line probes) in
      let c = length-append (before_line before) (probes_line probes) in
      omega arith

  -- the lines one after the other, in a room for all of them: all are put, or the one that is not leaves nothing put
  module _ (out : List ℕ) (i : ℕ) (room : i + length (ask_text x call before probes) ≤ length out) where
    pub key_short : (after : List ℕ) → Writes (key_line x) out i after None
        → Writes (ask_text x call before probes) out i after None
    unfolding ask_text
    key_short after w = writes_first _ _ _ _ w _

    module _ (o₁ : List ℕ) (j₁ : ℕ) (w₁ : Writes (key_line x) out i o₁ (Some j₁)) where
      pub call_short : (after : List ℕ) → Writes (call_text call) o₁ j₁ after None
          → Writes (ask_text x call before probes) out i after None
      unfolding ask_text
      call_short after w = writes_on _ _ _ _ _ i j₁ _ room w₁ (λ room₁. writes_first _ _ _ _ w _)

      module _ (o₂ : List ℕ) (j₂ : ℕ) (w₂ : Writes (call_text call) o₁ j₁ o₂ (Some j₂)) where
        pub before_short : (after : List ℕ) → Writes (before_line before) o₂ j₂ after None
            → Writes (ask_text x call before probes) out i after None
        unfolding ask_text
        before_short after w =
            writes_on _ _ _ _ _ i j₁ _ room w₁
            (λ room₁. writes_on _ _ _ _ _ j₁ j₂ _ room₁ w₂ (λ room₂. writes_first _ _ _ _ w _))

        pub four_lines : (o₃ : List ℕ) (j₃ : ℕ) → Writes (before_line before) o₂ j₂ o₃ (Some j₃)
            → (after : List ℕ) (r : Option ℕ) → Writes (probes_line probes) o₃ j₃ after r
            → Writes (ask_text x call before probes) out i after r
        unfolding ask_text
        four_lines o₃ j₃ w₃ after r w =
            writes_on _ _ _ _ _ i j₁ _ room w₁
            (λ room₁. writes_on _ _ _ _ _ j₁ j₂ _ room₁ w₂ (λ room₂. writes_on _ _ _ _ _ j₂ j₃ _ room₂ w₃ (λ room₃. w)))

-- the two lines of a jam
abbrev jammed_line : ℕ → List ℕ
jammed_line size = line Decimal (bytes "jammed=") size

module _ (size : ℕ) where
  pub jam_length : length (jam_text size) ≡ length (refused_text 5) + length (jammed_line size)
  unfolding jam_text
  jam_length = length-append (refused_text 5) (jammed_line size)

  pub jam_short : (out after : List ℕ) (i : ℕ) → Writes (refused_text 5) out i after None
      → Writes (jam_text size) out i after None
  unfolding jam_text
  jam_short out after i w = writes_first _ _ _ _ w _

  pub two_lines : (out mid after : List ℕ) (i j : ℕ) (r : Option ℕ) → i + length (jam_text size) ≤ length out
      → Writes (refused_text 5) out i mid (Some j) → Writes (jammed_line size) mid j after r
      → Writes (jam_text size) out i after r
  unfolding jam_text
  two_lines out mid after i j r room w v = writes_on _ _ _ _ _ i j _ room w (λ room'. v)

-- a row of 64 bits, or none
abbrev pub Narrow : Option ℕ → Type 0
Narrow (Some row) = row < 2 ^ 64
Narrow None = Unit {0}

pub decimal_longest : (tag : List ℕ) (n : ℕ) → n < 2 ^ 64 → length (line Decimal tag n) ≤ length tag + 21
decimal_longest tag n h = let a = line_size Decimal tag n in let b = text_within 19 n (omega arith) in omega arith

call_longest : (call : Option ℕ) → Narrow call → length (call_text call) ≤ 26
call_longest (Some row) h = decimal_longest (bytes "call=") row h
call_longest None h = omega arith

-- so 103 bytes are room for any answer
pub ask_longest : (x : ℕ) (call : Option ℕ) (before probes : ℕ) → Narrow call → before < 2 ^ 64
    → probes < 2 ^ 64
    → length (ask_text x call before probes) ≤ 103
ask_longest x call before probes hc hb hp =
    let a = ask_size x call before probes in
    let b : length (key_line x) ≡ 4 + 16 + 1 =
    line_size Hex (bytes "ask=") x ∙ ap (λ (n : ℕ). 4 + n + 1) (hex_length x) in
    let c = call_longest call hc in
    let d : length (before_line before) ≤ 7 + 21 = decimal_longest (bytes "before=") before hb in
    let e : length (probes_line probes) ≤ 7 + 21 = decimal_longest (bytes "probes=") probes hp in
    omega arith

-- and 57 for any jam
pub jam_longest : (size : ℕ) → size < 2 ^ 64 → length (jam_text size) ≤ 57
jam_longest size h =
    let a = jam_length size in
    let b : length (refused_text 5) ≤ 8 + 21 = decimal_longest (bytes "refused=") 5 (omega arith) in
    let c : length (jammed_line size) ≤ 7 + 21 = decimal_longest (bytes "jammed=") size h in
    omega arith
