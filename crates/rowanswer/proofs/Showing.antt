-- Texts at the start of the memory. Assumes nothing.
use mathlib.Core.Path.{◌≡◌, sym, ap, ◌∙◌}
use mathlib.Core.List.{List, ◌++◌}
use Prim.Native.Nat.{ℕ, ◌+◌, ◌≤◌}
use native.Mathlib.Nat.{zero-add}
use native.Mathlib.Omega.{arith}
use lib.ListN.{length, drop, length-append}
use lib.Seq.{length-take-le}
use Rattle.io.specs.Counts.{IsPrefixLen}
use Rattle.digits.specs.Texts.{placed, Writes}
use Rattle.std.specs.Prelude.{Option, Some, None, unwrap_or}
use Rattle.digits.proofs.Placing.{placed_then, writes_length}
use Rattle.lines.specs.Lines.{texts}
use Rattle.rowoutput.specs.Output.{head_text, answers_text}
use Rattle.asks.specs.Asks.{ask_lines}
use Rattle.asks.specs.Inner.{Prints}
use Rattle.rowanswer.specs.Answers.{answered, Shown}
use Rattle.rowanswer.specs.Inner.{ShownWhereRoom}

-- a text placed at the start
placed_start : (out t : List ℕ) → placed out 0 t ≡ t ++ drop (length t) out
placed_start out t = ap (λ (n : ℕ). t ++ drop n out) (zero-add (length t))

pub prints_shown : (t out after : List ℕ) (next : Option ℕ) (r : ℕ) → Prints t out 0 after next
    → r ≡ unwrap_or next 0 → ShownWhereRoom t out r after
unfolding Prints
prints_shown t out after (Some j) r P e h = record { counted = omega arith; stands = P.2 ∙ placed_start out t }
prints_shown t out after None r P e h = absurd (omega arith)

pub writes_shown : (t out after : List ℕ) (next : Option ℕ) (r : ℕ) → Writes t out 0 after next
    → r ≡ unwrap_or next 0 → ShownWhereRoom t out r after
unfolding Prints Writes
writes_shown t out after (Some j) r W e = prints_shown t out after (Some j) r W e
writes_shown t out after None r W e = prints_shown t out after None r W.0 e

-- the head line, and then the asks
module _ (keys asks out mid after : List ℕ) (i : ℕ) (W : Writes (head_text (length keys)) out 0 mid (Some i)) where
  head : List ℕ
  head = head_text (length keys)

  lines : List ℕ
  lines = texts (ask_lines keys) asks

  whole : length (head ++ lines) ≡ length head + length lines
  whole = length-append head lines

  same : length mid ≡ length out
  unfolding head
  same = writes_length head out mid 0 (Some i) W

  pub answers_shown : (next : Option ℕ) (r : ℕ) → Prints (texts (ask_lines keys) asks) mid i after next
      → r ≡ unwrap_or next 0
      → ShownWhereRoom (answered keys asks) out r after
  unfolding Writes Prints answers_text head lines
  answers_shown (Some j) r P e =
      let starts : i ≡ 0 + length head = W.0 in
      let room : 0 + length head ≤ length out = omega (arith, W.1) in
      let joined : after ≡ placed out 0 (head ++ lines) =
      P.2 ∙ ap (λ (m : List ℕ). placed m i lines) W.2
      ∙ ap (λ (k : ℕ). placed (placed out 0 head) k lines) starts
      ∙ placed_then out 0 head lines room in
      prints_shown (head ++ lines) out after (Some j) r (omega (arith, whole), omega (arith, P.1, same), joined) e
  answers_shown None r P e = prints_shown (head ++ lines) out after None r (omega (arith, W.0, same, whole)) e

-- no room for the head line
pub head_off : (keys asks out after : List ℕ) → Writes (head_text (length keys)) out 0 after None
    → ShownWhereRoom (answered keys asks) out 0 after
unfolding Writes answers_text
head_off keys asks out after W h =
    absurd (omega (arith, W.0, length-append (head_text (length keys)) (texts (ask_lines keys) asks)))

-- what is shown counts bytes of the memory
pub shown_counts : {t out after : List ℕ} {r : ℕ} → Shown t out r after → IsPrefixLen r after
shown_counts {t} {out} {after} {r} S =
    let within : r ≤ length after =
    omega (arith, S.counted, ap length S.stands, length-append t (drop (length t) out)) in
    (within, sym (length-take-le r after within))
