-- The contracts of `digits` leave one result: no text begins another, and a writer's text and room say all. Assumes
-- nothing.
use Rattle.std.proofs.Common.{Some, None, Ok, Err}
use Prim.Native.Nat.{ℕ, ◌+◌}
use native.Mathlib.Omega.{arith}
use mathlib.Core.Bool.{false}
use mathlib.Core.List.{List}
use mathlib.Core.Path.{◌≡◌, refl, sym, ap, ◌∙◌}
use lib.ListN.{length, drop}
use Rattle.digits.specs.Texts.{Has, Writes}
use Rattle.digits.specs.Numbers.{is_digit, decimal_text, ended, hex_text, ReadsAmount}
use Rattle.digits.specs.Determined.{DecimalDetermined, HexDetermined, WriterDetermined}
use Rattle.digits.specs.declared.Unread.TheVariants.{Over, Wrong}
use Rattle.digits.proofs.Positions.{has_same, read_is, reads_determined}
use Rattle.digits.proofs.Decimals.{decimal_unique}
use Rattle.digits.proofs.Hexes.{hex_unique}

-- two numbers at one place are one, and end at one place
decimal_same : (e : ℕ) (s : List ℕ) (i v j w k : ℕ) → is_digit e ≡ false → Has s i (ended decimal_text e v) j
    → Has s i (ended decimal_text e w) k
    → (v ≡ w) × (j ≡ k)
decimal_same e s i v j w k he h g =
    let p : v ≡ w = (has_same (v + w) (ended decimal_text e) (decimal_unique (v + w) e he) s i v j w (drop k s)
    (omega arith) (omega arith) h
    g.from).0 in
    (p, h.to ∙ ap (λ (x : ℕ). i + length (ended decimal_text e x)) p ∙ sym g.to)

pub decimal_determined : DecimalDetermined
unfolding ReadsAmount
decimal_determined most e s i (Ok r) (Ok q) h g =
    let p = decimal_same e s i r.value r.next q.value q.next h.0 h.2 g.2 in ap Ok (read_is r q p.0 p.1)
decimal_determined most e s i (Ok r) (Err (Over k)) h g =
    let p = (decimal_same e s i r.value r.next g.1.0 k h.0 h.2 g.1.2).0 in let a = h.1 in let b = g.1.1 in
    absurd (omega arith)
decimal_determined most e s i (Ok r) (Err Wrong) h g = absurd (g r.value h.0 (drop r.next s) h.2.from)
decimal_determined most e s i (Err (Over j)) (Ok q) h g =
    let p = (decimal_same e s i h.1.0 j q.value q.next h.0 h.1.2 g.2).0 in let a = g.1 in let b = h.1.1 in
    absurd (omega arith)
decimal_determined most e s i (Err (Over j)) (Err (Over k)) h g =
    let p = (decimal_same e s i h.1.0 j g.1.0 k h.0 h.1.2 g.1.2).1 in cc
decimal_determined most e s i (Err (Over j)) (Err Wrong) h g = absurd (g h.1.0 h.0 (drop j s) h.1.2.from)
decimal_determined most e s i (Err Wrong) (Ok q) h g = absurd (h q.value g.0 (drop q.next s) g.2.from)
decimal_determined most e s i (Err Wrong) (Err (Over k)) h g = absurd (h g.1.0 g.0 (drop k s) g.1.2.from)
decimal_determined most e s i (Err Wrong) (Err Wrong) h g = refl

pub hex_determined : HexDetermined
hex_determined most e s i r q h = reads_determined most (ended hex_text e) (hex_unique most e h) s i r q

pub writer_determined : WriterDetermined
unfolding Writes
writer_determined t out i a b (Some j) (Some k) h g = let x = h.0 in let y = g.0 in (cc, h.2 ∙ sym g.2)
writer_determined t out i a b (Some j) None h g = let x = h.0 in let y = h.1 in let z = g.0 in absurd (omega arith)
writer_determined t out i a b None (Some k) h g = let x = g.0 in let y = g.1 in let z = h.0 in absurd (omega arith)
writer_determined t out i a b None None h g = (refl, h.1 ∙ sym g.1)
