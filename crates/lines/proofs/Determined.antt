-- The contracts of `lines` leave one result: no line begins another, so the lines that stand at a place are of one
-- list of numbers. Assumes nothing.
use Prim.Native.Nat.{ℕ, ◌+◌}
use native.Mathlib.Omega.{arith}
use mathlib.Core.List.{List, ◌++◌}
use mathlib.Core.Path.{◌≡◌, refl, sym, ap, ◌∙◌}
use lib.ListN.{length, drop}
use Rattle.std.proofs.Common.{Some, None}
use Rattle.digits.proofs.Positions.{reads_determined, Unique}
use Rattle.lines.specs.Lines.{line, texts, LinesAt, NoLines, Expects, Lined, Loads, Leaves}
use Rattle.lines.specs.Determined.{ExpectDetermined, LineDetermined, LinesDetermined, LoadDetermined}
use Rattle.lines.specs.Determined.{RoomDetermined}
use Rattle.lines.proofs.Lining.{line_unique}
use Rattle.lines.proofs.Listing.{lines_unique}

pub expect_determined : ExpectDetermined
unfolding Expects
expect_determined t s i (Some j) (Some k) h g = let a = h.to in let b = g.to in cc
expect_determined t s i (Some j) None h g = absurd (g (drop j s) h.from)
expect_determined t s i None (Some k) h g = absurd (h (drop k s) g.from)
expect_determined t s i None None h g = refl

pub line_determined : LineDetermined
line_determined most kind tag s i r q h = reads_determined most (line kind tag) (line_unique kind tag most h) s i r q

-- the numbers and the end of lines that stand at a place
module _ (most : ℕ) (line : ℕ → List ℕ) (n : ℕ) (s : List ℕ) (i : ℕ) where
  one_list : Unique most line → (j k : ℕ) (xs ys : List ℕ) → LinesAt most line n s i j xs
      → LinesAt most line n s i k ys
      → (xs ≡ ys) × (j ≡ k)
  one_list u j k xs ys h g =
      let e : xs ≡ ys =
      (lines_unique most line u xs ys (drop j s) (drop k s) (h.count ∙ sym g.count) h.within g.within
      (sym h.stand.from.1 ∙ g.stand.from.1)).0 in
      (e, h.stand.to ∙ ap (λ (zs : List ℕ). i + length (texts line zs)) e ∙ sym g.stand.to)

  no_list : {A : Type 0} (j : ℕ) (xs : List ℕ) → LinesAt most line n s i j xs → NoLines most line n s i → A
  no_list j xs h g = absurd (g xs h.count h.within (drop j s) h.stand.from)

pub lines_determined : LinesDetermined
unfolding Lined
lines_determined most kind tag n s i (Some j) (Some k) l h g =
    let e = (one_list most (line kind tag) n s i (line_unique kind tag most l) j k h.0 g.0 h.1 g.1).1 in cc
lines_determined most kind tag n s i (Some j) None l h g = no_list most (line kind tag) n s i j h.0 h.1 g
lines_determined most kind tag n s i None (Some k) l h g = no_list most (line kind tag) n s i k g.0 g.1 h
lines_determined most kind tag n s i None None l h g = refl

pub load_determined : LoadDetermined
unfolding Loads
load_determined most kind tag n s i out a b (Some j) (Some k) l h g =
    let p = one_list _ _ n _ i (line_unique kind tag most l) j k h.1.0 g.1.0 h.1.1 g.1.1 in
    let e = p.1 in
    (cc, h.1.2 ∙ ap (λ (xs : List ℕ). xs ++ drop n out) p.0 ∙ sym g.1.2)
load_determined most kind tag n s i out a b (Some j) None l h g =
    no_list most (line kind tag) n s i j h.1.0 h.1.1 (g.0 h.0)
load_determined most kind tag n s i out a b None (Some k) l h g =
    no_list most (line kind tag) n s i k g.1.0 g.1.1 (h.0 g.0)
load_determined most kind tag n s i out a b None None l h g = (refl, (h.1 ∙ sym g.1, h.2 ∙ sym g.2))

pub room_determined : RoomDetermined
unfolding Leaves
room_determined t room (Some j) (Some k) h g = let e : j ≡ k = omega arith in cc
room_determined t room (Some j) None h g = absurd (omega arith)
room_determined t room None (Some k) h g = absurd (omega arith)
room_determined t room None None h g = refl
