-- An item put in at one cell, and at its three cells.
--     spread, touch_below     the three cells of a hash rise, one in each segment of the map
--     put_at, take_at         the two stores that put an item in at a cell, and that take it out
--     Step, asked, step_kept  what a store at a cell asks for, while other cells change
--     other_kept              another cell keeps its count
--     puts                    put in at three cells that rise is put in at each
-- Assumes nothing.
use mathlib.Core.Path.{◌≡◌, refl, sym, ap, ◌∙◌}
use mathlib.Core.Bool.{Bool, true, false, ◌||◌}
use mathlib.Core.List.{List}
use mathlib.Core.Logic.{inl, inr, ⊎_elim}
use Prim.Native.Nat.{ℕ, suc, ◌+◌, ◌*◌, ◌/◌, ◌%◌, ◌^◌, ◌≤◌, ◌<◌}
use native.Mathlib.Nat.{mod-lt, mul-le-mul_right, suc-mul}
use native.Mathlib.Numerals.{add-one}
use native.Mathlib.Omega.{arith}
use borrow.Author.Tests.{eqb-true, eqb-false}
use lib.Dec.{eqb}
use lib.ListN.{length, get_or, set, length-set}
use lib.Seq.{get_or-set_same, get_or-set_other}
use lib.Bits.{bit_xor}
use Rattle.basics.proofs.Bools.{true_or_false}
use Rattle.words.proofs.Xor.{xor_cancel}
use Rattle.cells.specs.Cells.{cell_of, Segment}
use Rattle.jams.specs.Jam.{Touches}
use Rattle.jams.specs.Inner.Peel.{touchb}
use Rattle.jams.specs.Inner.Work.{PutAt, Put, Spread, more_if, xor_if}

cell_rises : (m h j k : ℕ) → 0 < m → j < k → cell_of m j h < cell_of m k h
unfolding cell_of
cell_rises m h j k some l =
    let a : suc j * m ≤ k * m = mul-le-mul_right m l in
    let b : h / 2 ^ (21 * j) % m < m = mod-lt (h / 2 ^ (21 * j)) some in
    omega (arith, suc-mul j m)

cell_below : (m h : ℕ) → 0 < m → cell_of m 2 h < 3 * m
unfolding cell_of
cell_below m h some = omega (arith, mod-lt (h / 2 ^ 42) some)

pub spread : (m : ℕ) (h : ℕ → ℕ) (i : ℕ) → Segment m → Spread (λ j i. cell_of m j (h i)) (3 * m) i
spread m h i S =
    record {
      first = cell_rises m (h i) 0 1 (omega arith) (omega arith);
      second = cell_rises m (h i) 1 2 (omega arith) (omega arith);
      third = cell_below m (h i) (omega arith);
    }

pub touch_below : {e : ℕ → ℕ → ℕ} {cap i : ℕ} (c : ℕ) → Spread e cap i → Touches e i c → c < cap
touch_below c S (inl z) = omega arith
touch_below c S (inr (inl z)) = omega arith
touch_below c S (inr (inr z)) = omega arith

-- v stored at c, and i xored in at cap + c
abbrev pub stored : List ℕ → ℕ → ℕ → ℕ → ℕ → List ℕ
stored w cap c v i = set (set w c v) (cap + c) (bit_xor (get_or (set w c v) (cap + c) 0) i)

module _ (w : List ℕ) (cap c v i : ℕ) (l : c < cap) (m : cap + cap ≤ length w) where
  at_c : get_or (stored w cap c v i) c 0 ≡ v
  at_c =
      get_or-set_other (set w c v) (cap + c) c (bit_xor (get_or (set w c v) (cap + c) 0) i) 0 (λ z. omega arith)
      ∙ get_or-set_same w c v 0 (omega arith)

  at_x : get_or (stored w cap c v i) (cap + c) 0 ≡ bit_xor (get_or w (cap + c) 0) i
  at_x =
      get_or-set_same (set w c v) (cap + c) (bit_xor (get_or (set w c v) (cap + c) 0) i) 0 (simp length-set (omega arith))
      ∙ ap (λ (y : ℕ). bit_xor y i) (get_or-set_other w c (cap + c) v 0 (λ z. omega arith))

  at_rest : (k : ℕ) → (k ≡ c → ⊥) → (k ≡ cap + c → ⊥) → get_or (stored w cap c v i) k 0 ≡ get_or w k 0
  at_rest k p q =
      get_or-set_other (set w c v) (cap + c) k (bit_xor (get_or (set w c v) (cap + c) 0) i) 0 q ∙ get_or-set_other w c k v 0 p

  pub put_at : v ≡ get_or w c 0 + 1 → PutAt cap c i w (stored w cap c v i)
  put_at e = record { count = at_c ∙ e; xor = at_x; rest = at_rest }

  pub take_at : get_or w c 0 ≡ v + 1 → PutAt cap c i (stored w cap c v i) w
  take_at e =
      record {
        count = e ∙ ap (λ (y : ℕ). y + 1) (sym at_c);
        xor = sym (ap (λ (y : ℕ). bit_xor y i) at_x ∙ xor_cancel (get_or w (cap + c) 0) i);
        rest = λ k p q. sym (at_rest k p q);
      }

pub other_kept : {cap x i : ℕ} {a b : List ℕ} (y : ℕ) → PutAt cap x i a b → y < cap → (y ≡ x → ⊥)
    → get_or b y 0 ≡ get_or a y 0
other_kept y P l h = P.rest y h (λ z. omega arith)

-- what a store at cell c asks of w: room for the cell and its xor, and a count there that passes F
abbrev pub Step : (ℕ → Type 0) → ℕ → List ℕ → ℕ → Type 0
Step F cap w c = (c < cap) × (cap + cap ≤ length w) × F (get_or w c 0)

pub asked : {e : ℕ → ℕ → ℕ} {cap i : ℕ} (F : ℕ → Type 0) (w : List ℕ) → Spread e cap i → cap + cap ≤ length w
    → ((c : ℕ) → Touches e i c → F (get_or w c 0)) → (c : ℕ) → Touches e i c → Step F cap w c
asked F w S l h c t = (touch_below c S t, l, h c t)

pub step_kept : {cap c : ℕ} (F : ℕ → Type 0) (w w' : List ℕ) → Step F cap w c → length w' ≡ length w
    → get_or w' c 0 ≡ get_or w c 0
    → Step F cap w' c
step_kept F w w' S l e = (S.0, rw l S.1, rw e S.2)

-- one cell, by the test
module _ (cap x i : ℕ) (a b : List ℕ) (P : PutAt cap x i a b) (l : x < cap) where
  count_one : (c : ℕ) → c < cap → get_or b c 0 ≡ more_if (eqb x c) (get_or a c 0)
  count_one c m =
      ⊎_elim
      (λ (t : eqb x c ≡ true). rw (t, ← eqb-true x c t, ← add-one) P.count)
      (λ (t : eqb x c ≡ false). rw t (other_kept c P m (λ z. eqb-false x c t (sym z))))
      (true_or_false (eqb x c))

  xor_one : (c : ℕ) → c < cap → get_or b (cap + c) 0 ≡ xor_if (eqb x c) i (get_or a (cap + c) 0)
  xor_one c m =
      ⊎_elim
      (λ (t : eqb x c ≡ true). rw (t, ← eqb-true x c t) P.xor)
      (λ (t : eqb x c ≡ false). rw t (P.rest (cap + c) (λ z. omega arith) (λ z. eqb-false x c t (omega arith))))
      (true_or_false (eqb x c))

-- of three tests at most one is true
pub record Excluded (p q r : Bool) : Type 0 where
  pub pq : p ≡ true → q ≡ true → ⊥
  pub pr : p ≡ true → r ≡ true → ⊥
  pub qr : q ≡ true → r ≡ true → ⊥

-- so a function that leaves a number as it is where its test fails acts once
once : (f : Bool → ℕ → ℕ) → ((d : ℕ) → f false d ≡ d) → (p q r : Bool) (d : ℕ) → Excluded p q r
    → f r (f q (f p d)) ≡ f (p || (q || r)) d
once f idle true true r d E = absurd (E.pq refl refl)
once f idle true false true d E = absurd (E.pr refl refl)
once f idle true false false d E = idle (f false (f true d)) ∙ idle (f true d)
once f idle false true true d E = absurd (E.qr refl refl)
once f idle false true false d E = idle (f true (f false d)) ∙ ap (f true) (idle d)
once f idle false false r d E = ap (f r) (idle (f false d) ∙ idle d)

excluded : {e : ℕ → ℕ → ℕ} {cap i : ℕ} (c : ℕ) → Spread e cap i
    → Excluded (eqb (e 0 i) c) (eqb (e 1 i) c) (eqb (e 2 i) c)
excluded {e} {i = i} c S =
    record {
      pq = λ p q. omega (arith, eqb-true (e 0 i) c p, eqb-true (e 1 i) c q);
      pr = λ p q. omega (arith, eqb-true (e 0 i) c p, eqb-true (e 2 i) c q);
      qr = λ p q. omega (arith, eqb-true (e 1 i) c p, eqb-true (e 2 i) c q);
    }

pub puts : {e : ℕ → ℕ → ℕ} {cap i : ℕ} {a b d f : List ℕ} → Spread e cap i
    → PutAt cap (e 0 i) i a b → PutAt cap (e 1 i) i b d → PutAt cap (e 2 i) i d f → Put e cap i a f
unfolding touchb
puts {e} {cap} {i} {a} {b} {d} {f} S P Q R =
    record {
      count = λ c l.
          count_one cap (e 2 i) i d f R (omega arith) c l
          ∙ ap (more_if (eqb (e 2 i) c)) (count_one cap (e 1 i) i b d Q (omega arith) c l)
          ∙ ap (λ (n : ℕ). more_if (eqb (e 2 i) c) (more_if (eqb (e 1 i) c) n))
          (count_one cap (e 0 i) i a b P (omega arith) c l)
          ∙ once more_if (λ n. refl) (eqb (e 0 i) c) (eqb (e 1 i) c) (eqb (e 2 i) c) (get_or a c 0) (excluded c S);
      xor = λ c l.
          xor_one cap (e 2 i) i d f R (omega arith) c l
          ∙ ap (xor_if (eqb (e 2 i) c) i) (xor_one cap (e 1 i) i b d Q (omega arith) c l)
          ∙ ap (λ (x : ℕ). xor_if (eqb (e 2 i) c) i (xor_if (eqb (e 1 i) c) i x))
          (xor_one cap (e 0 i) i a b P (omega arith) c l)
          ∙ once (λ t. xor_if t i) (λ n. refl) (eqb (e 0 i) c) (eqb (e 1 i) c) (eqb (e 2 i) c) (get_or a (cap + c) 0)
          (excluded c S);
      rest = λ k l.
          R.rest k (λ z. omega arith) (λ z. omega arith)
          ∙ Q.rest k (λ z. omega arith) (λ z. omega arith)
          ∙ P.rest k (λ z. omega arith) (λ z. omega arith);
    }
