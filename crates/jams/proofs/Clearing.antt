-- Memory cleared over its first m entries, entry by entry.
-- Assumes nothing.
use mathlib.Core.Path.{◌≡◌, sym, ap, ◌∙◌}
use mathlib.Core.List.{List, ◌++◌}
use Prim.Native.Nat.{ℕ, ◌+◌, ◌-◌, ◌≤◌}
use native.Mathlib.Nat.{le_refl}
use native.Mathlib.Omega.{arith}
use lib.ListN.{length, get_or, drop, replicate, length-replicate, length-drop, get_or-replicate, get_or-append}
use lib.Seq.{get_or-drop, ext_get_or}
use Rattle.cells.specs.Memory.{cleared}
use Rattle.cells.proofs.Sweeping.{drop_cleared}
use Rattle.jams.specs.Inner.Work.{Blank, Beyond}

pub cleared_blank : (m : ℕ) (xs : List ℕ) {ys : List ℕ} → ys ≡ cleared m xs → length ys ≡ length xs → m ≤ length xs
    → Blank m ys
cleared_blank m xs e l h =
    record {
      long = omega arith;
      zeros = λ k lt.
          ap (λ (zs : List ℕ). get_or zs k 0) e
          ∙ get_or-append (replicate m 0) (drop m xs) 0 k (simp length-replicate lt)
          ∙ get_or-replicate m k 0 0 lt;
    }

pub blank_less : {m n : ℕ} {xs : List ℕ} → m ≤ n → Blank n xs → Blank m xs
blank_less l B = record { long = omega (arith, B.long); zeros = λ k h. B.zeros k (omega arith) }

-- equal from m on, entry by entry
pub drop_get_or : (m : ℕ) (a b : List ℕ) → drop m a ≡ drop m b → Beyond m b a
drop_get_or m a b e k l =
    let q : m + (k - m) ≡ k = omega arith in
    ap (λ (x : ℕ). get_or a x 0) (sym q) ∙ sym (get_or-drop m a (k - m) 0) ∙ ap (λ (l : List ℕ). get_or l (k - m) 0) e
    ∙ get_or-drop m b (k - m) 0
    ∙ ap (λ (x : ℕ). get_or b x 0) q

pub cleared_beyond : (m : ℕ) (xs : List ℕ) {ys : List ℕ} → ys ≡ cleared m xs → Beyond m xs ys
cleared_beyond m xs {ys} e = drop_get_or m ys xs (ap (drop m) e ∙ drop_cleared m m xs (le_refl m))

pub drop_same : (m : ℕ) (a b : List ℕ) → length b ≡ length a → Beyond m a b → drop m b ≡ drop m a
drop_same m a b l B =
    ext_get_or 0 (drop m b) (drop m a) (simp length-drop (ap (λ (n : ℕ). n - m) l))
    (λ i h. get_or-drop m b i 0 ∙ B (m + i) (omega arith) ∙ sym (get_or-drop m a i 0))

pub cleared_same : (m : ℕ) (a b : List ℕ) → length b ≡ length a → Beyond m a b → cleared m b ≡ cleared m a
cleared_same m a b l B = ap (λ (xs : List ℕ). replicate m 0 ++ xs) (drop_same m a b l B)
