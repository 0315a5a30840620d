-- A test by which a list that is written out is seen to be a table. Assumes nothing.
use mathlib.Core.Path.{◌≡◌}
use mathlib.Core.Bool.{Bool, true, ◌&&◌}
use mathlib.Core.List.{List, [], ◌∷◌}
use Prim.Native.Nat.{ℕ, zero, suc, ◌^◌, ◌<◌}
use native.Mathlib.Nat.{le_of_suc-le-suc}
use native.Mathlib.Omega.{arith}
use borrow.Author.Tests.{ltb-true}
use lib.Dec.{ltb}
use lib.ListN.{length}
use Rattle.tables.specs.Tables.{key_at, Table}
use Rattle.basics.proofs.Bools.{both}

-- x is below the first of the keys
abbrev pub under : ℕ → List ℕ → Bool
under x [] = true
under x (y ∷ ys) = ltb x y

-- the keys have 64 bits and rise
unfoldable pub tableb : List ℕ → Bool
tableb [] = true
tableb (x ∷ xs) = ltb x (2 ^ 64) && (under x xs && tableb xs)

pub table_by : (T : List ℕ) → tableb T ≡ true → Table T
unfolding tableb
table_by [] e = record { fits = λ i h. absurd (omega arith); rises = λ i h. absurd (omega arith) }
table_by (x ∷ xs) e = more xs p.0 q.0 (table_by xs q.1)
  where
    p : (ltb x (2 ^ 64) ≡ true) × (under x xs && tableb xs ≡ true)
    p = both (ltb x (2 ^ 64)) (under x xs && tableb xs) e

    q : (under x xs ≡ true) × (tableb xs ≡ true)
    q = both (under x xs) (tableb xs) p.1

    more : (ys : List ℕ) → ltb x (2 ^ 64) ≡ true → under x ys ≡ true → Table ys → Table (x ∷ ys)
    more ys a b t = record { fits = fits; rises = rises ys b t }
      where
        fits : (i : ℕ) → i < length (x ∷ ys) → key_at (x ∷ ys) i < 2 ^ 64
        fits zero h = ltb-true x (2 ^ 64) a
        fits (suc i) h = t.fits i (le_of_suc-le-suc h)

        rises : (zs : List ℕ) → under x zs ≡ true → Table zs → (i : ℕ) → suc i < length (x ∷ zs)
            → key_at (x ∷ zs) i < key_at (x ∷ zs) (suc i)
        rises [] b t i h = absurd (omega arith)
        rises (z ∷ zs) b t zero h = ltb-true x z b
        rises (z ∷ zs) b t (suc i) h = t.rises i (le_of_suc-le-suc h)
