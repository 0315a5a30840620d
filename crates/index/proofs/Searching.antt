-- Demand 3 and request Six, over any rising list and stores that are what its walk needs. Assumes nothing.
use mathlib.Core.Path.{◌≡◌, sym, ap, ◌∙◌}
use mathlib.Core.Bool.{Bool}
use mathlib.Core.List.{List}
use Prim.Native.Nat.{ℕ, ◌-◌, ◌≤◌}
use native.Mathlib.Omega.{arith}
use lib.ListN.{length}
use Rattle.words.specs.Fat.{binary_digits, done}
use Rattle.words.proofs.Probing.{probes_from}
use Rattle.cells.specs.Cells.{map_value}
use Rattle.tables.specs.Tables.{Table, smaller, shared_by_all}
use Rattle.tables.specs.Lengths.{handle_count}
use Rattle.stores.specs.Stores.{Stores}
use Rattle.splits.proofs.Parents.{length_first, length_split}
use Rattle.walks.specs.Walk.{Walk, store_walk}
use Rattle.walks.proofs.Answering.{true_lengths, stored_walk}
use Rattle.neighbour.specs.Ask.{stands_at}
use Rattle.neighbour.proofs.Asking.{stands_iff, path_probes}
use Rattle.index.specs.Answers.{probes_of}
use Rattle.index.specs.Demands.{Searched, WalksByTable, TrueTo, WalksUnchanged}
use Rattle.index.proofs.Accepted.{StoredIn}

-- 63 - L has at most six binary digits
digits_six : (L : ℕ) → binary_digits (63 - L) ≤ 6
digits_six L =
    let same : 63 - (63 - (63 - L)) ≡ 63 - L = omega arith in
    rw same at (probes_from (63 - (63 - L)) (omega arith) done).1

module _ (T : List ℕ) (seed : ℕ) (S : Stores) (R : StoredIn T seed S) where
  pub stored_true : TrueTo T S
  stored_true =
      ((λ some. R.lengths_are 0 some ∙ length_first T), (λ m h l. R.lengths_are m l ∙ length_split T m h))

  pub stored_unchanged : WalksUnchanged T seed S
  unfolding store_walk
  stored_unchanged x = true_lengths T x _ _ _ _ stored_true.1

  module _ (t : Table T) where
    pub stored_agrees : WalksByTable T seed S
    stored_agrees x =
        stored_walk T t x (map_value S.handles (handle_count (length T)) seed) S.left S.right S.lengths R

    -- what says how many keys of T are smaller, with the probes of the walk over T
    pub searched : (x : ℕ) {says : (before probes : ℕ) → Bool → Type 0}
        → says (smaller T x) (probes_of T x) (stands_at T x (smaller T x))
        → (probes : ℕ) × ((stands : Bool) × Searched T seed S x says probes stands)
    searched x e = (
      probes_of T x,
      (
        stands_at T x (smaller T x),
        record {
          exact = e;
          counted = ap (λ (v : Walk). length v.probed) (sym (stored_agrees x) ∙ stored_unchanged x);
          few = path_probes T t x;
          six = digits_six (shared_by_all T);
          where_it_stands = stands_iff T t x;
        },
      ),
    )
