-- What an ask says: what each answer says is told by no other, over what an accepted build leaves it is the number of
-- smaller keys, and over any stores at most six probes are reported. Assumes nothing.
use mathlib.Core.Path.{◌≡◌, refl, sym, ap, ◌∙◌}
use mathlib.Core.Bool.{Bool, true, cond}
use mathlib.Core.List.{List, []}
use mathlib.Core.Logic.{◌↔◌}
use Prim.Native.Nat.{ℕ, ◌+◌, ◌-◌, ◌≤◌, ◌<◌}
use native.Mathlib.Nat.{le_refl}
use native.Mathlib.Omega.{arith}
use borrow.Author.Tests.{ltb-true, eqb-true, lt-ltb, eq-eqb}
use lib.Dec.{eqb, ltb}
use lib.ListN.{length}
use Rattle.words.specs.Fat.{binary_digits}
use Rattle.std.specs.Prelude.{Some, None, Result, Ok, Err}
use Rattle.refusals.specs.Numbers.{store_number}
use Rattle.refusals.specs.declared.Refusal.{Refusal}
use Rattle.refusals.specs.declared.Store.{Store}
use Rattle.refusals.proofs.Naming.{refusal_told, store_some}
use Rattle.cells.specs.Cells.{cell_count, map_value}
use Rattle.tables.specs.Tables.{most_keys, key_at, Table, smaller, shared_by_all}
use Rattle.tables.specs.Lengths.{handle_count}
use Rattle.splits.specs.Splits.{len, handle_item, handle_split, left_entry, right_entry, length_entry}
use Rattle.splits.specs.Splits.{left_store, right_store, length_store}
use Rattle.basics.proofs.Bools.{both, differ, past_test}
use Rattle.tables.proofs.Rising.{keys_rise}
use Rattle.tables.specs.Delimiters.{delimiters, Bucketed}
use Rattle.tables.proofs.Delimiting.{delimiters_one}
use Rattle.splits.proofs.Parents.{left_root}
use Rattle.splits.proofs.Handles.{handles_by_items}
use Rattle.splits.proofs.Stores.{entered_at}
use Rattle.walks.specs.Walk.{Answer, before, spoiled, path_walk, store_walk, Stored}
use Rattle.places.specs.Said.{NeighbourSaid, place, refused, said_by_neighbour, stands_at, told, walk_says}
use Rattle.places.specs.declared.Place.{Place}
use Rattle.places.proofs.Telling.{same_place}
use Rattle.neighbour.specs.Ask.{neighbour_says}
use Rattle.stores.specs.Sizes.{number_named, short_store, Fits, neighbour_sizes}
use Rattle.stores.specs.Stores.{asked, sizes_of}
use Rattle.stores.specs.declared.Sizes.{Sizes}
use Rattle.stores.proofs.Chains.{goes_on, refuses}
use Rattle.stores.proofs.Judging.{none_named, all_fit}
use Rattle.walks.proofs.Deciding.{smaller_low, smaller_high}
use Rattle.walks.proofs.Descending.{onward_split}
use Rattle.walks.proofs.Answering.{by_size, walk_none, walk_one, walk_probes, walk_six, path_answer, stored_walk}
use Rattle.walks.proofs.Roots.{root_shared}

-- two answers that say the same are the same
pub said_injective : (a b : Result Place Refusal) → said_by_neighbour a ≡ said_by_neighbour b → a ≡ b
unfolding said_by_neighbour
said_injective (Ok p) (Ok q) e = ap Ok (same_place p q (cc) (cc) (cc))
said_injective (Ok p) (Err r) e = differ (cc)
said_injective (Err r) (Ok q) e = differ (cc)
said_injective (Err r) (Err q) e = ap Err (refusal_told r q (cc) (cc))

-- x stands in the table exactly if some row holds it
pub stands_iff : (T : List ℕ) → Table T → (x : ℕ)
    → (stands_at T x (smaller T x) ≡ true) ↔ ((i : ℕ) × (i < length T) × (key_at T i ≡ x))
stands_iff T t x = (there, back)
  where
    there : stands_at T x (smaller T x) ≡ true → (i : ℕ) × (i < length T) × (key_at T i ≡ x)
    there e =
        let p = both (ltb (smaller T x) (length T)) (eqb (key_at T (smaller T x)) x) e in
        (smaller T x, ltb-true _ _ p.0, eqb-true _ _ p.1)

    back : (i : ℕ) × (i < length T) × (key_at T i ≡ x) → stands_at T x (smaller T x) ≡ true
    back p =
        let c = smaller T x in
        let i = p.0 in
        let small : i < length T = p.1 in
        let is : key_at T i ≡ x = p.2 in
        let no : ¬ (i < c) = λ h. (omega (arith, smaller_low T t x i h)) in
        let here : c < length T = omega arith in
        let same : key_at T c ≡ x = omega
        (arith, smaller_high T t x c (le_refl c) here, keys_rise T t c i (omega arith) small) in
        rw (lt-ltb c (length T) here) (eq-eqb (key_at T c) x same)

-- the walk over a table probes no more often than 63 - L has binary digits, L the leading bits that all keys share
pub path_probes : (T : List ℕ) → Table T → (x : ℕ)
    → length (path_walk T x).probed ≤ binary_digits (63 - shared_by_all T)
unfolding path_walk
path_probes T t x =
    let find = onward_split T x in
    let ls = left_entry T in
    let rs = right_entry T in
    by_size (length T)
    (λ e. rw (walk_none T x find ls rs (len T) e) (omega arith))
    (λ e. rw (walk_one T x find ls rs (len T) e) (omega arith))
    (λ two. rw (root_shared T t two) (rw (left_root T) at (walk_probes T x find ls rs (len T))))

-- over what an accepted build leaves
module _ (T : List ℕ) (t : Table T) (handles lefts rights lengths : List ℕ) (seed x : ℕ)
    (S : Stored T (map_value handles (handle_count (length T)) seed) lefts rights lengths) where
  pub stored_says : walk_says T handles lefts rights lengths seed x ≡ place (smaller T x) (length (path_walk T x).probed)
      (stands_at T x (smaller T x))
  unfolding walk_says told
  stored_says =
      rw (stored_walk T t x (map_value handles (handle_count (length T)) seed) lefts rights lengths S, path_answer T t x)

-- the stores that are lent, as refusal 4 judges them
abbrev pub has : (handles lefts rights lengths : List ℕ) → Sizes
has handles lefts rights lengths = sizes_of (asked [] handles lefts rights lengths)

-- refusals 1 and 4
module _ (T handles lefts rights lengths : List ℕ) (seed x : ℕ) where
  pub says_many : most_keys < length T → refused 1 0 ≡ neighbour_says T handles lefts rights lengths seed x
  unfolding neighbour_says
  says_many h = sym (refuses _ _ h)

  pub says_short : length T ≤ most_keys → (store : Store)
      → number_named (Some store) ≡ short_store (has handles lefts rights lengths) (neighbour_sizes (length T))
      → refused 4 (store_number store) ≡ neighbour_says T handles lefts rights lengths seed x
  unfolding neighbour_says
  says_short few store is = rw (← is) (sym (goes_on _ few (refuses _ _ (store_some store))))

  -- sizes that fit pass the tests
  pub sizes_pass : length T ≤ most_keys → Fits (has handles lefts rights lengths) (neighbour_sizes (length T))
      → neighbour_says T handles lefts rights lengths seed x ≡ walk_says T handles lefts rights lengths seed x
  unfolding neighbour_says
  sizes_pass few F =
      let none : short_store (has handles lefts rights lengths) (neighbour_sizes (length T)) ≤ 0 = omega
      (arith, all_fit (has handles lefts rights lengths) (neighbour_sizes (length T)) F) in
      goes_on _ few (goes_on _ none refl)

  -- and where none is too short they fit the walk over the table, the delimiters of buckets of one row
  module _ (few : length T ≤ most_keys)
      (none : number_named None ≡ short_store (has handles lefts rights lengths) (neighbour_sizes (length T))) where
    fits : Fits (has handles lefts rights lengths) (neighbour_sizes (length T))
    fits = none_named (has handles lefts rights lengths) (neighbour_sizes (length T)) none

    -- the table itself in buckets of one row, and stores with room for a search over it
    pub one_row : Bucketed 1 T
    one_row = record { some = omega arith; most = omega arith; rows = few }

    pub handles_fit : {k : ℕ} → k ≡ length (delimiters 1 T) → cell_count (handle_count k) ≤ length handles
    handles_fit e = rw (e, delimiters_one T) fits.handles

    pub lefts_fit : {k : ℕ} → k ≡ length (delimiters 1 T) → k ≤ length lefts
    lefts_fit e = rw (e, delimiters_one T) fits.left

    pub rights_fit : {k : ℕ} → k ≡ length (delimiters 1 T) → k ≤ length rights
    rights_fit e = rw (e, delimiters_one T) fits.right

    pub lengths_fit : {k : ℕ} → k ≡ length (delimiters 1 T) → k ≤ length lengths
    lengths_fit e = rw (e, delimiters_one T) fits.lengths

    pub says_walk : {said : NeighbourSaid} → said ≡ walk_says (delimiters 1 T) handles lefts rights lengths seed x
        → said ≡ neighbour_says T handles lefts rights lengths seed x
    says_walk e = rw (delimiters_one T) at e ∙ sym (sizes_pass few fits)

pub ruleset as_asked = (says_many, says_short, one_row, handles_fit, lefts_fit, rights_fit, lengths_fit, says_walk)

-- over any stores at most six probes are reported
module _ (c p : ℕ) (s : Bool) where
  not_refused : {B : Type 0} {n k : ℕ} → refused n k ≡ place c p s → B
  not_refused e = differ (cc)

  told_probes : (T : List ℕ) (x k : ℕ) (a : Answer) → told T x k a ≡ place c p s → p ≡ k
  unfolding told
  told_probes T x k (before d) e = cc
  told_probes T x k spoiled e = not_refused e

  pub walk_says_six : (T handles lefts rights lengths : List ℕ) (seed x : ℕ)
      → walk_says T handles lefts rights lengths seed x ≡ place c p s → p ≤ 6
  unfolding walk_says store_walk
  walk_says_six T handles lefts rights lengths seed x e = rw (told_probes T x _ _ e) (walk_six T x _ _ _ _)

  past : (t : Bool) (n k : ℕ) (rest : NeighbourSaid) → cond t (refused n k) rest ≡ place c p s
      → rest ≡ place c p s
  past t n k rest e = (past_test t (refused n k) rest not_refused e).1

  pub ask_six : (keys handles lefts rights lengths : List ℕ) (seed x : ℕ)
      → neighbour_says keys handles lefts rights lengths seed x ≡ place c p s → p ≤ 6
  unfolding neighbour_says
  ask_six keys handles lefts rights lengths seed x e =
      let short = short_store (has handles lefts rights lengths) (neighbour_sizes (length keys)) in
      walk_says_six keys handles lefts rights lengths seed x
      (past (ltb 0 short) 4 short _ (past (ltb most_keys (length keys)) 1 0 _ e))

-- the stores that the bounds and lengths are built into, with a map 3 that gives each of its items the split that it
-- stands for, are what a build leaves
pub stored_by : (T : List ℕ) (lookUp : ℕ → ℕ) (oldLeft oldRight oldLengths : List ℕ)
    → ((i : ℕ) → i + 2 < length T → lookUp (handle_item T (handle_split T i)) ≡ handle_split T i)
    → Stored T lookUp (left_store T oldLeft) (right_store T oldRight) (length_store T oldLengths)
stored_by T lookUp oldLeft oldRight oldLengths items = record {
  handles_lead = handles_by_items T lookUp items;
  lefts_are = entered_at (length T) (left_entry T) oldLeft;
  rights_are = entered_at (length T) (right_entry T) oldRight;
  lengths_are = entered_at (length T) (length_entry T) oldLengths;
}
