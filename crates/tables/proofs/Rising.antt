-- Later rows of a table have larger keys, and the laws of `first_fall`: it is 0 exactly for a table, and otherwise the
-- first row that is not above the one before it. Assumes nothing.
use mathlib.Core.Path.{◌≡◌, refl, ◌∙◌}
use mathlib.Core.Bool.{Bool, true, false, cond}
use mathlib.Core.List.{List}
use mathlib.Core.Logic.{◌⊎◌, inl, inr, ⊎_elim}
use Prim.Native.Nat.{ℕ, zero, suc, ◌+◌, ◌-◌, ◌^◌, ◌≤◌, ◌<◌}
use native.Mathlib.Nat.{le_refl, eq-or-lt_of_le}
use native.Mathlib.Numerals.{add-one, unary_clauses}
use native.Mathlib.Decide.{le_ind}
use native.Mathlib.Omega.{arith}
use borrow.Author.Tests.{leb-true, leb-false, le-leb, lt-leb, lt-ltb, ltb-true, ltb-false}
use lib.Dec.{leb, ltb}
use lib.ListN.{length}
use Rattle.std.specs.Prelude.{Option, Some, None}
use Rattle.basics.proofs.Bools.{differ}
use Rattle.tables.specs.Tables.{key_at, Table, fall_from, first_fall, fall_of}
use Rattle.tables.specs.Vouched.{NoFallIff, FallNamed}

-- later rows have larger keys
module _ (T : List ℕ) (t : Table T) where
  pub keys_rise : (i j : ℕ) → i ≤ j → j < length T → key_at T i ≤ key_at T j
  keys_rise i j h =
      le_ind (λ (k : ℕ). k < length T → key_at T i ≤ key_at T k) (λ l. le_refl _)
      (λ k g ih l. omega (arith, ih (omega arith), t.rises k l)) j h

  pub keys_above : (i j : ℕ) → i < j → j < length T → key_at T i < key_at T j
  keys_above i j h l = omega (arith, t.rises i (omega arith), keys_rise (suc i) j h l)

-- the rows from i up to, not including, e are above the ones before them
abbrev Rise : List ℕ → ℕ → ℕ → Type 0
Rise T i e = (j : ℕ) → i ≤ j → j < e → key_at T (j - 1) < key_at T j

-- r is the first of the rows from i up to, not including, e that is not above the one before it
record FirstFall (T : List ℕ) (i e r : ℕ) : Type 0 where
  from : i ≤ r
  to : r < e
  falls : key_at T r ≤ key_at T (r - 1)
  rise : Rise T i r

-- none of the d rows from i on falls and r is 0, or r is the first that does
abbrev FallSearched : List ℕ → ℕ → ℕ → ℕ → Type 0
FallSearched T i d r = ((r ≡ 0) × Rise T i (i + d)) ⊎ FirstFall T i (i + d) r

rise_more : (T : List ℕ) (i e : ℕ) → key_at T (i - 1) < key_at T i → Rise T (suc i) e → Rise T i e
rise_more T i e h rest j l g = ⊎_elim (λ same. rw (← same) h) (λ later. rest j later g) (eq-or-lt_of_le l)

searched_more : (T : List ℕ) (i d r : ℕ) → key_at T (i - 1) < key_at T i → FallSearched T (suc i) d r
    → FallSearched T i (suc d) r
searched_more T i d r h =
    let same : suc i + d ≡ i + suc d = omega arith in
    ⊎_elim (λ none. inl (none.0, rise_more T i (i + suc d) h (rw same at none.1)))
    (λ fall. inr (record { from = omega arith; to = rw same at fall.to; falls = fall.falls; rise = rise_more T i r h fall.rise }))

searched_here : (T : List ℕ) (i d : ℕ) → key_at T i ≤ key_at T (i - 1) → FallSearched T i (suc d) i
searched_here T i d h =
    inr (record { from = le_refl i; to = omega arith; falls = h; rise = λ j l g. absurd (omega arith) })

searched_step : (T : List ℕ) (i d r : ℕ) (t : Bool) → leb (key_at T i) (key_at T (i - 1)) ≡ t
    → FallSearched T (suc i) d r
    → FallSearched T i (suc d) (cond t i r)
searched_step T i d r true e rest = searched_here T i d (leb-true (key_at T i) (key_at T (i - 1)) e)
searched_step T i d r false e rest = searched_more T i d r (leb-false (key_at T i) (key_at T (i - 1)) e) rest

searched : (T : List ℕ) (i d : ℕ) → FallSearched T i d (fall_from T i d)
unfolding fall_from
searched T i zero = inl (refl, λ j l g. absurd (omega arith))
searched T i (suc d) =
    searched_step T i d (fall_from T (suc i) d) (leb (key_at T i) (key_at T (i - 1))) refl (searched T (suc i) d)

all_rows : (T : List ℕ) → FallSearched T 1 (length T - 1) (first_fall T)
all_rows T = searched T 1 (length T - 1)

-- keys of 64 bits of which no row falls are a table
pub no_fall_table : (T : List ℕ) → ((i : ℕ) → i < length T → key_at T i < 2 ^ 64) → first_fall T ≡ 0
    → Table T
no_fall_table T fits e =
    ⊎_elim (λ none. record { fits = fits; rises = λ i h. simp unary_clauses at (none.1 (suc i) (omega arith) (omega arith)) })
    (λ fall. absurd (omega arith)) (all_rows T)

-- no row of a table falls
pub table_no_fall : (T : List ℕ) → Table T → first_fall T ≡ 0
table_no_fall T t =
    ⊎_elim (λ none. none.0)
    (λ fall.
    let row : suc (first_fall T - 1) ≡ first_fall T = omega arith in
    absurd (omega (arith, rw row at (t.rises (first_fall T - 1) (omega arith)))))
    (all_rows T)

pub no_fall_iff : NoFallIff
no_fall_iff T fits = (no_fall_table T fits, table_no_fall T)

-- a row that is named falls, and is the first
pub fall_named : FallNamed
fall_named T r e h =
    ⊎_elim (λ none. absurd (omega arith))
    (λ fall. (omega (arith, fall.to), rw e at fall.falls, rw e at fall.rise)) (all_rows T)

-- the search row by row, as the code makes it
module _ (T : List ℕ) (i : ℕ) where
  pub fall_here : i < length T → key_at T i ≤ key_at T (i - 1) → fall_from T i (length T - i) ≡ i
  unfolding fall_from
  fall_here h l =
      let left : length T - i ≡ suc (length T - suc i) = omega arith in
      rw (left, le-leb (key_at T i) (key_at T (i - 1)) l)

  pub fall_later : i < length T → key_at T (i - 1) < key_at T i
      → fall_from T i (length T - i) ≡ fall_from T (i + 1) (length T - (i + 1))
  unfolding fall_from
  fall_later h l =
      let left : length T - i ≡ suc (length T - suc i) = omega arith in
      rw (left, lt-leb (key_at T i) (key_at T (i - 1)) l, add-one)

  pub fall_past : length T ≤ i → fall_from T i (length T - i) ≡ 0
  unfolding fall_from
  fall_past h = let none : length T - i ≡ 0 = omega arith in rw none

  -- and what it tells, where the first fall is that of the rows from i on
  pub told_here : first_fall T ≡ fall_from T i (length T - i) → 1 ≤ i → i < length T → key_at T i ≤ key_at T (i - 1)
      → Some i ≡ fall_of T
  told_here e from h l = let is : first_fall T ≡ i = e ∙ fall_here h l in rw (is, lt-ltb 0 i from)

  pub told_past : first_fall T ≡ fall_from T i (length T - i) → length T ≤ i → None ≡ fall_of T
  told_past e h = let is : first_fall T ≡ 0 = e ∙ fall_past h in rw is

pub ruleset searched_by_row = (told_here, fall_later, told_past)

-- the row that is named or not, in numbers
by_row : (n r : ℕ) (t : Bool) → ltb 0 n ≡ t → Some r ≡ cond t (Some n) None → (r ≡ n) × (0 < r)
by_row n r true h e = let same : r ≡ n = cc in (same, rw same (ltb-true 0 n h))
by_row n r false h e = differ (cc)

by_none : (n : ℕ) (t : Bool) → ltb 0 n ≡ t → ◌≡◌ {A = Option ℕ} None (cond t (Some n) None) → n ≡ 0
by_none n true h e = differ (cc)
by_none n false h e = omega (arith, ltb-false 0 n h)

pub fall_row : (T : List ℕ) {r : ℕ} → Some r ≡ fall_of T → (r ≡ first_fall T) × (0 < r)
fall_row T {r} e = by_row (first_fall T) r (ltb 0 (first_fall T)) refl e

pub no_fall : (T : List ℕ) → None ≡ fall_of T → first_fall T ≡ 0
no_fall T e = by_none (first_fall T) (ltb 0 (first_fall T)) refl e
