-- What the stores of an accepted build answer: the walk over them is the walk over the table, and both indexes answer
-- by the table and the row bytes alone. Assumes nothing.
use mathlib.Core.Path.{◌≡◌, refl, sym, ap, ◌∙◌}
use mathlib.Core.Bool.{Bool, true, false, cond}
use mathlib.Core.List.{List}
use mathlib.Core.Logic.{◌↔◌}
use Prim.Native.Nat.{ℕ, ◌≤◌, ◌<◌}
use native.Mathlib.Nat.{le_refl}
use native.Mathlib.Omega.{arith}
use borrow.Author.Tests.{ltb-true, eqb-true}
use lib.Dec.{eqb, ltb}
use lib.ListN.{length}
use Rattle.std.specs.Prelude.{Option, Some, None}
use Rattle.basics.proofs.Bools.{both, by_test, differ, not_both}
use Rattle.refusals.specs.Numbers.{taken}
use Rattle.tables.specs.Tables.{key_at, Table, smaller}
use Rattle.stores.specs.Stores.{Stores, Seeds}
use Rattle.tables.proofs.Rising.{keys_above}
use Rattle.outcomes.specs.Outcomes.{marked}
use Rattle.callask.specs.Ask.{outcome, rule_says}
use Rattle.callask.proofs.Asking.{says_rule}
use Rattle.callask.proofs.Answers.{rule_nowhere}
use Rattle.call.proofs.Planned.{planned_row}
use Rattle.walks.proofs.Deciding.{smaller_low, smaller_high}
use Rattle.neighbour.specs.Ask.{stands_at}
use Rattle.neighbour.proofs.Asking.{stands_iff, stored_says, sizes_pass}
use Rattle.full.specs.Build.{FullBuilt}
use Rattle.index.specs.Answers.{Words, call_over, row_of, CallsAnswer, CountsAnswer, BuildAnswers}
use Rattle.index.specs.Demands.{NotIn}
use Rattle.index.proofs.Accepted.{FullAccepted, full_accepted, accepted_table, accepted_sorted}
use Rattle.index.proofs.Accepted.{accepted_askable, accepted_fits, accepted_stored}

-- the number of smaller keys is the row
pub row_smaller : (keys : List ℕ) → Table keys → (r : ℕ) → r < length keys
    → smaller keys (key_at keys r) ≡ r
row_smaller keys T r h =
    let x = key_at keys r in
    let c = smaller keys x in
    let not-above : ¬ (r < c) = λ g. (omega (arith, smaller_low keys T x r g)) in
    let not_below : ¬ (c < r) =
    λ g. (omega (arith, smaller_high keys T x c (le_refl c) (omega arith), keys_above keys T c r g h)) in
    omega arith

-- a planned key's row is told
pub planned_told : {A : Type 0} (found : ℕ → A) (none : A) (keys : List ℕ) → Table keys → (r : ℕ)
    → r < length keys
    → row_of found none keys (key_at keys r) ≡ found r
planned_told found none keys T r h =
    ap (λ s. cond s (found (smaller keys (key_at keys r))) none) ((stands_iff keys T (key_at keys r)).1 (r, h, refl))
    ∙ ap found (row_smaller keys T r h)

-- x's row in the table is a row exactly if x stands there ..
told_row : (s : Bool) {c r : ℕ} → cond s (Some c) None ≡ Some r → (s ≡ true) × (c ≡ r)
told_row true e = (refl, cc)
told_row false e = differ (cc)

module _ (keys : List ℕ) (T : Table keys) where
  pub row_at : (x r : ℕ) → (row_of Some None keys x ≡ Some r) ↔ ((r < length keys) × (key_at keys r ≡ x))
  row_at x r = (
    (λ e.
        let c = smaller keys x in
        let p = told_row (stands_at keys x c) e in
        let q = both (ltb c (length keys)) (eqb (key_at keys c) x) p.0 in
        (rw p.1 at (ltb-true c (length keys) q.0), rw p.1 at (eqb-true (key_at keys c) x q.1))),
    (λ p. rw (← p.1) (planned_told Some None keys T r p.0)),
  )

  -- .. and nowhere exactly if it stands in no row
  pub row_nowhere : (x : ℕ) → (row_of Some None keys x ≡ None) ↔ NotIn x keys
  row_nowhere x = (
    (λ e r h k. let at = (row_at x r).1 (h, k) in differ (cc)),
    (λ none. by_test (stands_at keys x (smaller keys x))
        (λ stands. let p = (stands_iff keys T x).0 stands in absurd (none p.0 p.1 p.2))
        (λ off. rw off)),
  )

  -- so a rule that finds each key of the table in its row, and any other key nowhere, finds what the table says
  pub rule_by_table : (rule : ℕ → Option ℕ) → ((r : ℕ) → r < length keys → rule (key_at keys r) ≡ Some r)
      → ((x : ℕ) → NotIn x keys → rule x ≡ None) → (x : ℕ) → rule x ≡ row_of Some None keys x
  rule_by_table rule found nowhere x =
      by_test (stands_at keys x (smaller keys x))
      (λ stands.
      let p = (stands_iff keys T x).0 stands in
      ap rule (sym p.2) ∙ found p.0 p.1 ∙ sym ((row_at x p.0).1 (p.1, p.2)))
      (λ off.
      let none : NotIn x keys = λ r h e. not_both ((stands_iff keys T x).1 (r, h, e)) off in
      nowhere x none ∙ sym ((row_nowhere x).1 none))

module _ {keys : List ℕ} {b : ℕ} {s : Seeds} {S S' : Stores} (B : FullBuilt keys b s S taken S') where
  A : FullAccepted keys b s S S'
  A = full_accepted B

  -- no refusal comes before the rule
  pub by_rule : (bytes : List ℕ) → length keys ≤ length bytes → (x : ℕ)
      → call_over keys bytes b s S' x ≡ outcome (marked bytes (rule_says keys b s.one s.two S'.cells x))
  by_rule bytes long x = says_rule keys bytes b s.one s.two S'.cells x (accepted_askable A) long

  -- and the rule tells the row in the table
  pub rule_is : Words keys → (x : ℕ) → rule_says keys b s.one s.two S'.cells x ≡ row_of Some None keys x
  rule_is w =
      rule_by_table keys (accepted_table A w) (rule_says keys b s.one s.two S'.cells)
      (planned_row keys b s.one s.two S.cells S'.cells (accepted_sorted A w) A.filled.call)
      (λ x none. rule_nowhere keys x b s.one s.two S'.cells none)

  pub calls_answer : Words keys → CallsAnswer keys b s S'
  calls_answer w bytes long x = by_rule bytes long x ∙ ap (λ at. outcome (marked bytes at)) (rule_is w x)

  pub counts_answer : Words keys → CountsAnswer keys s S'
  counts_answer w x =
      sizes_pass keys S'.handles S'.left S'.right S'.lengths s.three x A.passed.few (accepted_fits A)
      ∙ stored_says keys (accepted_table A w) S'.handles S'.left S'.right S'.lengths s.three x
      (accepted_stored A)

pub build_answers : BuildAnswers
build_answers keys b s S S' w B = record { calls = calls_answer B w; counts = counts_answer B w }
