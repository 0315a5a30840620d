-- Demand 2: what an index tells of a key, over any table and stores, and over those of an accepted build. Assumes
-- nothing.
use mathlib.Core.Path.{◌≡◌, refl, sym, ap, ◌∙◌}
use mathlib.Core.List.{List}
use mathlib.Core.Logic.Iff
use mathlib.Core.Logic.{inl, inr, ◌↔◌}
use Prim.Native.Nat.{ℕ, ◌≤◌, ◌<◌}
use native.Mathlib.Omega.{arith}
use borrow.Author.Tests.{eqb-true, eqb-false}
use lib.Dec.{eqb}
use lib.ListN.{length, get_or}
use Rattle.std.specs.Prelude.{Option, Some, None}
use Rattle.basics.proofs.Bools.{by_test}
use Rattle.tables.specs.Tables.{key_at, Table}
use Rattle.tables.proofs.Rising.{keys_rise, keys_above}
use Rattle.stores.specs.Stores.{Stores, Seeds}
use Rattle.outcomes.specs.Outcomes.{Told, planned, withdrawn, absent, marked}
use Rattle.outcomes.proofs.Marking.{planned_iff, withdrawn_iff, absent_iff}
use Rattle.callask.specs.Ask.{CallSaid, outcome, rule_says}
use Rattle.callask.specs.Inner.{Askable}
use Rattle.callask.proofs.Asking.{one_outcome, says_rule, says_told}
use Rattle.callask.proofs.Answers.{rule_nowhere, rule_said}
use Rattle.index.specs.Answers.{row_of}
use Rattle.index.specs.Demands.{Tells, CallTold, CallTells, PlannedGetsItsRow, RowsAreSorted, OthersAreAbsent}
use Rattle.index.specs.Demands.{InRow, ByItsByte, OneKeyForEachRow, WithdrawnKeepsItsRow, Monotone}
use Rattle.index.proofs.Accepted.{full_accepted, accepted_table}
use Rattle.index.proofs.Answering.{row_smaller, row_at, row_nowhere, by_rule, calls_answer}

-- what is told is what the byte makes of the row in which x is found, and nothing else
abbrev pub Marks : List ℕ → Option ℕ → (Told → Type 0) → Type 0
Marks bytes at says = (t : Told) → says t ↔ (marked bytes at ≡ t)

module _ (bytes : List ℕ) {at : Option ℕ} {says : Told → Type 0} (M : Marks bytes at says) where
  told_planned : (r : ℕ) → says (planned r) ↔ ((at ≡ Some r) × (get_or bytes r 0 ≡ 0))
  told_planned r = Iff.trans (M (planned r)) (planned_iff bytes at r)

  told_withdrawn : (r : ℕ) → says (withdrawn r) ↔ ((at ≡ Some r) × (get_or bytes r 0 ≡ 0 → ⊥))
  told_withdrawn r = Iff.trans (M (withdrawn r)) (withdrawn_iff bytes at r)

  -- either way x is found in the row that is told
  pub told_at : (r : ℕ) → InRow says r → at ≡ Some r
  told_at r (inl e) = ((told_planned r).0 e).0
  told_at r (inr e) = ((told_withdrawn r).0 e).0

  -- and the row in which it is found is told one way or the other, by its byte
  pub by_its_byte : (r : ℕ) → at ≡ Some r → ByItsByte bytes says r
  by_its_byte r is = (
    by_test (eqb (get_or bytes r 0) 0)
        (λ z. inl ((told_planned r).1 (is, eqb-true (get_or bytes r 0) 0 z)))
        (λ z. inr ((told_withdrawn r).1 (is, eqb-false (get_or bytes r 0) 0 z))),
    ((λ e. ((told_withdrawn r).0 e).1), (λ z. (told_withdrawn r).1 (is, z))),
  )

-- whatever tells what the byte makes of x's row in the table tells as request Eight reads demand 2
module _ (keys bytes : List ℕ) (T : Table keys) (x : ℕ) {says : Told → Type 0}
    (M : Marks bytes (row_of Some None keys x) says) where
  in_its_row : {A B : Type 0} (r : ℕ) → A ↔ ((row_of Some None keys x ≡ Some r) × B)
      → A ↔ ((r < length keys) × (key_at keys r ≡ x) × B)
  in_its_row r f =
      let at = row_at keys T x r in (
        (λ a. let p = f.0 a in let q = at.0 p.0 in (q.0, q.1, p.1)),
        (λ p. f.1 (at.1 (p.0, p.1), p.2)),
      )

  pub table_tells : Tells keys bytes x says
  table_tells = record {
    as_planned = λ r. in_its_row r (told_planned bytes M r);
    as_withdrawn = λ r. in_its_row r (told_withdrawn bytes M r);
    as_absent =
        Iff.trans (M absent) (Iff.trans (absent_iff bytes (row_of Some None keys x)) (row_nowhere keys T x));
  }

-- some outcome is told where a row is
pub one_told : {says : Told → Type 0} (r : ℕ) → InRow says r → (t : Told) × says t
one_told r (inl e) = (planned r, e)
one_told r (inr e) = (withdrawn r, e)

-- keys of the table that stand in rows i and j
pub in_order : (keys : List ℕ) → Table keys → (x y i j : ℕ) → (i < length keys) × (key_at keys i ≡ x)
    → (j < length keys) × (key_at keys j ≡ y) → (x < y) ↔ (i < j)
in_order keys T x y i j p q = (
  (λ less. let no : ¬ (j ≤ i) = λ g. (omega (arith, keys_rise keys T j i g p.0)) in omega arith),
  (λ less. omega (arith, keys_above keys T i j less q.0)),
)

-- the call index says one outcome
says_one : {said : CallSaid} {o : Told} → said ≡ outcome o → (t : Told) → (said ≡ outcome t) ↔ (o ≡ t)
says_one is t = ((λ e. one_outcome (sym is ∙ e)), (λ m. is ∙ ap outcome m))

module _ (keys : List ℕ) (b : ℕ) (s : Seeds) (S : Stores) (x : ℕ) where
  abbrev rule : Option ℕ
  rule = rule_says keys b s.one s.two S.cells x

  -- with room for the ask it is what the byte makes of the rule's row
  call_marks : (bytes : List ℕ) → Askable keys b S.cells → length keys ≤ length bytes
      → Marks bytes rule (CallTold keys bytes b s S x)
  call_marks bytes A long = says_one (says_rule keys bytes b s.one s.two S.cells x A long)

  -- and where a row is told there was room, and the rule finds x there
  call_at : (bytes : List ℕ) (r : ℕ) → InRow (CallTold keys bytes b s S x) r → Askable keys b S.cells × (rule ≡ Some r)
  call_at bytes r e =
      let t = one_told {says = CallTold keys bytes b s S x} r e in
      let R = says_told keys bytes b s.one s.two S.cells x t.0 t.1 in
      (R.0, told_at bytes (call_marks bytes R.0 R.1) r e)

pub one_key_for_each_row : OneKeyForEachRow
one_key_for_each_row keys bytes b s S x r e =
    rule_said keys x b s.one s.two S.cells r (call_at keys b s S x bytes r e).1

pub withdrawn_keeps_its_row : WithdrawnKeepsItsRow
withdrawn_keeps_its_row keys bytes bytes' b s S x r e long =
    let R = call_at keys b s S x bytes r e in
    by_its_byte bytes' (call_marks keys b s S x bytes' R.0 long) r R.1

pub others_are_absent : OthersAreAbsent
others_are_absent keys b s S S' B bytes long x h none =
    by_rule B bytes long x
    ∙ ap (λ at. outcome (marked bytes at)) (rule_nowhere keys x b s.one s.two S'.cells none)

pub call_tells : CallTells
call_tells keys b s S S' w B bytes long x h =
    table_tells keys bytes (accepted_table (full_accepted B) w) x (says_one (calls_answer B w bytes long x))

pub planned_gets_its_row : PlannedGetsItsRow
planned_gets_its_row keys b s S S' w B bytes long zero r h =
    ((call_tells keys b s S S' w B bytes long (key_at keys r) (w r h)).as_planned r).1 (h, refl, zero r h)

pub rows_are_sorted : RowsAreSorted
rows_are_sorted keys b s S S' w B = row_smaller keys (accepted_table (full_accepted B) w)

pub monotone : Monotone
monotone keys b s S S' w B bytes bytes' x y i j e f =
    in_order keys (accepted_table (full_accepted B) w) x y i j (one_key_for_each_row keys bytes b s S' x i e)
    (one_key_for_each_row keys bytes' b s S' y j f)
