-- What both indexes say of an ask over stores that answer as the table says: none refuses, and what they say is the
-- ask's four lines. Assumes nothing.
use Rattle.std.proofs.Common.{Option, Some, None, Result, Ok, Err}
use mathlib.Core.Path.{◌≡◌, refl, sym, ap, ◌∙◌}
use mathlib.Core.Bool.{Bool, true, false, cond}
use mathlib.Core.List.{List}
use Rattle.std.specs.Result.{result_ok}
use Prim.Native.Nat.{ℕ, ◌≤◌}
use lib.Dec.{eqb}
use lib.ListN.{length, get_or}
use Rattle.basics.proofs.Bools.{differ}
use Rattle.refusals.specs.declared.Refusal.{Refusal}
use Rattle.tables.specs.Tables.{smaller}
use Rattle.stores.specs.Stores.{Stores, Seeds}
use Rattle.outcomes.specs.Outcomes.{planned, withdrawn, marked, told_by}
use Rattle.outcomes.specs.declared.Outcome.{Outcome}
use Rattle.callask.specs.Ask.{outcome, said_by_call}
use Rattle.callask.proofs.Asking.{one_outcome}
use Rattle.neighbour.specs.Ask.{place, said_by_neighbour, stands_at}
use Rattle.index.specs.Answers.{call_over, neighbour_over, row_of, probes_of, Answers}
use Rattle.places.specs.declared.Place.{Place}
use Rattle.rowoutput.specs.Output.{ask_text}
use Rattle.asks.specs.Asks.{ask_lines}
use Rattle.asks.specs.Inner.{called_of}

row_called : (t : Bool) (c : ℕ) → called_of (cond t (planned c) (withdrawn c)) ≡ Some c
row_called true c = refl
row_called false c = refl

-- whatever the bytes, a row is printed only where x stands, and then it is the number of smaller keys
called : (bytes : List ℕ) (s : Bool) (c : ℕ) → called_of (marked bytes (cond s (Some c) None)) ≡ cond s (Some c) None
called bytes true c = row_called (eqb (get_or bytes c 0) 0) c
called bytes false c = refl

-- what an answer told, and that there was one
told_is : {A E : Type 0} (r : Result A E) (x : A) → Some x ≡ result_ok r → r ≡ Ok x
told_is (Ok y) x e = cc
told_is (Err y) x e = differ (cc)

neighbour_places : (p : Place) (c n : ℕ) (s : Bool) → said_by_neighbour (Ok p) ≡ place c n s
    → (p.before ≡ c) × (p.probes ≡ n)
unfolding said_by_neighbour
neighbour_places p c n s e = (cc, cc)

neighbour_told : (r : Result Place Refusal) (c n : ℕ) (s : Bool) → said_by_neighbour r ≡ place c n s
    → None ≡ result_ok r → ⊥
unfolding said_by_neighbour
neighbour_told (Ok p) c n s e f = differ (cc)
neighbour_told (Err r) c n s e f = differ (cc)

module _ {keys : List ℕ} {b : ℕ} {s : Seeds} {S : Stores} (A : Answers keys b s S) (x : ℕ) where
  pub neighbour_answers : (r : Result Place Refusal) → said_by_neighbour r ≡ neighbour_over keys S s.three x
      → None ≡ result_ok r → ⊥
  neighbour_answers r e f =
      neighbour_told r (smaller keys x) (probes_of keys x) (stands_at keys x (smaller keys x)) (e ∙ A.counts x) f

  module _ (bytes : List ℕ) (long : length keys ≤ length bytes) where
    pub ask_said : (near : Result Place Refusal) (p : Place) (call : Result Outcome Refusal) (o : Outcome)
        (row : Option ℕ) → Some p ≡ result_ok near → said_by_neighbour near ≡ neighbour_over keys S s.three x
        → Some o ≡ result_ok call → said_by_call call ≡ call_over keys bytes b s S x → row ≡ called_of (told_by o)
        → ask_lines keys x ≡ ask_text x row p.before p.probes
    ask_said near p call o row e f g h k =
        let told : outcome (told_by o) ≡ call_over keys bytes b s S x =
        ap said_by_call (sym (told_is call o g)) ∙ h in
        let c : row ≡ row_of Some None keys x =
        k ∙ ap called_of (one_outcome (told ∙ A.calls bytes long x))
        ∙ called bytes (stands_at keys x (smaller keys x)) (smaller keys x) in
        let n =
        neighbour_places p (smaller keys x) (probes_of keys x) (stands_at keys x (smaller keys x))
        (ap said_by_neighbour (sym (told_is near p e)) ∙ f ∙ A.counts x) in
        rw (c, n.0, n.1)
