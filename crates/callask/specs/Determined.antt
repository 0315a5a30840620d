-- What the statement of the call ask determines: everything. (It changes no lent memory.)
use Rattle.std.specs.Prelude.{◌≡◌, Result, List, ℕ}
use Rattle.callask.specs.Ask.{said_by_call, call_says}
use Rattle.outcomes.specs.declared.Outcome.{Outcome}
use Rattle.refusals.specs.declared.Refusal.{Refusal}

-- any two answers of a call ask on the same input that its statement allows are one
abbrev pub AskDetermined : Type 0
AskDetermined =
    (keys bytes : List ℕ) (b seed₁ seed₂ : ℕ) (cells : List ℕ) (x : ℕ) (r r' : Result Outcome Refusal)
    → said_by_call r ≡ call_says keys bytes b seed₁ seed₂ cells x
    → said_by_call r' ≡ call_says keys bytes b seed₁ seed₂ cells x → r ≡ r'
