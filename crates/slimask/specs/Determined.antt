-- What the statement of the slim ask determines: everything. (It changes no lent memory.)
use Rattle.std.specs.Prelude.{◌≡◌, Result, List, ℕ}
use Rattle.stores.specs.Stores.{Stores}
use Rattle.slimask.specs.Ask.{said_by_slim, slim_says}
use Rattle.refusals.specs.declared.Refusal.{Refusal}
use Rattle.slimask.specs.declared.SlimAnswer.{SlimAnswer}

-- any two answers of a slim ask on the same input that its statement allows are one
abbrev pub SlimAskDetermined : Type 0
SlimAskDetermined =
    (keys bytes : List ℕ) (b seed₁ seed₃ : ℕ) (S : Stores) (x : ℕ) (r r' : Result SlimAnswer Refusal)
    → said_by_slim r ≡ slim_says keys bytes b seed₁ seed₃ S x → said_by_slim r' ≡ slim_says keys bytes b seed₁ seed₃ S x
    → r ≡ r'
