-- Any two answers that the statement of the slim ask allows are one. Assumes nothing.
use mathlib.Core.Path.{◌≡◌, sym, ap, ap₂, ◌∙◌}
use Rattle.std.specs.Prelude.{Result, Ok, Err}
use Rattle.basics.proofs.Bools.{differ}
use Rattle.refusals.proofs.Naming.{refusal_told}
use Rattle.outcomes.proofs.Marking.{outcome_told}
use Rattle.places.proofs.Telling.{same_place}
use Rattle.slimask.specs.Ask.{said_by_slim}
use Rattle.slimask.specs.Determined.{SlimAskDetermined}
use Rattle.slimask.specs.declared.SlimAnswer.{SlimAnswer}
use Rattle.outcomes.specs.declared.Outcome.{Outcome}
use Rattle.places.specs.declared.Place.{Place}
use Rattle.refusals.specs.declared.Refusal.{Refusal}

-- what is said determines the answer
abbrev made : Outcome → Place → SlimAnswer
made o p = record { outcome = o; place = p }

same_answer : (a a' : SlimAnswer) → a.outcome ≡ a'.outcome → a.place ≡ a'.place → a ≡ a'
same_answer a a' e f = let same : made a.outcome a.place ≡ made a'.outcome a'.place = ap₂ made e f in same

answer_told : (r r' : Result SlimAnswer Refusal) → said_by_slim r ≡ said_by_slim r' → r ≡ r'
answer_told (Ok a) (Ok a') e =
    ap Ok (same_answer a a' (outcome_told a.outcome a'.outcome (cc)) (same_place a.place a'.place (cc) (cc) (cc)))
answer_told (Ok a) (Err q) e = differ (cc)
answer_told (Err r) (Ok a) e = differ (cc)
answer_told (Err r) (Err q) e = ap Err (refusal_told r q (cc) (cc))

pub slim_ask_determined : SlimAskDetermined
slim_ask_determined keys bytes b s t S x r r' e e' = answer_told r r' (e ∙ sym e')
