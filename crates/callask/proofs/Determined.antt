-- Any two answers that the statement of the call ask allows are one. Assumes nothing.
use mathlib.Core.Path.{◌≡◌, sym, ap, ◌∙◌}
use Rattle.std.specs.Prelude.{Result, Ok, Err}
use Rattle.basics.proofs.Bools.{differ}
use Rattle.refusals.proofs.Naming.{refusal_told}
use Rattle.outcomes.proofs.Marking.{outcome_told}
use Rattle.callask.specs.Ask.{said_by_call}
use Rattle.callask.specs.Determined.{AskDetermined}
use Rattle.outcomes.specs.declared.Outcome.{Outcome}
use Rattle.refusals.specs.declared.Refusal.{Refusal}

-- what is said determines the answer
answer_told : (r r' : Result Outcome Refusal) → said_by_call r ≡ said_by_call r' → r ≡ r'
answer_told (Ok o) (Ok p) e = ap Ok (outcome_told o p (cc))
answer_told (Ok o) (Err q) e = differ (cc)
answer_told (Err r) (Ok p) e = differ (cc)
answer_told (Err r) (Err q) e = ap Err (refusal_told r q (cc) (cc))

pub ask_determined : AskDetermined
ask_determined keys bytes b s t cells x r r' e e' = answer_told r r' (e ∙ sym e')
