-- What a byte makes of a row. Assumes nothing.
use mathlib.Core.Path.{◌≡◌, refl}
use Rattle.std.specs.Prelude.{Some, None}
use Rattle.std.proofs.lemmas.Grind.{common_steps}
use native.Mathlib.Omega.{arith}
use Rattle.basics.proofs.Bools.{differ}
use Rattle.outcomes.specs.Outcomes.{told_by}
use Rattle.outcomes.specs.Vouched.{PlannedIff, WithdrawnIff, AbsentIff}
use Rattle.outcomes.specs.declared.Outcome.{Outcome}
use Rattle.outcomes.specs.declared.Outcome.TheVariants.{Planned, Withdrawn, Absent}

pub planned_iff : PlannedIff
planned_iff bytes (Some q) r = (λ e. grind (arith, common_steps), λ p. grind (arith, common_steps))
planned_iff bytes None r = (λ e. differ (cc), λ p. differ (cc))

pub withdrawn_iff : WithdrawnIff
withdrawn_iff bytes (Some q) r = (λ e. grind (arith, common_steps), λ p. grind (arith, common_steps))
withdrawn_iff bytes None r = (λ e. differ (cc), λ p. differ (cc))

pub absent_iff : AbsentIff
absent_iff bytes (Some q) = (λ e. grind (arith, common_steps), λ e. differ (cc))
absent_iff bytes None = (λ e. refl, λ e. refl)

-- what is told determines the outcome
pub outcome_told : (o o' : Outcome) → told_by o ≡ told_by o' → o ≡ o'
outcome_told (Planned r) (Planned q) e = cc
outcome_told (Planned r) (Withdrawn q) e = differ (cc)
outcome_told (Planned r) Absent e = differ (cc)
outcome_told (Withdrawn r) (Planned q) e = differ (cc)
outcome_told (Withdrawn r) (Withdrawn q) e = cc
outcome_told (Withdrawn r) Absent e = differ (cc)
outcome_told Absent (Planned q) e = differ (cc)
outcome_told Absent (Withdrawn q) e = differ (cc)
outcome_told Absent Absent e = refl
