-- What the rule tells: a row only where the table's key there is the one asked, whatever the stores say. Assumes
-- nothing.
use mathlib.Core.Path.{◌≡◌, sym, ◌∙◌}
use mathlib.Core.List.{List}
use Rattle.std.specs.Prelude.{Option, Some, None}
use Prim.Native.Nat.{ℕ, ◌≤◌, ◌<◌}
use native.Mathlib.Omega.{arith}
use Rattle.std.proofs.lemmas.Grind.{common_steps}
use lib.ListN.{length}
use Rattle.tables.specs.Tables.{key_at}
use Rattle.outcomes.specs.Inner.{HasByte}
use Rattle.outcomes.proofs.Standing.{row_said, row_nowhere}
use Rattle.callask.specs.Ask.{rule_row, rule_says}

module _ (keys : List ℕ) (x b seed₁ seed₂ : ℕ) (cells : List ℕ) where
  pub rule_said : (q : ℕ) → rule_says keys b seed₁ seed₂ cells x ≡ Some q → (q < length keys) × (key_at keys q ≡ x)
  unfolding rule_says
  rule_said q e = grind (arith, common_steps, row_said keys x (rule_row keys b seed₁ seed₂ cells x) q)

  -- where no row holds x, x is found nowhere
  pub rule_nowhere : ((r : ℕ) → r < length keys → key_at keys r ≡ x → ⊥) → rule_says keys b seed₁ seed₂ cells x ≡ None
  unfolding rule_says
  rule_nowhere none = grind (arith, common_steps, row_nowhere keys x none (rule_row keys b seed₁ seed₂ cells x))

  -- a row that is told has a byte, where there is one for each row
  pub rule_byte : (bytes : List ℕ) (at : Option ℕ) → length keys ≤ length bytes
      → at ≡ rule_says keys b seed₁ seed₂ cells x → HasByte bytes at
  rule_byte bytes at long is q e = let t = rule_said q (sym is ∙ e) in omega (arith, t.0)
