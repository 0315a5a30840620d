-- Any two ends of one build are one, but for what accepted stores leave free: where the first jam is one, and excludes
-- that there is none. Assumes nothing.
use mathlib.Core.Path.{◌≡◌, refl, sym, ap, ap₂, ◌∙◌}
use mathlib.Core.List.{List}
use Prim.Native.Nat.{ℕ}
use Rattle.std.specs.Prelude.{Result, Ok}
use Rattle.refusals.specs.Numbers.{BuildSaid, taken, jammed, said_by_build}
use Rattle.refusals.specs.declared.Unbuilt.{Unbuilt}
use Rattle.refusals.proofs.Naming.{verdict_told, not_taken, jam_not_taken}
use Rattle.stores.specs.Stores.{Stores}
use Rattle.stores.specs.declared.Sizes.{Sizes}
use Rattle.verdicts.specs.Ended.{Ended, refusal, jam, accepted}

abbrev Verdict : Type 0
Verdict = Result (Unit {0}) Unbuilt

abbrev Taken : Verdict
Taken = Ok tt

-- two ends of one build: one verdict; where it accepts both stores are filled, and otherwise they are the same. So a
-- store that filling determines is the same either way
pub record OneEnd (Filled : Stores → Type 0) (v : Verdict) (S : Stores) (v' : Verdict) (S' : Stores) : Type 0 where
  pub answer : v ≡ v'
  pub refused : (v ≡ Taken → ⊥) → S ≡ S'
  pub filled : v ≡ Taken → Filled S × Filled S'
  pub same : (store : Stores → List ℕ) → ((T U : Stores) → Filled T → Filled U → store T ≡ store U) → store S ≡ store S'

-- refused in the same words, and the memory the same
same_refusal : {Filled : Stores → Type 0} {v v' : Verdict} {S S' : Stores} {said : BuildSaid} → said_by_build v ≡ said
    → said_by_build v' ≡ said → (said ≡ taken → ⊥) → S ≡ S' → OneEnd Filled v S v' S'
same_refusal {v = v} {v'} e f none one = record {
  answer = verdict_told v v' (e ∙ sym f);
  refused = λ h. one;
  filled = λ t. absurd (none (sym e ∙ ap said_by_build t));
  same = λ store each. ap store one;
}

same_filling : {Filled : Stores → Type 0} {v v' : Verdict} {S S' : Stores} → said_by_build v ≡ taken
    → said_by_build v' ≡ taken → Filled S → Filled S' → OneEnd Filled v S v' S'
same_filling {v = v} {v'} {S} {S'} e f F G = record {
  answer = verdict_told v v' (e ∙ sym f);
  refused = λ none. absurd (none (verdict_told v Taken e));
  filled = λ t. (F, G);
  same = λ store each. each S S' F G;
}

module _ {judged : BuildSaid} {w : Sizes} {Jams : (map size : ℕ) → Type 0} {Jamless : Type 0}
    {Filled : Stores → Type 0} {S : Stores}
    (one : (m p m' p' : ℕ) → Jams m p → Jams m' p' → (m ≡ m') × (p ≡ p'))
    (not_none : (m p : ℕ) → Jams m p → Jamless → ⊥) where
  pub ends_alike : (v v' : Verdict) {S₁ S₂ : Stores} → Ended judged w Jams Jamless Filled S (said_by_build v) S₁
      → Ended judged w Jams Jamless Filled S (said_by_build v') S₂ → OneEnd Filled v S₁ v' S₂
  ends_alike v v' (refusal k i j e c) (refusal k' i' j' e' c') =
      same_refusal e (e' ∙ sym j' ∙ j) (not_taken k i refl) (c ∙ sym c')
  ends_alike v v' (refusal k i j e c) (jam m p j' J e' c') = not_taken k i j j'
  ends_alike v v' (refusal k i j e c) (accepted j' N e' F) = not_taken k i j j'
  ends_alike v v' (jam m p j J e c) (refusal k' i' j' e' c') = not_taken k' i' j' j
  ends_alike v v' (jam m p j J e c) (jam m' p' j' J' e' c') =
      let same = one m' p' m p J' J in
      same_refusal e (e' ∙ ap₂ jammed same.0 same.1) (jam_not_taken m p refl) (c ∙ sym c')
  ends_alike v v' (jam m p j J e c) (accepted j' N e' F) = absurd (not_none m p J N)
  ends_alike v v' (accepted j N e F) (refusal k' i' j' e' c') = not_taken k' i' j' j
  ends_alike v v' (accepted j N e F) (jam m p j' J e' c') = absurd (not_none m p J N)
  ends_alike v v' (accepted j N e F) (accepted j' N' e' G) = same_filling e e' F G
