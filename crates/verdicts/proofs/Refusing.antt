-- What a build judges before it builds, in two steps: the limits, then the keys and the stores. A refusal by either
-- ends it with nothing changed; where both pass it is ready. Assumes nothing.
use mathlib.Core.Path.{◌≡◌, refl}
use mathlib.Core.List.{List}
use Prim.Native.Nat.{ℕ, ◌^◌, ◌<◌}
use lib.ListN.{length}
use Rattle.refusals.specs.Numbers.{BuildSaid, taken, refused}
use Rattle.tables.specs.Tables.{key_at}
use Rattle.tables.proofs.Rising.{no_fall_table}
use Rattle.stores.specs.Limits.{limited}
use Rattle.stores.specs.Stores.{Stores, sizes_of}
use Rattle.stores.specs.Judged.{fall_or_short, judged}
use Rattle.stores.specs.declared.Sizes.{Sizes}
use Rattle.stores.proofs.Limiting.{limits_passed}
use Rattle.stores.proofs.Judging.{judged_passed, refused_by, judged_by}
use Rattle.verdicts.specs.Ended.{Ended, refusal}
use Rattle.verdicts.specs.Inner.{Ready}

module _ (keys : List ℕ) (b : ℕ) where
  -- what `limits` refuses
  pub limit_refuses : {want : Sizes} {S : Stores} {Jams : (map size : ℕ) → Type 0} {Jamless : Type 0}
      {Filled : Stores → Type 0} {k i : ℕ} → refused k i ≡ limited refused (length keys) b taken
      → Ended (judged keys b (sizes_of S) want) want Jams Jamless Filled S (refused k i) S
  limit_refuses {want} {S} e = refusal _ _ (refused_by keys b (sizes_of S) want e) refl refl

  -- and once it passes, with the named lengths, what `judge` says
  module _ (passes : taken ≡ limited refused (length keys) b taken) {want w : Sizes} (is : w ≡ want) where
    judged_as : (have : Sizes) {said : BuildSaid} → said ≡ fall_or_short keys have w → judged keys b have want ≡ said
    judged_as have e = judged_by keys b have (limits_passed (length keys) b passes) is e

    pub judge_refuses : {S : Stores} {Jams : (map size : ℕ) → Type 0} {Jamless : Type 0} {Filled : Stores → Type 0}
        {k i : ℕ} → refused k i ≡ fall_or_short keys (sizes_of S) w
        → Ended (judged keys b (sizes_of S) want) want Jams Jamless Filled S (refused k i) S
    judge_refuses {S} e = refusal _ _ (judged_as (sizes_of S) e) refl refl

    -- keys that rise are a table
    pub judge_passes : {S : Stores} → taken ≡ fall_or_short keys (sizes_of S) w
        → ((i : ℕ) → i < length keys → key_at keys i < 2 ^ 64) → Ready keys b want S
    judge_passes {S} e words =
        let all : judged keys b (sizes_of S) want ≡ taken = judged_as (sizes_of S) e in
        record {
          judged = all;
          table = no_fall_table keys words (judged_passed keys b (sizes_of S) want all).rises;
        }
