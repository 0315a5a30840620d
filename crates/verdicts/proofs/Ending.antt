-- How a build that is judged ends: from its maps and the verdict on them, and what it is where it accepts. Assumes
-- nothing.
use mathlib.Core.Path.{◌≡◌, refl, ◌∙◌}
use mathlib.Core.List.{List}
use Prim.Native.Nat.{ℕ, ◌≤◌}
use native.Mathlib.Omega.{arith}
use lib.ListN.{length}
use Rattle.std.specs.Prelude.{Result, Ok, Err}
use Rattle.refusals.specs.Numbers.{BuildSaid, taken}
use Rattle.refusals.specs.declared.Jam.{Jam}
use Rattle.refusals.proofs.Naming.{not_taken, jam_not_taken}
use Rattle.stores.specs.Sizes.{Fits}
use Rattle.stores.specs.Stores.{Stores, sizes_of}
use Rattle.stores.specs.declared.Sizes.{Sizes}
use Rattle.stores.proofs.Judging.{Passed, judged_passed}
use Rattle.verdicts.specs.Ended.{Ended, refusal, jam, accepted}
use Rattle.verdicts.specs.Inner.{Ready, Mapped, Settled}
use Rattle.verdicts.proofs.Clearing.{cleared_beyond}

module _ {keys : List ℕ} {b : ℕ} {want : Sizes} {S : Stores} (R : Ready keys b want S) where
  pub passed : Passed keys b (sizes_of S) want
  passed = judged_passed keys b (sizes_of S) want R.judged

  -- the limits within which lengths are named
  pub limits : (1 ≤ b) × (b ≤ 256) × (length keys ≤ 32768)
  limits = let P = passed in (omega (arith, P.two), P.most, P.few)

  -- stores that are still as long have the named lengths
  pub still_fits : (T : Stores) {w : Sizes} → w ≡ want → length T.cells ≡ length S.cells
      → length T.handles ≡ length S.handles → length T.left ≡ length S.left
      → length T.right ≡ length S.right → length T.work ≡ length S.work
      → length T.lengths ≡ length S.lengths → Fits (sizes_of T) w
  still_fits T is c h l r k m =
      let F = passed.fits in
      rw is (record {
        cells = rw c F.cells;
        handles = rw h F.handles;
        left = rw l F.left;
        right = rw r F.right;
        work = rw k F.work;
        lengths = rw m F.lengths;
        bytes = F.bytes;
      })

module _ {before : BuildSaid} {want : Sizes} {Jams : (map size : ℕ) → Type 0} {Jamless : Type 0}
    {Filled : Stores → Type 0} {S : Stores} where
  -- the verdict on the maps of a build that nothing else refuses is how it ends
  pub settled : (maps : Result (Unit {0}) Jam) (S₁ : Stores) {w : Sizes} {said : BuildSaid} {S' : Stores} → before ≡ taken → w ≡ want
      → Mapped want Jams Jamless Filled S maps S₁ → Settled w maps S₁ said S'
      → Ended before want Jams Jamless Filled S said S'
  unfolding Mapped Settled
  settled (Ok built) S₁ j is M E = accepted j M.0 E.0 (rw E.1 M.1)
  settled (Err e) S₁ j is M E =
      jam e.map e.size j M.0 E.0 (rw is at E.1 ∙ cleared_beyond want S S₁ M.1)

  -- a build that accepts: nothing was refused, no map has a jam, and the stores are filled
  pub when_taken : {S' : Stores} → Ended before want Jams Jamless Filled S taken S'
      → (before ≡ taken) × Jamless × Filled S'
  when_taken (refusal k i j e c) = not_taken k i e refl
  when_taken (jam m p j J e c) = jam_not_taken m p e refl
  when_taken (accepted j N e F) = (j, N, F)

-- what holds of the stores that a build leaves holds of slices that hold the same
pub ended_as : {judged : BuildSaid} {w : Sizes} {Jams : (map size : ℕ) → Type 0} {Jamless : Type 0} {Filled : Stores → Type 0}
    {S : Stores} {said : BuildSaid} {S' S'' : Stores} → Ended judged w Jams Jamless Filled S said S' → S'' ≡ S'
    → Ended judged w Jams Jamless Filled S said S''
ended_as B e = rw e B
