-- What the three maps leave, built one after the other. Assumes nothing.
use mathlib.Core.Path.{◌≡◌, refl, ap}
use mathlib.Core.List.{List}
use Prim.Native.Nat.{ℕ}
use native.Mathlib.Nat.{le_refl}
use native.Mathlib.Omega.{arith}
use lib.ListN.{length}
use Rattle.std.specs.Prelude.{Ok, Err}
use Rattle.cells.specs.Memory.{cleared}
use Rattle.tables.specs.Delimiters.{delimiters}
use Rattle.tables.specs.Lengths.{call_work}
use Rattle.tables.proofs.Delimiting.{delimiters_one}
use Rattle.stores.specs.Sizes.{full_sizes}
use Rattle.stores.specs.Stores.{Stores, lent, seeds}
use Rattle.call.specs.Inner.{Buildable, KeysBuilt, PrefixesBuilt}
use Rattle.call.proofs.Joining.{first_beyond, second_beyond, both_swept, both_filled}
use Rattle.neighbour.specs.Inner.{Storable, StoresBuilt}
use Rattle.neighbour.proofs.Storing.{storable, swept_after, stores_filled}
use Rattle.neighbour.proofs.Storing.{handles_beyond, left_beyond, right_beyond, lengths_beyond}
use Rattle.verdicts.specs.Inner.{Mapped}
use Rattle.verdicts.proofs.Clearing.{cleared_past, cells_written}
use Rattle.verdicts.proofs.Ending.{passed}
use Rattle.full.specs.Build.{in₁, in₂, in₃}
use Rattle.full.specs.Inner.{FullReady, MapsBuilt}

-- what was judged has room for all maps
module _ {keys : List ℕ} {b : ℕ} {S : Stores} (R : FullReady keys b S) where
  pub buildable : {cells work : List ℕ} → length cells ≡ length S.cells → length work ≡ length S.work
      → Buildable keys b cells work
  buildable c w =
      let P = passed R in
      record {
        sorted = record { table = R.table; two = P.two; most = P.most; few = P.few };
        cells_long = omega (arith, P.fits.cells);
        work_long = omega (arith, P.fits.work);
      }

  pub storable_table : {work : List ℕ} → length work ≡ length S.work
      → Storable 1 keys S.handles S.left S.right work S.lengths
  storable_table w =
      let P = passed R in
      storable (ap length (delimiters_one keys)) R.table
      (record { some = omega arith; most = omega arith; rows = P.few }) (le_refl (length keys)) P.fits.handles
      P.fits.left P.fits.right (omega (arith, P.fits.work)) P.fits.lengths

module _ (keys : List ℕ) (b s t u : ℕ) (cells handles left right work lengths : List ℕ)
    (R : FullReady keys b (lent cells handles left right work lengths)) where
  abbrev n : ℕ
  n = length keys

  abbrev S : Stores
  S = lent cells handles left right work lengths

  abbrev A : Buildable keys b cells work
  A = buildable R refl refl

  pub first_jams : (size : ℕ) (cells₁ work₁ : List ℕ) → KeysBuilt keys b s cells work (Err size) cells₁ work₁
      → MapsBuilt keys b (seeds s t u) S (Err (record { map = 1; size = size }))
      (lent cells₁ handles left right work₁ lengths)
  unfolding Mapped
  first_jams size cells₁ work₁ B₁ = (
    in₁ B₁.refused.0,
    cells_written (full_sizes n b) S (first_beyond A B₁) B₁.swept,
  )

  module _ (cells₁ work₁ : List ℕ) (B₁ : KeysBuilt keys b s cells work (Ok tt) cells₁ work₁) where
    pub second_jams : (size : ℕ) (cells₂ work₂ : List ℕ) → PrefixesBuilt keys b t cells₁ work₁ (Err size) cells₂ work₂
        → MapsBuilt keys b (seeds s t u) S (Err (record { map = 2; size = size }))
        (lent cells₂ handles left right work₂ lengths)
    unfolding Mapped
    second_jams size cells₂ work₂ B₂ = (
      in₂ B₁.accepted.0 B₂.part.refused.0,
      cells_written (full_sizes n b) S (second_beyond A B₁ B₂) (both_swept A B₁ B₂),
    )

    module _ (cells₂ work₂ : List ℕ) (B₂ : PrefixesBuilt keys b t cells₁ work₁ (Ok tt) cells₂ work₂)
        (handles₃ left₃ right₃ work₃ lengths₃ : List ℕ) where
      -- the neighbour index is over buckets of one row, whose delimiters are the table
      pub third_jams : (size b' : ℕ) (keys' : List ℕ) → b' ≡ 1 → keys' ≡ keys
          → StoresBuilt (delimiters b' keys') u handles left right work₂ lengths (Err size) handles₃ left₃ right₃ work₃ lengths₃
          → MapsBuilt keys b (seeds s t u) S (Err (record { map = 3; size = size }))
          (lent cells₂ handles₃ left₃ right₃ work₃ lengths₃)
      unfolding Mapped
      third_jams size b' keys' one same B₃ =
          let C₃ = rw (one, same, delimiters_one keys) at B₃ in
          let swept : work₃ ≡ cleared (call_work n) work = swept_after C₃ n work (le_refl n) (both_swept A B₁ B₂) in (
            in₃ B₁.accepted.0 B₂.part.accepted.0 C₃.map₃.refused.0,
            record {
              cells = second_beyond A B₁ B₂;
              handles = handles_beyond C₃ refl;
              left = left_beyond C₃ refl;
              right = right_beyond C₃ refl;
              work = cleared_past (call_work n) work swept;
              lengths = lengths_beyond C₃ refl;
            },
          )

      pub all_built : (b' : ℕ) (keys' : List ℕ) → b' ≡ 1 → keys' ≡ keys
          → StoresBuilt (delimiters b' keys') u handles left right work₂ lengths (Ok tt) handles₃ left₃ right₃ work₃ lengths₃
          → MapsBuilt keys b (seeds s t u) S (Ok tt) (lent cells₂ handles₃ left₃ right₃ work₃ lengths₃)
      unfolding Mapped
      all_built b' keys' one same B₃ =
          let C₃ = rw (one, same, delimiters_one keys) at B₃ in
          let S' = lent cells₂ handles₃ left₃ right₃ work₃ lengths₃ in (
            record {
              one = B₁.accepted.0;
              two = B₂.part.accepted.0;
              three = C₃.map₃.accepted.0;
            },
            record {
              call = both_filled A B₁ B₂;
              neighbour = stores_filled S' C₃;
              work = swept_after C₃ n work (le_refl n) (both_swept A B₁ B₂);
            },
          )

pub ruleset built = (first_jams, second_jams, third_jams, all_built)
