-- What the two maps of the slim profile leave, built one after the other. Assumes nothing.
use mathlib.Core.Path.{◌≡◌}
use mathlib.Core.List.{List}
use Prim.Native.Nat.{ℕ, ◌≤◌}
use native.Mathlib.Omega.{arith}
use lib.ListN.{length}
use Rattle.std.specs.Prelude.{Result, Ok, Err}
use Rattle.cells.specs.Memory.{cleared}
use Rattle.tables.specs.Delimiters.{buckets, delimiters}
use Rattle.tables.specs.Lengths.{call_work}
use Rattle.tables.proofs.Delimiting.{buckets_le, length_delimiters}
use Rattle.stores.specs.Stores.{Stores, lent}
use Rattle.items.specs.Items.{Sorted, offset_values}
use Rattle.maps.specs.Built.{Room, Built}
use Rattle.maps.proofs.Determined.{cells_beyond}
use Rattle.neighbour.specs.Inner.{Storable, StoresBuilt}
use Rattle.neighbour.proofs.Storing.{storable, swept_after, stores_filled}
use Rattle.neighbour.proofs.Storing.{handles_beyond, left_beyond, right_beyond, lengths_beyond}
use Rattle.verdicts.specs.Inner.{Mapped}
use Rattle.verdicts.proofs.Clearing.{cleared_past, cells_written}
use Rattle.verdicts.proofs.Ending.{passed}
use Rattle.slimstores.specs.Sizes.{slim_build_sizes}
use Rattle.slim.specs.Build.{in₁, in₃}
use Rattle.slim.specs.Inner.{SlimReady, MapsBuilt}

module _ {keys : List ℕ} {b : ℕ} {S : Stores} (R : SlimReady keys b S) where
  abbrev n : ℕ
  n = length keys

  abbrev k : ℕ
  k = buckets n b

  few_buckets : k ≤ n
  few_buckets = buckets_le n b (omega (arith, (passed R).two))

  -- what was judged has room for both maps
  pub offsets_buildable : Sorted b keys × Room keys S.cells S.work
  offsets_buildable =
      let P = passed R in (
        record { table = R.table; two = P.two; most = P.most; few = P.few },
        record { for_cells = P.fits.cells; for_work = P.fits.work },
      )

  pub storable_delimiters : {work : List ℕ} → length work ≡ length S.work
      → Storable b keys S.handles S.left S.right work S.lengths
  storable_delimiters w =
      let P = passed R in
      storable (length_delimiters b keys) R.table
      (record { some = omega (arith, P.two); most = P.most; rows = P.few }) few_buckets P.fits.handles
      P.fits.left P.fits.right (omega (arith, P.fits.work)) P.fits.lengths

module _ (keys : List ℕ) (b s u : ℕ) (cells handles left right work lengths : List ℕ)
    (R : SlimReady keys b (lent cells handles left right work lengths)) where
  abbrev S : Stores
  S = lent cells handles left right work lengths

  counted : length (delimiters b keys) ≡ buckets (length keys) b
  counted = length_delimiters b keys

  pub first_jams : (size : ℕ) (cells₁ work₁ : List ℕ)
      → Built s keys (offset_values b keys) cells work (Err size) cells₁ work₁
      → MapsBuilt keys b s u S (Err (record { map = 1; size = size })) (lent cells₁ handles left right work₁ lengths)
  unfolding Mapped
  first_jams size cells₁ work₁ B₁ = (
    in₁ B₁.refused.0,
    cells_written (slim_build_sizes (length keys) b) S (cells_beyond s keys B₁) B₁.swept,
  )

  module _ (cells₁ work₁ : List ℕ) (B₁ : Built s keys (offset_values b keys) cells work (Ok tt) cells₁ work₁)
      (handles₃ left₃ right₃ work₃ lengths₃ : List ℕ) where
    swept : {answer : Result (Unit {0}) ℕ}
        → StoresBuilt (delimiters b keys) u handles left right work₁ lengths answer handles₃ left₃ right₃ work₃ lengths₃
        → work₃ ≡ cleared (call_work (length keys)) work
    swept B₃ = swept_after B₃ (length keys) work (omega (arith, counted, few_buckets R)) B₁.swept

    pub third_jams : (size : ℕ)
        → StoresBuilt (delimiters b keys) u handles left right work₁ lengths (Err size) handles₃ left₃ right₃ work₃ lengths₃
        → MapsBuilt keys b s u S (Err (record { map = 3; size = size }))
        (lent cells₁ handles₃ left₃ right₃ work₃ lengths₃)
    unfolding Mapped
    third_jams size B₃ = (
      in₃ B₁.accepted.0 B₃.map₃.refused.0,
      record {
        cells = cells_beyond s keys B₁;
        handles = handles_beyond B₃ counted;
        left = left_beyond B₃ counted;
        right = right_beyond B₃ counted;
        work = cleared_past (call_work (length keys)) work (swept B₃);
        lengths = lengths_beyond B₃ counted;
      },
    )

    pub both_built
        : StoresBuilt (delimiters b keys) u handles left right work₁ lengths (Ok tt) handles₃ left₃ right₃ work₃ lengths₃
        → MapsBuilt keys b s u S (Ok tt) (lent cells₁ handles₃ left₃ right₃ work₃ lengths₃)
    unfolding Mapped
    both_built B₃ =
        let A₁ = B₁.accepted in
        let S' = lent cells₁ handles₃ left₃ right₃ work₃ lengths₃ in (
          record { one = A₁.0; three = B₃.map₃.accepted.0 },
          record { offsets = A₁.1; neighbour = stores_filled S' B₃; work = swept B₃ },
        )

pub ruleset built = (first_jams, third_jams, both_built)
