-- What an ask says, by its tests. Assumes nothing.
use mathlib.Core.Path.{◌≡◌, sym, ap, ◌∙◌}
use mathlib.Core.Bool.{Bool}
use mathlib.Core.List.{List}
use Rattle.std.specs.Prelude.{Option, Some, None, Ok, Err}
use Prim.Native.Nat.{ℕ, ◌≤◌}
use lib.ListN.{length}
use Rattle.basics.proofs.Bools.{differ}
use Rattle.tables.specs.Delimiters.{delimiters}
use Rattle.tables.proofs.Delimiting.{length_delimiters}
use Rattle.refusals.specs.Numbers.{number, names, taken, store_number}
use Rattle.refusals.specs.Numbers as before
use Rattle.refusals.specs.declared.Refusal.{Refusal}
use Rattle.refusals.specs.declared.Store.{Store}
use Rattle.stores.specs.Limits.{limited}
use Rattle.stores.specs.Sizes.{number_named, short_store, Fits}
use Rattle.stores.specs.Stores.{Stores, asked, sizes_beside}
use Rattle.stores.proofs.Limiting.{Within, limits_passed, limits_named}
use Rattle.stores.proofs.Judging.{none_named, ask_limited, ask_named, ask_passes, ask_told}
use Rattle.outcomes.specs.Outcomes.{Told, marked}
use Rattle.places.specs.Said.{NeighbourSaid, said_by_neighbour, walk_says}
use Rattle.places.specs.declared.Place.{Place}
use Rattle.places.specs.Said as walk
use Rattle.slimstores.specs.Sizes.{slim_ask_sizes}
use Rattle.slimask.specs.Ask.{told, refused, bucket_says, by_bucket, slim_says}
use Rattle.slimask.specs.Inner.{Askable}
use Rattle.slimask.proofs.Answers.{bucket_byte}
use Rattle.outcomes.specs.Inner.{HasByte}
use Rattle.cells.specs.Cells.{cell_count}
use Rattle.tables.specs.Lengths.{handle_count}

module _ (keys bytes : List ℕ) (b seed₁ seed₃ : ℕ) (S : Stores) (x : ℕ) where
  -- the walk over the delimiters
  abbrev pub walked : NeighbourSaid
  walked = walk_says (delimiters b keys) S.handles S.left S.right S.lengths seed₃ x

  -- within the limits and with room, the walk decides
  pub slim_passes : Within (length keys) b → Fits (sizes_beside S bytes) (slim_ask_sizes (length keys) b)
      → slim_says keys bytes b seed₁ seed₃ S x ≡ by_bucket keys bytes b seed₁ S.cells x walked
  unfolding slim_says
  slim_passes W F = ask_passes refused (length keys) b _ _ W F

  -- what an answer tells of the walk
  by_walk : (said : NeighbourSaid) (o : Told) (c p : ℕ) (s : Bool)
      → by_bucket keys bytes b seed₁ S.cells x said ≡ told o c p s
      → (said ≡ walk.place c p s) × (o ≡ marked bytes (bucket_says keys b seed₁ S.cells x c))
  unfolding by_bucket
  by_walk (walk.place d q t) o c p s e =
      let same : d ≡ c = cc in
      let is : walk.place d q t ≡ walk.place c p s = cc in
      (is, rw (← same) (cc))
  by_walk (walk.refused k i) o c p s e = differ (cc)

  -- where an outcome is told there was room, the walk counted the bucket, and the row's byte made the outcome
  pub slim_told : (o : Told) (c p : ℕ) (s : Bool) → slim_says keys bytes b seed₁ seed₃ S x ≡ told o c p s
      → Within (length keys) b × Fits (sizes_beside S bytes) (slim_ask_sizes (length keys) b) × (walked ≡ walk.place c p s)
      × (o ≡ marked bytes (bucket_says keys b seed₁ S.cells x c))
  unfolding slim_says
  slim_told o c p s e =
      let t =
      ask_told refused (length keys) b (sizes_beside S bytes) (slim_ask_sizes (length keys) b) (λ k i d. differ (cc)) e in
      let w = by_walk walked o c p s t.2 in
      (t.0, t.1, w.0, w.1)

  -- the answer of a walk
  pub by_place : {o : Told} {c p : ℕ} {s : Bool} → walk.place c p s ≡ walked
      → o ≡ marked bytes (bucket_says keys b seed₁ S.cells x c)
      → told o c p s ≡ by_bucket keys bytes b seed₁ S.cells x walked
  unfolding by_bucket
  by_place {c = c} {p} {s} is e =
      ap (λ o. told o c p s) e ∙ ap (by_bucket keys bytes b seed₁ S.cells x) is

-- what the code finds
module _ (keys bytes : List ℕ) (b seed₁ seed₃ : ℕ) (offsets handles lefts rights lengths : List ℕ) (x : ℕ) where
  abbrev S : Stores
  S = asked offsets handles lefts rights lengths

  -- the refusal of `limits`
  pub limits_said : {k i : ℕ} → before.refused k i ≡ limited before.refused (length keys) b taken
      → refused k i ≡ slim_says keys bytes b seed₁ seed₃ S x
  unfolding slim_says
  limits_said e = sym (ask_limited refused (length keys) b _ _ _ e)

  module _ (limits : taken ≡ limited before.refused (length keys) b taken) where
    W : Within (length keys) b
    W = limits_passed (length keys) b limits

    -- within the limits the store that is too short
    pub short_said : (store : Store)
        → number_named (Some store) ≡ short_store (sizes_beside S bytes) (slim_ask_sizes (length keys) b)
        → refused 4 (store_number store) ≡ slim_says keys bytes b seed₁ seed₃ S x
    unfolding slim_says
    short_said store is = sym (ask_named refused (length keys) b _ _ _ W store is)

    -- and with room in all stores the walk over the delimiters, of which there are as many as buckets
    module _ (none : number_named None ≡ short_store (sizes_beside S bytes) (slim_ask_sizes (length keys) b)) where
      fits : Fits (sizes_beside S bytes) (slim_ask_sizes (length keys) b)
      fits = none_named (sizes_beside S bytes) (slim_ask_sizes (length keys) b) none

      pub offsets_fit : Askable keys b offsets
      offsets_fit = record { few = W.few; two = W.two; most = W.most; offsets_long = fits.cells }

      pub handles_fit : {k : ℕ} → k ≡ length (delimiters b keys) → cell_count (handle_count k) ≤ length handles
      handles_fit e = rw (e, length_delimiters b keys) fits.handles

      pub lefts_fit : {k : ℕ} → k ≡ length (delimiters b keys) → k ≤ length lefts
      lefts_fit e = rw (e, length_delimiters b keys) fits.left

      pub rights_fit : {k : ℕ} → k ≡ length (delimiters b keys) → k ≤ length rights
      rights_fit e = rw (e, length_delimiters b keys) fits.right

      pub lengths_fit : {k : ℕ} → k ≡ length (delimiters b keys) → k ≤ length lengths
      lengths_fit e = rw (e, length_delimiters b keys) fits.lengths

      pub walk_refused : (r : Refusal)
          → said_by_neighbour (Err r) ≡ walk_says (delimiters b keys) handles lefts rights lengths seed₃ x
          → refused (number r) (names r) ≡ slim_says keys bytes b seed₁ seed₃ S x
      unfolding said_by_neighbour by_bucket
      walk_refused r is =
          ap (by_bucket keys bytes b seed₁ offsets x) is ∙ sym (slim_passes keys bytes b seed₁ seed₃ S x W fits)

      -- a row that is found in the bucket has a byte
      pub row_marked : {at : Option ℕ} (c : ℕ) → at ≡ bucket_says keys b seed₁ offsets x c → HasByte bytes at
      row_marked c e = bucket_byte keys b seed₁ offsets x c bytes fits.bytes e

      pub walk_placed : (p : Place) {at : Option ℕ} {o : Told}
          → said_by_neighbour (Ok p) ≡ walk_says (delimiters b keys) handles lefts rights lengths seed₃ x
          → at ≡ bucket_says keys b seed₁ offsets x p.before → o ≡ marked bytes at
          → told o p.before p.probes p.stands ≡ slim_says keys bytes b seed₁ seed₃ S x
      unfolding said_by_neighbour by_bucket
      walk_placed p is at e =
          ap (λ o. told o p.before p.probes p.stands) (e ∙ ap (marked bytes) at)
          ∙ ap (by_bucket keys bytes b seed₁ offsets x) is
          ∙ sym (slim_passes keys bytes b seed₁ seed₃ S x W fits)

pub ruleset as_asked =
    (limits_named, limits_said, short_said, offsets_fit, handles_fit, lefts_fit, rights_fit, lengths_fit, walk_refused, row_marked, walk_placed)
