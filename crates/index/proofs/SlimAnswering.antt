-- What the slim profile answers: over any stores what the byte makes of the row in the bucket that the walk counts, and
-- over those of an accepted build what the table and the row bytes say. Assumes nothing.
use mathlib.Core.Path.{◌≡◌, refl, sym, ap, ◌∙◌}
use mathlib.Core.Bool.{Bool}
use mathlib.Core.List.{List}
use mathlib.Core.Logic.{◌↔◌}
use Prim.Native.Nat.{ℕ, ◌+◌, ◌*◌, ◌/◌, ◌%◌, ◌≤◌, ◌<◌, zero-le}
use native.Mathlib.Omega.{arith}
use lib.ListN.{length}
use Rattle.std.specs.Prelude.{Option, Some, None}
use Rattle.refusals.specs.Numbers.{taken}
use Rattle.cells.specs.Cells.{map_value}
use Rattle.tables.specs.Tables.{key_at, Table, smaller}
use Rattle.tables.specs.Delimiters.{delimiters}
use Rattle.tables.proofs.Delimiting.{length_delimiters, delimiters_table}
use Rattle.stores.specs.Sizes.{Fits}
use Rattle.stores.specs.Stores.{Stores, sizes_beside}
use Rattle.stores.specs.declared.Sizes.{Sizes}
use Rattle.stores.proofs.Limiting.{Within}
use Rattle.items.proofs.Values.{row_is, offset_is, row_bucket}
use Rattle.outcomes.specs.Outcomes.{Told, row_says, marked}
use Rattle.outcomes.proofs.Standing.{row_found}
use Rattle.places.specs.Said.{NeighbourSaid, place, stands_at, walk_says}
use Rattle.neighbour.proofs.Asking.{stored_says}
use Rattle.slimstores.specs.Sizes.{slim_build_sizes, slim_ask_sizes}
use Rattle.slimask.specs.Ask.{SlimSaid, told, bucket_says, slim_says}
use Rattle.slimask.proofs.Asking.{slim_passes, slim_told, by_place}
use Rattle.slimask.proofs.Answers.{bucket_row, bucket_nowhere}
use Rattle.slim.specs.Build.{SlimJamless, SlimFilled, SlimBuilt}
use Rattle.index.specs.Answers.{Words, row_of, probes_of}
use Rattle.index.specs.Demands.{InRow}
use Rattle.index.specs.Slim.{SlimTold}
use Rattle.index.proofs.Accepted.{Accepted, build_accepted, accepted_table, accepted_sorted, RoomFor, StoredIn}
use Rattle.index.proofs.Accepted.{filled_room, filled_stored}
use Rattle.index.proofs.Answering.{rule_by_table}
use Rattle.index.proofs.Buckets.{bucket_before}
use Rattle.index.proofs.Telling.{Marks, told_at, one_told}

-- one outcome is told
pub says_one : {said : SlimSaid} {o : Told} {c p : ℕ} {s : Bool} → said ≡ told o c p s → (t : Told)
    → ((before : ℕ) × ((probes : ℕ) × ((stands : Bool) × (said ≡ told t before probes stands)))) ↔ (o ≡ t)
says_one {c = c} {p} {s} is t =
    ((λ e. let f = sym is ∙ e.1.1.1 in cc), (λ m. (c, (p, (s, is ∙ ap (λ (o : Told). told o c p s) m)))))

-- stores that can be asked with some bytes can be with others
other_bytes : (S : Stores) (bytes bytes' : List ℕ) {w : Sizes} → Fits (sizes_beside S bytes) w
    → w.bytes ≤ length bytes' → Fits (sizes_beside S bytes') w
other_bytes S bytes bytes' F long = record {
  cells = F.cells;
  handles = F.handles;
  left = F.left;
  right = F.right;
  work = F.work;
  lengths = F.lengths;
  bytes = long;
}

module _ (keys : List ℕ) (b seed₁ seed₃ : ℕ) (S : Stores) (x : ℕ) where
  -- what is found in a bucket
  abbrev in_bucket : ℕ → Option ℕ
  in_bucket c = bucket_says keys b seed₁ S.cells x c

  abbrev walks : NeighbourSaid
  walks = walk_says (delimiters b keys) S.handles S.left S.right S.lengths seed₃ x

  -- with room for the ask, x is told by the bucket that the walk counts
  pub told_from_walk : (bytes : List ℕ) → Within (length keys) b → Fits (sizes_beside S bytes) (slim_ask_sizes (length keys) b)
      → {c p : ℕ} {s : Bool} → walks ≡ place c p s
      → slim_says keys bytes b seed₁ seed₃ S x ≡ told (marked bytes (in_bucket c)) c p s
  told_from_walk bytes W F is =
      slim_passes keys bytes b seed₁ seed₃ S x W F ∙ sym (by_place keys bytes b seed₁ seed₃ S x (sym is) refl)

  -- and where it is told with some bytes, so it is with any others
  pub told_again : (bytes bytes' : List ℕ) {o : Told} {c p : ℕ} {s : Bool}
      → slim_says keys bytes b seed₁ seed₃ S x ≡ told o c p s → length keys ≤ length bytes'
      → slim_says keys bytes' b seed₁ seed₃ S x ≡ told (marked bytes' (in_bucket c)) c p s
  told_again bytes bytes' {o} {c} {p} {s} e long =
      let R = slim_told keys bytes b seed₁ seed₃ S x o c p s e in
      told_from_walk bytes' R.0 (other_bytes S bytes bytes' R.1 long) R.2

  -- so a row that is told is one in which x is found, and other bytes make of it what they say
  pub slim_at : (bytes : List ℕ) (r : ℕ) → InRow (SlimTold keys bytes b seed₁ seed₃ S x) r
      → (c : ℕ) × (in_bucket c ≡ Some r) × ((bytes' : List ℕ) → length keys ≤ length bytes'
      → Marks bytes' (in_bucket c) (SlimTold keys bytes' b seed₁ seed₃ S x))
  slim_at bytes r e =
      let t = one_told {says = SlimTold keys bytes b seed₁ seed₃ S x} r e in
      let c = t.1.0 in
      let said = t.1.1.1.1 in
      let R = slim_told keys bytes b seed₁ seed₃ S x t.0 c t.1.1.0 t.1.1.1.0 said in (
        c,
        told_at bytes (says_one (told_again bytes bytes said R.1.bytes)) r e,
        (λ bytes' long. says_one (told_again bytes bytes' said long)),
      )

-- after an accepted build
module _ {keys : List ℕ} {b seed₁ seed₃ : ℕ} {S S' : Stores} (B : SlimBuilt keys b seed₁ seed₃ S taken S') where
  A : Accepted keys b (slim_build_sizes (length keys) b) (SlimJamless keys b seed₁ seed₃)
      (SlimFilled keys b seed₁ seed₃ S) S S'
  A = build_accepted B

  abbrev D : List ℕ
  D = delimiters b keys

  pub slim_some : 1 ≤ b
  slim_some = omega (arith, A.passed.two)

  pub slim_table : Words keys → Table keys
  slim_table w = accepted_table A w

  pub slim_delimiters : Words keys → Table D
  slim_delimiters w = delimiters_table b keys slim_some (slim_table w)

  pub slim_stored : StoredIn D seed₃ S'
  slim_stored = filled_stored A.filled.neighbour

  -- there is room for the ask, with bytes for all rows
  slim_fits : (bytes : List ℕ) → length keys ≤ length bytes → Fits (sizes_beside S' bytes) (slim_ask_sizes (length keys) b)
  slim_fits bytes long =
      let F = A.passed.fits in
      let count = length_delimiters b keys in
      let room : RoomFor D S = record {
        cells = zero-le;
        handles = rw count F.handles;
        left = rw count F.left;
        right = rw count F.right;
        work = zero-le;
        lengths = rw count F.lengths;
        bytes = zero-le;
      } in
      let R = filled_room A.filled.neighbour room in
      record {
        cells = omega (arith, F.cells, A.filled.offsets.long);
        handles = rw count at R.handles;
        left = rw count at R.left;
        right = rw count at R.right;
        work = zero-le;
        lengths = rw count at R.lengths;
        bytes = long;
      }

  -- the key of row r is found in row r: the walk counts its bucket, and the map gives its offset
  in_its_bucket : Words keys → (r : ℕ) → r < length keys
      → bucket_says keys b seed₁ S'.cells (key_at keys r) (smaller D (key_at keys r)) ≡ Some r
  in_its_bucket w r h =
      let x = key_at keys r in
      let offset : map_value S'.cells (length keys) seed₁ x ≡ r % b =
      A.filled.offsets.valued r h ∙ offset_is b keys r h in
      let at : r / b * b + map_value S'.cells (length keys) seed₁ x ≡ r =
      ap (λ (o : ℕ). r / b * b + o) offset ∙ row_is b r in
      rw (bucket_before b keys slim_some (slim_table w) r h)
      (bucket_row keys b seed₁ S'.cells x (r / b) (row_bucket b keys (accepted_sorted A w) r h)
      ∙ ap (λ (q : ℕ). row_says keys q x) at ∙ row_found keys x r h refl)

  -- so what is found in the bucket that the walk counts is what the table says
  pub bucket_is : Words keys → (x : ℕ) → bucket_says keys b seed₁ S'.cells x (smaller D x) ≡ row_of Some None keys x
  bucket_is w =
      rule_by_table keys (slim_table w) (λ x. bucket_says keys b seed₁ S'.cells x (smaller D x)) (in_its_bucket w)
      (λ x none. bucket_nowhere keys b seed₁ S'.cells x (smaller D x) none)

  pub slim_answers : Words keys → (bytes : List ℕ) → length keys ≤ length bytes → (x : ℕ)
      → slim_says keys bytes b seed₁ seed₃ S' x
      ≡ told (marked bytes (row_of Some None keys x)) (smaller D x) (probes_of D x) (stands_at D x (smaller D x))
  slim_answers w bytes long x =
      let P = A.passed in
      let W : Within (length keys) b = record { few = P.few; two = P.two; most = P.most } in
      told_from_walk keys b seed₁ seed₃ S' x bytes W (slim_fits bytes long)
      (stored_says D (slim_delimiters w) S'.handles S'.left S'.right S'.lengths seed₃ x slim_stored)
      ∙ ap (λ at. told (marked bytes at) (smaller D x) (probes_of D x) (stands_at D x (smaller D x))) (bucket_is w x)
