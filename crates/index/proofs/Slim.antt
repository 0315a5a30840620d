-- The customer's demands on the slim profile, proved. Assumes nothing.
use mathlib.Core.Path.{◌≡◌, refl}
use mathlib.Core.List.{List}
use mathlib.Core.Logic.Iff
use mathlib.Core.Logic.{inl, inr, ⊎_elim}
use Prim.Native.Nat.{ℕ, ◌<◌}
use native.Mathlib.Omega.{arith}
use lib.ListN.{length}
use Rattle.std.specs.Prelude.{Some, None}
use Rattle.tables.specs.Tables.{smaller}
use Rattle.tables.specs.Delimiters.{delimiters}
use Rattle.stores.specs.Stores.{sizes_of}
use Rattle.stores.proofs.Judging.{one_to_four}
use Rattle.items.specs.Items.{handle_items}
use Rattle.jams.specs.Jam.{Jamless, LargestJam}
use Rattle.jams.proofs.Jams.{jamless_not_jammed}
use Rattle.jams.proofs.Largest.{largest_is_there, largest_jammed, largest_some}
use Rattle.outcomes.specs.Outcomes.{marked}
use Rattle.places.specs.Said.{stands_at}
use Rattle.neighbour.proofs.Asking.{walk_says_six}
use Rattle.slimstores.specs.Sizes.{slim_build_sizes}
use Rattle.slimask.proofs.Asking.{slim_told}
use Rattle.slimask.proofs.Answers.{bucket_said}
use Rattle.slim.specs.Build.{SlimJam, in₁, in₃}
use Rattle.slim.proofs.Jamming.{first_jam_one, jam_not_none}
use Rattle.index.specs.Answers.{row_of, probes_of}
use Rattle.index.specs.Slim.{SlimRefusesJams, SlimSizeIsTheLargest, SlimBuildAnswers, SlimTells, SlimAgrees}
use Rattle.index.specs.Slim.{SlimRowsAreSorted, BucketIsBefore, SlimOneKeyForEachRow, SlimWithdrawnKeepsItsRow}
use Rattle.index.specs.Slim.{SlimPlaceIsKept, SlimMonotone, SlimSearchIsExact, SlimWalksAgree, SlimSixAtMost}
use Rattle.index.specs.Slim.{SlimLengthsAreTrue, SlimWalkIsUnchanged}
use Rattle.index.proofs.Answering.{row_smaller, calls_answer}
use Rattle.index.proofs.Telling.{by_its_byte, table_tells, in_order}
use Rattle.index.proofs.Jamming.{not_jammed_jamless, named_jams, names_iff, taken_iff, five_iff}
use Rattle.index.proofs.Searching.{stored_true, stored_unchanged, stored_agrees, searched}
use Rattle.index.proofs.Buckets.{bucket_before}
use Rattle.index.proofs.SlimAnswering.{says_one, told_again, slim_at, slim_some, slim_table, slim_delimiters}
use Rattle.index.proofs.SlimAnswering.{slim_stored, slim_answers}

-- by the map that has the first jam
module _ (keys : List ℕ) (b seed₁ seed₃ : ℕ) where
  by_map : {A : Type 0} {m p : ℕ} → SlimJam keys b seed₁ seed₃ m p → (m ≡ 1 → LargestJam seed₁ keys p → A)
      → (m ≡ 3 → Jamless seed₁ keys → LargestJam seed₃ (handle_items (delimiters b keys)) p → A) → A
  by_map (in₁ L) f g = f refl L
  by_map (in₃ N L) f g = g refl N L

  at_one : {m p : ℕ} → m ≡ 1 → SlimJam keys b seed₁ seed₃ m p → LargestJam seed₁ keys p
  at_one e J = by_map J (λ f L. L) (λ f N L. absurd (omega arith))

  at_three : {m p : ℕ} → m ≡ 3 → SlimJam keys b seed₁ seed₃ m p
      → Jamless seed₁ keys × LargestJam seed₃ (handle_items (delimiters b keys)) p
  at_three e J = by_map J (λ f L. absurd (omega arith)) (λ f N L. (N, L))

  never_two : {m p : ℕ} → m ≡ 2 → SlimJam keys b seed₁ seed₃ m p → ⊥
  never_two e J = by_map J (λ f L. omega arith) (λ f N L. omega arith)

  -- it is above 0
  some_jam : (m p : ℕ) → SlimJam keys b seed₁ seed₃ m p → 0 < p
  some_jam m p J =
      by_map J (λ f. largest_some seed₁ keys) (λ f N. largest_some seed₃ (handle_items (delimiters b keys)))

-- demand 1
pub slim_refuses_jams : SlimRefusesJams
slim_refuses_jams keys b seed₁ seed₃ S said S' B = (
  (λ f. never_two keys b seed₁ seed₃ refl (named_jams B 2 f)),
  (λ passed.
      let named = names_iff B passed (λ m p m' p'. first_jam_one) (λ m p. jam_not_none) in
      let three = handle_items (delimiters b keys) in (
        Iff.trans (named 1) (
          (λ K. largest_jammed seed₁ keys (at_one keys b seed₁ seed₃ refl K.1)),
          (λ J. let L = largest_is_there seed₁ keys J in (L.0, in₁ L.1)),
        ),
        Iff.trans (named 3) (
          (λ K. let P = at_three keys b seed₁ seed₃ refl K.1 in
              (jamless_not_jammed seed₁ keys P.0, largest_jammed seed₃ three P.1)),
          (λ J. let L = largest_is_there seed₃ three J.1 in
              (L.0, in₃ (not_jammed_jamless seed₁ keys J.0) L.1)),
        ),
        Iff.trans (taken_iff B passed (λ m p. jam_not_none)) (
          (λ N. (jamless_not_jammed seed₁ keys N.one, jamless_not_jammed seed₃ three N.three)),
          (λ J. record {
            one = not_jammed_jamless seed₁ keys J.0;
            three = not_jammed_jamless seed₃ three J.1;
          }),
        ),
      )),
)

-- request Five
pub slim_size_is_the_largest : SlimSizeIsTheLargest
slim_size_is_the_largest keys b seed₁ seed₃ S said S' B =
    let five =
    five_iff B (one_to_four keys b (sizes_of S) (slim_build_sizes (length keys) b)) (some_jam keys b seed₁ seed₃) in (
      (λ f. at_one keys b seed₁ seed₃ refl (named_jams B 1 f)),
      (λ f. (at_three keys b seed₁ seed₃ refl (named_jams B 3 f)).1),
      Iff.trans five.0 (
        (λ f. by_map keys b seed₁ seed₃ (named_jams B f.0 f.1) (λ e L. inl (rw e at f.1))
            (λ e N L. inr (rw e at f.1))),
        ⊎_elim (λ f. (1, f)) (λ f. (3, f)),
      ),
      five.1,
    )

-- demand 2
pub slim_build_answers : SlimBuildAnswers
slim_build_answers keys b seed₁ seed₃ S S' w B = slim_answers B w

pub slim_tells : SlimTells
slim_tells keys b seed₁ seed₃ S S' w B bytes long x h =
    table_tells keys bytes (slim_table B w) x (says_one (slim_answers B w bytes long x))

pub slim_agrees : SlimAgrees
slim_agrees keys w b s S S' B c seed₁ seed₃ R R' C bytes long x =
    let D = delimiters c keys in (
      marked bytes (row_of Some None keys x),
      (
        calls_answer B w bytes long x,
        (smaller D x, (probes_of D x, (stands_at D x (smaller D x), slim_answers C w bytes long x))),
      ),
    )

pub slim_rows_are_sorted : SlimRowsAreSorted
slim_rows_are_sorted keys b seed₁ seed₃ S S' w B = row_smaller keys (slim_table B w)

pub bucket_is_before : BucketIsBefore
bucket_is_before keys b seed₁ seed₃ S S' w B = bucket_before b keys (slim_some B) (slim_table B w)

pub slim_one_key_for_each_row : SlimOneKeyForEachRow
slim_one_key_for_each_row keys bytes b seed₁ seed₃ S x r e =
    let F = slim_at keys b seed₁ seed₃ S x bytes r e in bucket_said keys b seed₁ S.cells x F.0 r F.1

pub slim_withdrawn_keeps_its_row : SlimWithdrawnKeepsItsRow
slim_withdrawn_keeps_its_row keys bytes bytes' b seed₁ seed₃ S x r e long =
    let F = slim_at keys b seed₁ seed₃ S x bytes r e in by_its_byte bytes' (F.2 bytes' long) r F.1

pub slim_place_is_kept : SlimPlaceIsKept
slim_place_is_kept keys bytes bytes' b seed₁ seed₃ S x before probes stands e long =
    (_, told_again keys b seed₁ seed₃ S x bytes bytes' e.1 long)

pub slim_monotone : SlimMonotone
slim_monotone keys b seed₁ seed₃ S S' w B bytes bytes' x y i j e f =
    in_order keys (slim_table B w) x y i j (slim_one_key_for_each_row keys bytes b seed₁ seed₃ S' x i e)
    (slim_one_key_for_each_row keys bytes' b seed₁ seed₃ S' y j f)

-- demand 3
pub slim_search_is_exact : SlimSearchIsExact
slim_search_is_exact keys b seed₁ seed₃ S S' w two B bytes long x h =
    searched (delimiters b keys) seed₃ S' (slim_stored B) (slim_delimiters B w) x
    (marked bytes (row_of Some None keys x), slim_answers B w bytes long x)

pub slim_walks_agree : SlimWalksAgree
slim_walks_agree keys b seed₁ seed₃ S S' w B =
    stored_agrees (delimiters b keys) seed₃ S' (slim_stored B) (slim_delimiters B w)

pub slim_six_at_most : SlimSixAtMost
slim_six_at_most keys bytes b seed₁ seed₃ S x before probes stands e =
    walk_says_six before probes stands (delimiters b keys) S.handles S.left S.right S.lengths seed₃ x
    (slim_told keys bytes b seed₁ seed₃ S x e.0 before probes stands e.1).2

-- request Six
pub slim_lengths_are_true : SlimLengthsAreTrue
slim_lengths_are_true keys b seed₁ seed₃ S S' B = stored_true (delimiters b keys) seed₃ S' (slim_stored B)

pub slim_walk_is_unchanged : SlimWalkIsUnchanged
slim_walk_is_unchanged keys b seed₁ seed₃ S S' B = stored_unchanged (delimiters b keys) seed₃ S' (slim_stored B)
