-- The customer's demands, proved, but for demand 2 (Telling). Assumes nothing.
use mathlib.Core.Path.{◌≡◌, refl}
use mathlib.Core.List.{List}
use mathlib.Core.Logic.Iff
use mathlib.Core.Logic.{inl, inr, ⊎_elim}
use Prim.Native.Nat.{ℕ, ◌<◌}
use native.Mathlib.Omega.{arith}
use lib.ListN.{length}
use Rattle.stores.specs.Sizes.{full_sizes}
use Rattle.stores.specs.Stores.{Seeds, sizes_of}
use Rattle.stores.proofs.Judging.{one_to_four}
use Rattle.items.specs.Items.{prefix_items, handle_items}
use Rattle.jams.specs.Jam.{Jamless, LargestJam}
use Rattle.jams.proofs.Jams.{jamless_not_jammed}
use Rattle.jams.proofs.Largest.{largest_is_there, largest_jammed, largest_some}
use Rattle.neighbour.proofs.Asking.{ask_six}
use Rattle.full.specs.Build.{FirstJam, in₁, in₂, in₃}
use Rattle.full.proofs.Jamming.{first_jam_one, jam_not_none}
use Rattle.index.specs.Demands.{BuildRefusesJams, SizeIsTheLargest, SearchIsExact, WalksAgree, SixAtMost}
use Rattle.index.specs.Demands.{LengthsAreTrue, WalkIsUnchanged}
use Rattle.index.proofs.Jamming.{not_jammed_jamless, named_jams, names_iff, taken_iff, five_iff}
use Rattle.index.proofs.Accepted.{full_accepted, accepted_table, accepted_stored}
use Rattle.index.proofs.Searching.{stored_true, stored_unchanged, stored_agrees, searched}
use Rattle.index.proofs.Answering.{counts_answer}

-- by the map that has the first jam
module _ (keys : List ℕ) (b : ℕ) (s : Seeds) where
  by_map : {A : Type 0} {m p : ℕ} → FirstJam keys b s m p → (m ≡ 1 → LargestJam s.one keys p → A)
      → (m ≡ 2 → Jamless s.one keys → LargestJam s.two (prefix_items b keys) p → A)
      → (m ≡ 3 → Jamless s.one keys → Jamless s.two (prefix_items b keys)
      → LargestJam s.three (handle_items keys) p → A) → A
  by_map (in₁ L) f g h = f refl L
  by_map (in₂ N L) f g h = g refl N L
  by_map (in₃ N M L) f g h = h refl N M L

  at_one : {m p : ℕ} → m ≡ 1 → FirstJam keys b s m p → LargestJam s.one keys p
  at_one e J = by_map J (λ f L. L) (λ f N L. absurd (omega arith)) (λ f N M L. absurd (omega arith))

  at_two : {m p : ℕ} → m ≡ 2 → FirstJam keys b s m p
      → Jamless s.one keys × LargestJam s.two (prefix_items b keys) p
  at_two e J = by_map J (λ f L. absurd (omega arith)) (λ f N L. (N, L)) (λ f N M L. absurd (omega arith))

  at_three : {m p : ℕ} → m ≡ 3 → FirstJam keys b s m p
      → Jamless s.one keys × Jamless s.two (prefix_items b keys) × LargestJam s.three (handle_items keys) p
  at_three e J = by_map J (λ f L. absurd (omega arith)) (λ f N L. absurd (omega arith)) (λ f N M L. (N, M, L))

  -- it is above 0
  some_jam : (m p : ℕ) → FirstJam keys b s m p → 0 < p
  some_jam m p J =
      by_map J (λ f. largest_some s.one keys) (λ f N. largest_some s.two (prefix_items b keys))
      (λ f N M. largest_some s.three (handle_items keys))

-- demand 1
pub build_refuses_jams : BuildRefusesJams
build_refuses_jams keys b s S said S' B passed =
    let named = names_iff B passed (λ m p m' p'. first_jam_one) (λ m p. jam_not_none) in
    let two = prefix_items b keys in
    let three = handle_items keys in (
      Iff.trans (named 1) (
        (λ K. largest_jammed s.one keys (at_one keys b s refl K.1)),
        (λ J. let L = largest_is_there s.one keys J in (L.0, in₁ L.1)),
      ),
      Iff.trans (named 2) (
        (λ K. let P = at_two keys b s refl K.1 in
            (jamless_not_jammed s.one keys P.0, largest_jammed s.two two P.1)),
        (λ J. let L = largest_is_there s.two two J.1 in
            (L.0, in₂ (not_jammed_jamless s.one keys J.0) L.1)),
      ),
      Iff.trans (named 3) (
        (λ K. let P = at_three keys b s refl K.1 in (
          jamless_not_jammed s.one keys P.0,
          jamless_not_jammed s.two two P.1,
          largest_jammed s.three three P.2,
        )),
        (λ J. let L = largest_is_there s.three three J.2 in
            (L.0, in₃ (not_jammed_jamless s.one keys J.0) (not_jammed_jamless s.two two J.1) L.1)),
      ),
      Iff.trans (taken_iff B passed (λ m p. jam_not_none)) (
        (λ N. (
          jamless_not_jammed s.one keys N.one,
          jamless_not_jammed s.two two N.two,
          jamless_not_jammed s.three three N.three,
        )),
        (λ J. record {
          one = not_jammed_jamless s.one keys J.0;
          two = not_jammed_jamless s.two two J.1;
          three = not_jammed_jamless s.three three J.2;
        }),
      ),
    )

-- request Five
pub size_is_the_largest : SizeIsTheLargest
size_is_the_largest keys b s S said S' B =
    let five = five_iff B (one_to_four keys b (sizes_of S) (full_sizes (length keys) b)) (some_jam keys b s) in (
      (λ f. at_one keys b s refl (named_jams B 1 f)),
      (λ f. (at_two keys b s refl (named_jams B 2 f)).1),
      (λ f. (at_three keys b s refl (named_jams B 3 f)).2),
      Iff.trans five.0 (
        (λ f. by_map keys b s (named_jams B f.0 f.1) (λ e L. inl (rw e at f.1))
            (λ e N L. inr (inl (rw e at f.1))) (λ e N M L. inr (inr (rw e at f.1)))),
        ⊎_elim (λ f. (1, f)) (⊎_elim (λ f. (2, f)) (λ f. (3, f))),
      ),
      five.1,
    )

-- request Six
pub lengths_are_true : LengthsAreTrue
lengths_are_true keys b s S S' B = stored_true keys s.three S' (accepted_stored (full_accepted B))

pub walk_is_unchanged : WalkIsUnchanged
walk_is_unchanged keys b s S S' B = stored_unchanged keys s.three S' (accepted_stored (full_accepted B))

-- demand 3
pub search_is_exact : SearchIsExact
search_is_exact keys b s S S' w two B x h =
    let A = full_accepted B in
    searched keys s.three S' (accepted_stored A) (accepted_table A w) x (counts_answer B w x)

pub walks_agree : WalksAgree
walks_agree keys b s S S' w B =
    let A = full_accepted B in stored_agrees keys s.three S' (accepted_stored A) (accepted_table A w)

pub six_at_most : SixAtMost
six_at_most keys seed S x before probes stands e =
    ask_six before probes stands keys S.handles S.left S.right S.lengths seed x e
