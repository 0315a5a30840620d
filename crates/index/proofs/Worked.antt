-- The worked cases of document 01, proved together: by computation, and over every store of an accepted build by the
-- walk that needs no stores. Assumes nothing.
use mathlib.Core.Path.{◌≡◌, refl, ap}
use mathlib.Core.Bool.{true}
use mathlib.Core.List.{List, [], ◌∷◌}
use Prim.Native.Nat.{ℕ, ◌≤◌}
use native.Mathlib.Omega.{arith}
use lib.Count.{count_leading_zeros}
use lib.ListN.{length, get_or}
use Rattle.refusals.specs.Numbers.{taken}
use Rattle.words.specs.Fat.{fattest_from}
use Rattle.words.specs.Mix.{xorshift, mix_of}
use Rattle.cells.specs.Cells.{cell_of}
use Rattle.tables.specs.Tables.{key_at, Table, listed, count, smaller, shared_with, shared_by_all}
use Rattle.tables.specs.Delimiters.{delimiters}
use Rattle.tables.specs.Buckets.{bucket_length}
use Rattle.tables.proofs.Delimiting.{length_delimiters}
use Rattle.tables.proofs.Rising.{table_no_fall}
use Rattle.stores.specs.Sizes.{Fits, full_sizes}
use Rattle.stores.specs.Stores.{Stores, Seeds, seeds, sizes_of}
use Rattle.stores.specs.Judged.{judged}
use Rattle.stores.specs.declared.Sizes.{Sizes}
use Rattle.stores.proofs.Judging.{passed_judged}
use Rattle.splits.specs.Splits.{left, right, root_to, parent_len, handle_len}
use Rattle.splits.specs.Splits.{handle_item, handle_split, left_entry, right_entry}
use Rattle.items.specs.Items.{prefix_items, handle_items}
use Rattle.items.proofs.Handling.{length_handles}
use Rattle.jams.specs.Jam.{touch, size_of, Jamless}
use Rattle.jams.specs.Inner.Peel.{touchb, live}
use Rattle.jams.proofs.Jams.{all_peeled}
use Rattle.jams.proofs.Ordering.{all_below, orderb, order_test}
use Rattle.jams.proofs.Jams.{one_item_never_jams}
use Rattle.walks.specs.Walk.{Walk, accepted, descend, decide, walk, path_to, path_walk}
use Rattle.walks.proofs.Testing.{tableb, table_by}
use Rattle.neighbour.specs.Ask.{stands_at}
use Rattle.full.specs.Build.{NoJams}
use Rattle.slimstores.specs.Sizes.{slim_build_sizes}
use Rattle.slim.specs.Build.{SlimJamless}
use Rattle.index.specs.Answers.{probes_of}
use Rattle.index.specs.Worked.{eleven, three, Gives, ProbesAt, TakesSeeds, SeedsAreTaken, worked, AllHold}
use Rattle.index.specs.Slim.{SlimTakesSeeds, SlimSeedsAreTaken}
use Rattle.index.proofs.Answering.{counts_answer}
use Rattle.index.proofs.Demands.{build_refuses_jams, walks_agree}
use Rattle.index.proofs.Slim.{slim_refuses_jams}

-- what an ask says over every store of an accepted build
gives : (T : List ℕ) → Table T → (x : ℕ) → Gives T x (smaller T x) (probes_of T x) (stands_at T x (smaller T x))
gives T t x b s S S' B = counts_answer B t.fits x

probes_at : (T : List ℕ) → Table T → (x : ℕ) → ProbesAt T x (path_walk T x).probed
probes_at T t x b s S S' B = ap (λ (v : Walk). v.probed) (walks_agree T b s S S' t.fits B x)

-- a table within its limits and stores of the named lengths are not refused
none_refused : (T : List ℕ) (b : ℕ) → Table T → length T ≤ 32768 → 2 ≤ b → b ≤ 256 → (S : Stores) (w : Sizes)
    → Fits (sizes_of S) w → judged T b (sizes_of S) w ≡ taken
none_refused T b t few two most S w fits =
    passed_judged T b (sizes_of S) w
    (record { few = few; two = two; most = most; rises = table_no_fall T t; fits = fits })

-- without a jam the build takes the seeds
takes : (T : List ℕ) (b : ℕ) (s : Seeds) → Table T → length T ≤ 32768 → 2 ≤ b → b ≤ 256 → NoJams T b s
    → TakesSeeds T b s
takes T b s t few two most N S said S' fits B =
    (build_refuses_jams T b s S said S' B (none_refused T b t few two most S (full_sizes (length T) b) fits)).3.1
    ((λ J. N.one J.0 J.1), (λ J. N.two J.0 J.1), (λ J. N.three J.0 J.1))

three_table : Table three
unfolding tableb
three_table = table_by three refl

eleven_table : Table eleven
unfolding tableb
eleven_table = table_by eleven refl

-- the items of maps 2 and 3 of the eleven keys, and of map 2 of the three, worked out
eleven_prefixes : List ℕ
eleven_prefixes = 2305843009213693952 ∷ 2774217370460225536 ∷ 2787728169342337024 ∷ 4611686018427387904 ∷ []

eleven_handles : List ℕ
eleven_handles =
    2305843009213693952 ∷ 2702159776422297600 ∷ 2882303761517117440 ∷ 2756202971950743552 ∷ 2774217370460225536
    ∷ 2783224569714966528 ∷ 2785476369528651776 ∷ 2787728169342337024 ∷ 2810246167479189504 ∷ []

eleven_prefixes_are : prefix_items 3 eleven ≡ eleven_prefixes
unfolding eleven_prefixes prefix_items bucket_length shared_with shared_by_all count_leading_zeros listed
eleven_prefixes_are = refl

eleven_handles_are : handle_items eleven ≡ eleven_handles
unfolding eleven_handles handle_items handle_item handle_split count_leading_zeros fattest_from left right root_to parent_len handle_len listed count
eleven_handles_are = refl

three_prefixes : prefix_items 2 three ≡ 3 ∷ 9 ∷ []
unfolding prefix_items bucket_length shared_with shared_by_all count_leading_zeros listed
three_prefixes = refl

-- items that are peeled in this order, each alone at one of its cells
abbrev at : List ℕ → ℕ → ℕ
at xs p = get_or xs p 0

peeled : (seed : ℕ) (items order cells : List ℕ)
    → orderb (touch seed items) (length items) (at order) (at cells) ≡ true → Jamless seed items
peeled seed items order cells h =
    all_peeled (touch seed items) (length items) (at order) (at cells) (length items)
    (order_test (touch seed items) (length items) (at order) (at cells) h) refl

-- so they are with seed 0
eleven_jamless : NoJams eleven 3 (seeds 0 0 0)
unfolding eleven_prefixes eleven_handles all_below touchb live size_of cell_of mix_of xorshift
eleven_jamless = record {
  one =
      peeled 0 eleven (0 ∷ 1 ∷ 3 ∷ 2 ∷ 6 ∷ 5 ∷ 7 ∷ 8 ∷ 4 ∷ 9 ∷ 10 ∷ []) (11 ∷ 1 ∷ 10 ∷ 3 ∷ 16 ∷ 2 ∷ 7 ∷ 5 ∷ 18 ∷ 0 ∷ 6 ∷ []) refl;
  two = rw eleven_prefixes_are (peeled 0 eleven_prefixes (0 ∷ 1 ∷ 2 ∷ 3 ∷ []) (6 ∷ 1 ∷ 0 ∷ 3 ∷ []) refl);
  three =
      rw eleven_handles_are
      (peeled 0 eleven_handles (1 ∷ 3 ∷ 2 ∷ 0 ∷ 4 ∷ 6 ∷ 7 ∷ 5 ∷ 8 ∷ []) (14 ∷ 0 ∷ 16 ∷ 10 ∷ 5 ∷ 1 ∷ 4 ∷ 9 ∷ 3 ∷ []) refl);
}

three_jamless : (seed : ℕ) → NoJams three 2 (seeds 0 0 seed)
unfolding all_below touchb live size_of cell_of mix_of xorshift
three_jamless seed = record {
  one = peeled 0 three (0 ∷ 1 ∷ 2 ∷ []) (9 ∷ 0 ∷ 3 ∷ []) refl;
  two = rw three_prefixes (peeled 0 (3 ∷ 9 ∷ []) (0 ∷ 1 ∷ []) (3 ∷ 2 ∷ []) refl);
  three = one_item_never_jams seed (handle_items three) (omega (arith, length_handles three));
}

pub seeds_are_taken : SeedsAreTaken
seeds_are_taken = (
  takes eleven 3 (seeds 0 0 0) eleven_table (omega arith) (omega arith) (omega arith) eleven_jamless,
  (λ seed. takes three 2 (seeds 0 0 seed) three_table (omega arith) (omega arith) (omega arith) (three_jamless seed)),
)

-- and the slim build takes both: of the delimiters of the eleven keys there are two handles, and of those of the three
-- none
slim_handles : List ℕ
slim_handles = 2882303761517117440 ∷ 2774217370460225536 ∷ []

slim_handles_are : handle_items (delimiters 3 eleven) ≡ slim_handles
unfolding slim_handles delimiters handle_items handle_item handle_split count_leading_zeros fattest_from left right root_to parent_len handle_len listed count
slim_handles_are = refl

slim_takes : (T : List ℕ) (b seed₁ seed₃ : ℕ) → Table T → length T ≤ 32768 → 2 ≤ b → b ≤ 256
    → SlimJamless T b seed₁ seed₃ → SlimTakesSeeds T b seed₁ seed₃
slim_takes T b seed₁ seed₃ t few two most N S said S' fits B =
    ((slim_refuses_jams T b seed₁ seed₃ S said S' B).1
    (none_refused T b t few two most S (slim_build_sizes (length T) b) fits)
    ).2.1
    ((λ J. N.one J.0 J.1), (λ J. N.three J.0 J.1))

eleven_slim : SlimJamless eleven 3 0 0
unfolding slim_handles all_below touchb live size_of cell_of mix_of xorshift
eleven_slim = record {
  one = eleven_jamless.one;
  three = rw slim_handles_are (peeled 0 slim_handles (0 ∷ 1 ∷ []) (0 ∷ 2 ∷ []) refl);
}

three_slim : (seed : ℕ) → SlimJamless three 2 0 seed
three_slim seed = record {
  one = (three_jamless seed).one;
  three =
      one_item_never_jams seed (handle_items (delimiters 2 three))
      (omega (arith, length_handles (delimiters 2 three), length_delimiters 2 three));
}

pub slim_seeds_are_taken : SlimSeedsAreTaken
slim_seeds_are_taken = (
  slim_takes eleven 3 0 0 eleven_table (omega arith) (omega arith) (omega arith) eleven_slim,
  (λ seed. slim_takes three 2 0 seed three_table (omega arith) (omega arith) (omega arith) (three_slim seed)),
)

of_three : (x : ℕ) → Gives three x (smaller three x) (probes_of three x) (stands_at three x (smaller three x))
of_three = gives three three_table

pub worked_cases : AllHold worked
unfolding worked count_leading_zeros fattest_from count shared_with shared_by_all bucket_length left right root_to parent_len handle_len left_entry right_entry accepted descend decide walk path_to path_walk
worked_cases = (
  refl,
  (
    refl,
    (
      refl,
      (
        refl,
        (
          (refl, refl),
          (
            (probes_at eleven eleven_table (key_at eleven 6), gives eleven eleven_table (key_at eleven 6)),
            (of_three 3, (of_three 9, (of_three 16, (of_three 0, tt)))),
          ),
        ),
      ),
    ),
  ),
)
