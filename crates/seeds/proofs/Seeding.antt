-- What the build of a seed says and leaves, and which refusals a table can get from it: the stores are long enough, so
-- neither 1 nor 4. Assumes nothing.
use Rattle.std.proofs.Common.{Result, Ok, Err}
use mathlib.Core.Path.{◌≡◌, refl, sym, ◌∙◌}
use mathlib.Core.List.{List}
use mathlib.Core.Logic.{◌⊎◌, inl, inr}
use Prim.Native.Nat.{ℕ, ◌+◌, ◌-◌, ◌≤◌, ◌<◌}
use borrow.Author.Count.{below_more}
use native.Mathlib.Decide.{dec_le}
use native.Mathlib.Omega.{arith}
use lib.ListN.{length}
use Rattle.refusals.specs.Numbers.{taken, refused, jammed, said_by_build}
use Rattle.refusals.specs.declared.Unbuilt.{Unbuilt}
use Rattle.refusals.specs.declared.Unbuilt.TheVariants.{Refused, Jammed}
use Rattle.refusals.proofs.Naming.{not_taken, jam_not_taken, jam_not_refused}
use Rattle.cells.specs.Cells.{cell_count}
use Rattle.tables.specs.Tables.{Table, first_fall}
use Rattle.tables.specs.Delimiters.{buckets}
use Rattle.tables.proofs.Delimiting.{buckets_le}
use Rattle.tables.proofs.Rising.{no_fall_table}
use Rattle.stores.specs.Sizes.{Fits, full_sizes}
use Rattle.stores.specs.Stores.{Stores, lent, asked, same, sizes_of}
use Rattle.stores.specs.Judged.{judged}
use Rattle.stores.specs.declared.Sizes.{Sizes}
use Rattle.stores.proofs.Judging.{falls_first, limits_pass, passed_judged}
use Rattle.stores.proofs.Limiting.{bucket_too_small, bucket_too_large}
use Rattle.verdicts.specs.Ended.{refusal, jam, accepted}
use Rattle.full.specs.Build.{full_judged, FullBuilt}
use Rattle.index.specs.Answers.{Words}
use Rattle.index.proofs.Accepted.{full_accepted, accepted_table}
use Rattle.index.proofs.Answering.{build_answers}
use Rattle.seeds.specs.Seeds.{SeedJams}
use Rattle.seeds.specs.Inner.{Refuses, bad_bucket, falling, Jams, SeedTried}

-- the last seed jams after all others did
pub last_jam : {keys : List ℕ} {b seed map size : ℕ} → seed ≡ 255 → ((s : ℕ) → s < seed → SeedJams keys b s)
    → Jams keys b seed map size
    → ((s : ℕ) → s < 255 → SeedJams keys b s) × ((map : ℕ) × Jams keys b 255 map size)
last_jam {map = map} last before J = rw (← last) (before, (map, J))

-- a table of rowcheck, with stores for 2,048 keys
module _ (keys : List ℕ) (words : Words keys) (few : length keys ≤ 2048) (b s : ℕ)
    (cells handles left right work lengths : List ℕ)
    (ec : length cells ≡ 5178) (eh : length handles ≡ 2589) (el : length left ≡ 2048) (er : length right ≡ 2048)
    (ew : length work ≡ 9274) (en : length lengths ≡ 2048) where
  abbrev S : Stores
  S = lent cells handles left right work lengths

  abbrev want : Sizes
  want = full_sizes (length keys) b

  -- the stores have their named lengths
  fits : 1 ≤ b → Fits (sizes_of S) want
  fits one =
      let n = length keys in
      let k = buckets n b in
      let fewer : k ≤ n = buckets_le n b one in
      let cells₁ : cell_count n ≤ 2589 = omega arith in
      let cells₂ : cell_count k ≤ 2589 = omega arith in
      let cells₃ : cell_count (n - 2) ≤ 2589 = omega arith in
      record {
        cells = omega arith;
        handles = omega arith;
        left = omega arith;
        right = omega arith;
        work = omega arith;
        lengths = omega arith;
        bytes = omega arith;
      }

  -- by what the build judges: 2, 3, or nothing
  judging : {A : Type 0} → ((b < 2) ⊎ (256 < b) → full_judged keys b S ≡ refused 2 0 → A)
      → (2 ≤ b → b ≤ 256 → 0 < first_fall keys → full_judged keys b S ≡ refused 3 (first_fall keys) → A)
      → (2 ≤ b → b ≤ 256 → Table keys → full_judged keys b S ≡ taken → A) → A
  unfolding judged
  judging size fall none =
      let n = length keys in
      let all : n ≤ 32768 = omega arith in
      elim (dec_le 2 b) [
        | no h ↦ size (inl (omega arith)) (bucket_too_small refused n b all (omega arith) _)
        | yes two ↦ elim (dec_le b 256) [
          | no h ↦ size (inr (omega arith)) (bucket_too_large refused n b all two (omega arith) _)
          | yes most ↦ elim (dec_le (first_fall keys) 0) [
            | no h ↦ fall two most (omega arith)
                (limits_pass keys b (sizes_of S) want (record { few = all; two = two; most = most })
                ∙ sym (falls_first keys (sizes_of S) want refl refl (omega arith)))
            | yes rises ↦
                let zero : first_fall keys ≡ 0 = omega arith in
                none two most (no_fall_table keys words zero)
                (passed_judged keys b (sizes_of S) want
                (record { few = all; two = two; most = most; rises = zero; fits = fits (omega arith) }))
          ]
        ]
      ]

  -- a build that refuses: the table is refused
  refuses : (k i : ℕ) (S' : Stores) → FullBuilt keys b (same s) S (refused k i) S' → Refuses keys b k
  refuses k i S' (refusal k' i' j e c) =
      judging (λ o t. bad_bucket o (cc)) (λ two most h t. falling two most h (cc))
      (λ two most T t. not_taken k' i' j t)
  refuses k i S' (jam map size j F e c) = jam_not_refused map size k i e refl
  refuses k i S' (accepted j N e F) = not_taken k i refl e

  -- one with a jam: nothing else is refused
  jams : (map size : ℕ) (S' : Stores) → FullBuilt keys b (same s) S (jammed map size) S' → Jams keys b s map size
  jams map size S' (refusal k i j e c) = jam_not_refused map size k i refl e
  jams map size S' (jam map' size' j F e c) =
      let one : map ≡ map' = cc in
      let all : size ≡ size' = cc in
      judging (λ o t. not_taken 2 0 t j) (λ two most h t. not_taken 3 (first_fall keys) t j)
      (λ two most T t. record { two = two; most = most; table = T; first = rw (one, all) F })
  jams map size S' (accepted j N e F) = jam_not_taken map size refl e

  pub tried : (said : Result (Unit {0}) Unbuilt) (c h l r w n : List ℕ)
      → FullBuilt keys b (same s) S (said_by_build said) (lent c h l r w n) → SeedTried keys b s (asked c h l r n) said
  unfolding SeedTried
  tried (Ok done) c h l r w n B =
      let A = full_accepted B in
      let P = A.passed in
      let both = build_answers keys b (same s) S (lent c h l r w n) words B in
      record {
        two = P.two;
        most = P.most;
        table = accepted_table A words;
        taken = A.jamless;
        answers = record { calls = both.calls; counts = both.counts };
      }
  tried (Err (Refused f)) c h l r w n B = refuses _ _ _ B
  tried (Err (Jammed j)) c h l r w n B = jams j.map j.size _ B

-- one more seed that jams
pub next_jam : (keys : List ℕ) (b seed map size : ℕ) → ((s : ℕ) → s < seed → SeedJams keys b s) → Jams keys b seed map size
    → (s : ℕ) → s < seed + 1 → SeedJams keys b s
next_jam keys b seed map size below J = below_more _ seed below (map, (size, J.first))
