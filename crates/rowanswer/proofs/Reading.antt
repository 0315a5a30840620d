-- From what was read to what rowcheck prints of its input. Assumes nothing.
use mathlib.Core.Path.{◌≡◌, refl, sym, ap, ◌∙◌}
use mathlib.Core.List.{List, ◌++◌}
use Prim.Native.Nat.{ℕ, ◌≤◌, ◌<◌, min}
use borrow.Author.Count.{below_more}
use native.Mathlib.Omega.{arith}
use lib.ListN.{length, take, drop, length-append}
use lib.Seq.{take_at, length-take-le}
use Rattle.refusals.specs.Numbers.{number}
use Rattle.refusals.specs.declared.Refusal.{Refusal}
use Rattle.rowinput.specs.Input.{Fine, InputHeld, ReadsInput}
use Rattle.std.specs.Prelude.{Err}
use Rattle.rowoutput.specs.Output.{refused_text, jam_text}
use Rattle.seeds.specs.Seeds.{SeedJams}
use Rattle.seeds.specs.Inner.{Refuses, bad_bucket, falling, Jams}
use Rattle.rowanswer.specs.Answers.{TableText, bucket_size, falls, jams, RowcheckText, bad_text, good_text}
use Rattle.rowanswer.specs.Inner.{ShownWhereRoom, ShowsWhereRoom}

-- what a slice holds at its start
module _ (n : ℕ) (ks keys keys' : List ℕ) (count : n ≡ length ks) (hold : keys' ≡ ks ++ drop n keys) where
  pub start_is : take n keys' ≡ ks
  start_is = ap (take n) hold ∙ take_at ks (drop n keys) n (sym count)

  pub start_within : n ≤ length keys'
  start_within = omega (arith, ap length hold, length-append ks (drop n keys))

  pub start_long : n ≡ length (take n keys')
  start_long = sym (length-take-le n keys' start_within)

-- limits within others
fine_within : {K A K' A' b : ℕ} {ks qs : List ℕ} → K ≤ K' → A ≤ A' → Fine K A b ks qs → Fine K' A' b ks qs
fine_within h l F = record {
  bucket = F.bucket;
  key_count = omega (arith, F.key_count);
  key_words = F.key_words;
  ask_count = omega (arith, F.ask_count);
  ask_words = F.ask_words;
}

-- an input that was taken: its keys are few, and what is printed of the table is printed of it
module _ {s keys asks keys' asks' : List ℕ} {b n m : ℕ}
    (H : InputHeld (min (length keys) 2048) (min (length asks) 512) s b n m keys asks keys' asks') where
  pub keys_few : length (take n keys') ≤ 2048
  keys_few = rw (start_is n H.ks keys keys' H.key_count H.keys_hold) (omega (arith, H.fine.key_count))

  pub read_shows : {before : List ℕ} {r : ℕ} {after : List ℕ}
      → ShowsWhereRoom (TableText (take n keys') b (take m asks')) before r after
      → ShowsWhereRoom (RowcheckText s) before r after
  read_shows S =
      let ks = start_is n H.ks keys keys' H.key_count H.keys_hold in
      let qs = start_is m H.qs asks asks' H.ask_count H.asks_hold in
      let fine : Fine 2048 512 b H.ks H.qs = fine_within (omega arith) (omega arith) H.fine in
      (S.0, (good_text b H.ks H.qs fine H.text (rw (ks, qs) at S.1.0), S.1.1))

-- what was refused is no input, since there was room for all that is allowed
pub refused_shows : (s keys asks keys' asks' : List ℕ) (f : Refusal) → ReadsInput s keys asks keys' asks' (Err f)
    → length keys ≡ 2048 → length asks ≡ 512
    → {before : List ℕ} {count : ℕ} {after : List ℕ} → ShownWhereRoom (refused_text (number f)) before count after
    → ShowsWhereRoom (RowcheckText s) before count after
unfolding ReadsInput
refused_shows s keys asks keys' asks' f R k a S =
    let none = bad_text (λ b ks qs F t. R.1 b ks qs (fine_within (omega arith) (omega arith) F) t) refl in
    (refused_text 8, (none, rw R.0 at S))

-- the text of a table's refusal, and of a jam under the last seed after jams under all others
pub refuses_text : {keys : List ℕ} {b k : ℕ} (asks : List ℕ) → Refuses keys b k → TableText keys b asks (refused_text k)
refuses_text asks (bad_bucket o e) = bucket_size o (rw e)
refuses_text asks (falling two most h e) = falls two most h (rw e)

pub jam_text_told : {keys : List ℕ} {b size : ℕ} (asks : List ℕ) → ((s : ℕ) → s < 255 → SeedJams keys b s)
    → (map : ℕ) × Jams keys b 255 map size → TableText keys b asks (jam_text size)
jam_text_told {size = size} asks before (map, J) =
    jams J.two J.most J.table (below_more _ 255 before (map, (size, J.first))) map size J.first refl
