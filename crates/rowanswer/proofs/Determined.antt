-- What rowcheck's statement determines: one text for each input, one result and one memory. Assumes nothing.
use mathlib.Core.Path.{◌≡◌, sym, ap, ◌∙◌}
use mathlib.Core.List.{List, ◌++◌}
use mathlib.Core.Logic.{◌⊎◌, ⊎_elim}
use Prim.Native.Nat.{ℕ, ◌≤◌, ◌<◌}
use native.Mathlib.Omega.{arith}
use lib.ListN.{length, drop}
use Rattle.tables.specs.Tables.{Table, first_fall}
use Rattle.tables.proofs.Rising.{table_no_fall}
use Rattle.full.proofs.Jamming.{first_jam_one, jam_not_none}
use Rattle.rowinput.proofs.Determined.{one_reading}
use Rattle.rowoutput.specs.Output.{jam_text}
use Rattle.seeds.specs.Seeds.{SeedJams, SeedTaken}
use Rattle.rowanswer.specs.Answers.{TableText, bucket_size, falls, jams, answers}
use Rattle.rowanswer.specs.Answers.{bad_text, good_text}
use Rattle.rowanswer.specs.Determined.{OneText, AnswerDetermined}

good_bucket : (b : ℕ) → (b < 2) ⊎ (256 < b) → 2 ≤ b → b ≤ 256 → ⊥
good_bucket b o h l = ⊎_elim (λ low. omega arith) (λ high. omega arith) o

no_fall : (keys : List ℕ) → 0 < first_fall keys → Table keys → ⊥
no_fall keys h t = omega (arith, table_no_fall keys t)

jams_or_taken : (keys : List ℕ) (b s : ℕ) → SeedJams keys b s → SeedTaken keys b s → ⊥
jams_or_taken keys b s J T = jam_not_none J.1.1 T

one_table_text : (keys : List ℕ) (b : ℕ) (asks t t' : List ℕ) → TableText keys b asks t
    → TableText keys b asks t' → t ≡ t'
one_table_text keys b asks t t' (bucket_size o e) (bucket_size o' e') = e ∙ sym e'
one_table_text keys b asks t t' (bucket_size o e) (falls h l f e') = absurd (good_bucket b o h l)
one_table_text keys b asks t t' (bucket_size o e) (jams h l T j m p J e') = absurd (good_bucket b o h l)
one_table_text keys b asks t t' (bucket_size o e) (answers h l T s u v e') = absurd (good_bucket b o h l)
one_table_text keys b asks t t' (falls h l f e) (bucket_size o e') = absurd (good_bucket b o h l)
one_table_text keys b asks t t' (falls h l f e) (falls h' l' f' e') = e ∙ sym e'
one_table_text keys b asks t t' (falls h l f e) (jams h' l' T j m p J e') = absurd (no_fall keys f T)
one_table_text keys b asks t t' (falls h l f e) (answers h' l' T s u v e') = absurd (no_fall keys f T)
one_table_text keys b asks t t' (jams h l T j m p J e) (bucket_size o e') = absurd (good_bucket b o h l)
one_table_text keys b asks t t' (jams h l T j m p J e) (falls h' l' f e') = absurd (no_fall keys f T)
one_table_text keys b asks t t' (jams h l T j m p J e) (jams h' l' T' j' m' p' J' e') =
    e ∙ ap jam_text (first_jam_one J J').1 ∙ sym e'
one_table_text keys b asks t t' (jams h l T j m p J e) (answers h' l' T' s u v e') =
    absurd (jams_or_taken keys b s (j s u) v)
one_table_text keys b asks t t' (answers h l T s u v e) (bucket_size o e') = absurd (good_bucket b o h l)
one_table_text keys b asks t t' (answers h l T s u v e) (falls h' l' f e') = absurd (no_fall keys f T)
one_table_text keys b asks t t' (answers h l T s u v e) (jams h' l' T' j m p J e') =
    absurd (jams_or_taken keys b s (j s u) v)
one_table_text keys b asks t t' (answers h l T s u v e) (answers h' l' T' s' u' v' e') = e ∙ sym e'

pub one_text : OneText
one_text input t t' (bad_text N e) (bad_text N' e') = e ∙ sym e'
one_text input t t' (bad_text N e) (good_text b keys asks F i T) = absurd (N b keys asks F i)
one_text input t t' (good_text b keys asks F i T) (bad_text N e) = absurd (N b keys asks F i)
one_text input t t' (good_text b keys asks F i T) (good_text b' keys' asks' F' i' T') =
    let same = one_reading 2048 512 b b' keys keys' asks asks' F F' (sym i ∙ i') in
    one_table_text keys b asks t t' T (rw (sym same.0, sym same.1, sym same.2) at T')

pub answer_determined : AnswerDetermined
answer_determined input before r after r' after' S S' =
    let same = one_text input S.0 S'.0 S.1.0 S'.1.0 in (
      S.1.1.counted ∙ ap length same ∙ sym S'.1.1.counted,
      S.1.1.stands ∙ ap (λ (t : List ℕ). t ++ drop (length t) before) same ∙ sym S'.1.1.stands,
    )
