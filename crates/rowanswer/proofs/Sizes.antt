-- How long a text that rowcheck prints can be: a head line, and 103 bytes for each ask; and that 53,793 bytes of an
-- input are enough. Assumes nothing.
use mathlib.Core.Path.{◌≡◌, ap}
use mathlib.Core.Bool.{Bool, true, false, cond}
use mathlib.Core.List.{List, [], ◌∷◌}
use Prim.Native.Nat.{ℕ, suc, ◌+◌, ◌*◌, ◌^◌, ◌≤◌, ◌<◌}
use native.Mathlib.Nat.{mul-suc}
use native.Mathlib.Decide.{dec_le}
use native.Mathlib.Omega.{arith}
use lib.ListN.{length, take, length-append}
use lib.Seq.{take_all, length-take-le}
use Rattle.std.specs.Prelude.{Some, None}
use Rattle.tables.specs.Tables.{Table, smaller}
use Rattle.walks.specs.Walk.{path_walk}
use Rattle.neighbour.specs.Ask.{stands_at}
use Rattle.index.specs.Answers.{row_of, probes_of}
use Rattle.walks.proofs.Answering.{walk_six}
use Rattle.walks.proofs.Deciding.{smaller_most}
use Rattle.full.proofs.Jamming.{jam_sized}
use Rattle.digits.specs.Texts.{bytes}
use Rattle.lines.specs.Lines.{texts}
use Rattle.rowinput.specs.Input.{NoInput}
use Rattle.rowoutput.specs.Output.{head_text, answers_text}
use Rattle.rowinput.proofs.Determined.{longest}
use Rattle.rowoutput.proofs.Printing.{Narrow, decimal_longest, ask_longest, jam_longest}
use Rattle.rowoutput.specs.Output.{refused_text}
use Rattle.asks.specs.Asks.{ask_lines}
use Rattle.rowanswer.specs.Answers.{answered, TableText}
use Rattle.rowanswer.specs.Answers.{bucket_size, falls, jams, answers}
use Rattle.rowanswer.specs.Answers.{RowcheckText, bad_text, good_text, LongestText, WindowIsEnough}

texts_longest : (f : ℕ → List ℕ) (most : ℕ) → ((x : ℕ) → length (f x) ≤ most) → (xs : List ℕ)
    → length (texts f xs) ≤ most * length xs
unfolding texts
texts_longest f most each [] = omega arith
texts_longest f most each (x ∷ xs) =
    let first = each x in
    let rest = texts_longest f most each xs in
    let more : most * suc (length xs) ≡ most * length xs + most = mul-suc most (length xs) in
    omega (arith, length-append (f x) (texts f xs))

narrow : (s : Bool) (c : ℕ) → c < 2 ^ 64 → Narrow (cond s (Some c) None)
narrow true c h = h
narrow false c h = tt

few_probes : (keys : List ℕ) (x : ℕ) → probes_of keys x ≤ 6
unfolding path_walk
few_probes keys x = walk_six keys x _ _ _ _

module _ (keys : List ℕ) (t : Table keys) (few : length keys ≤ 2048) where
  ask_most : (x : ℕ) → length (ask_lines keys x) ≤ 103
  ask_most x =
      let c : smaller keys x < 2 ^ 64 = omega (arith, smaller_most keys t x) in
      let p : probes_of keys x < 2 ^ 64 = omega (arith, few_probes keys x) in
      ask_longest x (row_of Some None keys x) (smaller keys x) (probes_of keys x)
      (narrow (stands_at keys x (smaller keys x)) (smaller keys x) c) c p

  answered_longest : (asks : List ℕ) → length asks ≤ 512 → length (answered keys asks) ≤ 52762
  unfolding answers_text
  answered_longest asks h =
      let head : length (head_text (length keys)) ≤ 5 + 21 =
      decimal_longest (bytes "keys=") (length keys) (omega arith) in
      let lines = texts_longest (ask_lines keys) 103 ask_most asks in
      omega (arith, length-append (head_text (length keys)) (texts (ask_lines keys) asks))

refused_longest : (text : List ℕ) (k : ℕ) → k < 2 ^ 64 → text ≡ refused_text k → length text ≤ 52762
refused_longest text k h e = omega (arith, ap length e, decimal_longest (bytes "refused=") k h)

table_longest : (keys : List ℕ) (b : ℕ) (asks text : List ℕ) → length keys ≤ 2048 → length asks ≤ 512
    → TableText keys b asks text → length text ≤ 52762
table_longest keys b asks text few some (bucket_size o e) = refused_longest text 2 (omega arith) e
table_longest keys b asks text few some (falls h l f e) = refused_longest text 3 (omega arith) e
table_longest keys b asks text few some (jams h l t j m p J e) =
    omega (arith, ap length e, jam_longest p (omega (arith, (jam_sized (omega arith) J).1)))
table_longest keys b asks text few some (answers h l t s u v e) =
    omega (arith, ap length e, answered_longest keys t few asks some)

pub rowcheck_longest : LongestText
rowcheck_longest input text (bad_text N e) = refused_longest text 8 (omega arith) e
rowcheck_longest input text (good_text b keys asks F e T) = table_longest keys b asks text F.key_count F.ask_count T

-- an input of more than 53,792 bytes is no input
too_long : (s : List ℕ) → 53792 < length s → NoInput 2048 512 s
too_long s h b ks qs F e = omega (arith, longest b ks qs F, ap length e)

long_text : (s s' text : List ℕ) → 53792 < length s → 53792 < length s' → RowcheckText s text
    → RowcheckText s' text
long_text s s' text h h' (bad_text N e) = bad_text (too_long s' h') e
long_text s s' text h h' (good_text b keys asks F e T) = absurd (too_long s h b keys asks F e)

pub window_is_enough : WindowIsEnough
window_is_enough s text =
    elim (dec_le (length s) 53793) [
      | yes l ↦ let same : take 53793 s ≡ s = take_all 53793 s l in ((λ R. rw same at R), (λ R. rw same R))
      | no l ↦
          let long : length (take 53793 s) ≡ 53793 = length-take-le 53793 s (omega arith) in (
            long_text (take 53793 s) s text (omega arith) (omega arith),
            long_text s (take 53793 s) text (omega arith) (omega arith),
          )
    ]
