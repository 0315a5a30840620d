-- A run of digits in a text: the number that it says digit by digit, and whether it is the text of a number that an
-- end byte follows. Assumes nothing.
use Rattle.std.proofs.Common.{Result, Ok, Err}
use Prim.Native.Nat.{ℕ, suc, ◌+◌, ◌-◌, ◌*◌, ◌<◌, ◌≤◌}
use native.Mathlib.Numerals.{add-one}
use native.Mathlib.Decide.{dec_lt}
use native.Mathlib.Omega.{arith}
use mathlib.Core.Bool.{true, false}
use mathlib.Core.List.{List, [], ◌∷◌, ◌++◌, append_assoc, append-nil}
use mathlib.Core.Path.{◌≡◌, refl, sym, ap, subst, ◌∙◌}
use lib.ListN.{length, drop, get_or, length-append, drop_of_length-le}
use lib.Seq.{slice, slice-cons, length-slice, drop-cons}
use Rattle.digits.specs.Texts.{From, Has}
use Rattle.digits.specs.Numbers.{decimal_text, ended, is_digit, ReadsAmount}
use Rattle.digits.specs.Inner.{Run, folded, Limited}
use Rattle.digits.specs.declared.Read.{Read}
use Rattle.digits.specs.declared.Unread.{Unread}
use Rattle.digits.specs.declared.Unread.TheVariants.{Over, Wrong}
use Rattle.digits.proofs.Positions.{slice_split, slice_snoc, slice_at, slice_join}
use Rattle.digits.proofs.Decimals.{Digits, digit_range, digits_all, run_same, run_ends}
use Rattle.digits.proofs.Decimals.{text_digits, text_some, text_run, text_zero, folded_append, folded_snoc}
use Rattle.digits.proofs.Decimals.{folded_least}

-- a digit of the run, after the digits before it
pub record Digit (s : List ℕ) (i j k v d : ℕ) : Type 0 where
  pub range : (48 ≤ d) × (d ≤ 57)
  pub step : v * 10 + (d - 48) ≡ folded 0 (slice i (k + 1) s)
  pub large : (most : ℕ) → most < v * 10 + (d - 48) → most < folded 0 (slice i j s)

pub run_digit : (s : List ℕ) (i j : ℕ) → Run s i j → (k v d : ℕ) → i ≤ k → k < j
    → v ≡ folded 0 (slice i k s) → d ≡ get_or s k 0 → Digit s i j k v d
run_digit s i j run k v d h g e f =
    let w = run.within in
    let digit : is_digit d ≡ true = ap is_digit f ∙ run.digits k h g in
    let step : v * 10 + (d - 48) ≡ folded 0 (slice i (k + 1) s) =
    rw (slice_snoc s i k h (omega arith), folded_snoc, ← e, f) in
    record {
      range = digit_range d digit;
      step = step;
      large = λ most l.
          let a : folded 0 (slice i j s) ≡ folded (folded 0 (slice i (k + 1) s)) (slice (k + 1) j s) =
          ap (folded 0) (slice_split s i (k + 1) j (omega arith) (omega arith) w)
          ∙ folded_append 0 (slice i (k + 1) s) (slice (k + 1) j s) in
          let b = folded_least (folded 0 (slice i (k + 1) s)) (slice (k + 1) j s) in
          omega arith;
    }

nothing : (l : List ℕ) → length l ≡ 0 → l ≡ []
nothing [] h = refl
nothing (x ∷ l) h = absurd (omega arith)

-- ---- a run that e follows, or does not
module _ (s : List ℕ) (i j e : ℕ) (run : Run s i j) where
  run_digits : Digits (slice i j s)
  run_digits =
      let w = run.within in
      digits_all (slice i j s)
      (λ k l. let l' : i + k < j = omega (arith, length-slice i j s w) in
      subst (λ (b : ℕ). is_digit b ≡ true) (sym (slice_at s i j k l')) (run.digits (i + k) (omega arith) l'))

  -- a number's text there is the run, and e follows it
  whole : (v : ℕ) (rest : List ℕ) → is_digit e ≡ false → From s i (ended decimal_text e v ++ rest)
      → (j < length s) × (slice i j s ≡ decimal_text v) × (get_or s j 0 ≡ e)
  whole v rest he f =
      let a : slice i j s ++ drop j s ≡ decimal_text v ++ (e ∷ rest) =
      sym (slice_join s i j run.order run.within) ∙ f.1 ∙ append_assoc (decimal_text v) (e ∷ []) rest in
      elim (dec_lt j (length s)) [
        | yes h ↦
            let b : slice i j s ++ (get_or s j 0 ∷ drop (suc j) s) ≡ decimal_text v ++ (e ∷ rest) =
            ap (λ (l : List ℕ). slice i j s ++ l)
            (sym (drop-cons s j 0 h)) ∙ a in
            let w = run_same (slice i j s) (decimal_text v) (get_or s j 0) e (drop (suc j) s) rest run_digits
            (text_digits v) (run.stop h) he b in
            (h, w.0, w.1)
        | no h ↦
            let b : slice i j s ≡ decimal_text v ++ (e ∷ rest) =
            sym (append-nil (slice i j s))
            ∙ ap (λ (l : List ℕ). slice i j s ++ l) (sym (drop_of_length-le s {i = j} (omega arith))) ∙ a in
            absurd (run_ends (slice i j s) (decimal_text v) e rest run_digits he b)
      ]

  -- what says that no number stands there, whatever the limit
  module _ (most : ℕ) where
    pub none_short : length s ≤ j → ReadsAmount most e s i (Err Wrong)
    unfolding ReadsAmount
    none_short h v he rest f = let w = whole v rest he f in omega arith

    pub none_other : (get_or s j 0 ≡ e → ⊥) → ReadsAmount most e s i (Err Wrong)
    unfolding ReadsAmount
    none_other h v he rest f = h (whole v rest he f).2

    pub none_empty : j ≡ i → ReadsAmount most e s i (Err Wrong)
    unfolding ReadsAmount
    none_empty h v he rest f =
        let w = (whole v rest he f).1 in
        let a : length (slice i j s) ≡ length (decimal_text v) = ap length w in
        omega (arith, length-slice i j s run.within, text_some v)

    pub none_zero : get_or s i 0 ≡ 48 → i + 1 < j → ReadsAmount most e s i (Err Wrong)
    unfolding ReadsAmount
    none_zero h g v he rest f =
        let w = (whole v rest he f).1 in
        let a : decimal_text v ≡ get_or s i 0 ∷ slice (suc i) j s =
        sym w ∙ slice-cons i j s 0 (omega arith) run.within in
        let b : length (slice (suc i) j s) ≡ 0 = ap length (text_zero v (get_or s i 0) (slice (suc i) j s) a h) in
        omega (arith, length-slice (suc i) j s run.within)

  -- the run is the text of its number
  module _ (some : i < j) (plain : get_or s i 0 ≡ 48 → j ≤ i + 1) (h : j < length s) (last : get_or s j 0 ≡ e) where
    run_text : decimal_text (folded 0 (slice i j s)) ≡ slice i j s
    run_text =
        let a : slice i j s ≡ get_or s i 0 ∷ slice (suc i) j s = slice-cons i j s 0 some run.within in
        let d : Digits (get_or s i 0 ∷ slice (suc i) j s) = subst Digits a run_digits in
        ap (λ (l : List ℕ). decimal_text (folded 0 l)) a
        ∙ text_run (get_or s i 0) (slice (suc i) j s) d
        (λ z. let p = plain z in nothing (slice (suc i) j s) (omega (arith, length-slice (suc i) j s run.within)))
        ∙ sym a

    run_has : Has s i (ended decimal_text e (folded 0 (slice i j s))) (j + 1)
    run_has = record {
      from = (
        omega (arith, run.order),
        slice_join s i j run.order run.within
            ∙ rw (drop-cons s j 0 h, run_text, last, append_assoc, add-one),
      );
      to = rw (run_text, length-append) (omega (arith, length-slice i j s run.within, run.order));
    }

    pub run_amount : (most : ℕ) (r : Result Read Unread) → is_digit e ≡ false
        → Limited most (folded 0 (slice i j s)) (j + 1) r → ReadsAmount most e s i r
    unfolding ReadsAmount Limited
    run_amount most (Ok r) he x = (he, rw x.0 x.1, rw (x.0, x.2) run_has)
    run_amount most (Err (Over k)) he x = (he, (folded 0 (slice i j s), x.0, rw x.1 run_has))
    run_amount most (Err Wrong) he x = absurd x
