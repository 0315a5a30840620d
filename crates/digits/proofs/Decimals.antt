-- The decimal text of a number: its digits, how long it is, and that it is the number's alone. Assumes nothing.
use Rattle.std.proofs.Common.{Result, Ok, Err}
use Rattle.std.specs.Result.{result_ok}
use Prim.Native.Nat.{ℕ, zero, suc, ◌+◌, ◌-◌, ◌*◌, ◌/◌, ◌%◌, ◌^◌, ◌<◌, ◌≤◌, max}
use native.Mathlib.Nat.{le_refl, pow-suc}
use native.Mathlib.Decide.{dec_lt}
use native.Mathlib.Omega.{arith}
use mathlib.Core.Bool.{Bool, true, false, cond}
use mathlib.Core.List.{List, [], ◌∷◌, ◌++◌, append_assoc, append-nil}
use mathlib.Core.Path.{◌≡◌, refl, sym, ap, subst, ◌∙◌}
use lib.Dec.{ltb, leb}
use lib.ListN.{length, drop, get_or, length-append}
use borrow.Author.Tests.{lt-ltb, le-ltb, le-leb, ltb-false, leb-true}
use Rattle.basics.proofs.Bools.{differ, not_both}
use Rattle.digits.specs.Texts.{Reads}
use Rattle.digits.specs.Numbers.{digits_in, count_in, decimal_text, ended, is_digit, ReadsAmount}
use Rattle.digits.specs.Inner.{folded}
use Rattle.digits.specs.declared.Read.{Read}
use Rattle.digits.specs.declared.Unread.{Unread}
use Rattle.digits.specs.declared.Unread.TheVariants.{Over, Wrong}
use Rattle.digits.proofs.Positions.{Unique}
use Rattle.digits.proofs.Glyphs.{glyph_low, digits_length}

-- ---- digits

abbrev pub Digits : List ℕ → Type 0
Digits [] = Unit {0}
Digits (b ∷ bs) = (is_digit b ≡ true) × Digits bs

digit : (d : ℕ) → d < 10 → is_digit (48 + d) ≡ true
digit d h =
    let a : 48 ≤ 48 + d = omega arith in
    let b : 48 + d ≤ 57 = omega arith in
    rw (le-ltb (48 + d) 48 a) (le-leb (48 + d) 57 b)

digit_split : (b : ℕ) (p q : Bool) → ltb b 48 ≡ p → leb b 57 ≡ q → cond p false q ≡ true
    → (48 ≤ b) × (b ≤ 57)
digit_split b true q e f h = differ (cc)
digit_split b false true e f h = (omega (arith, ltb-false b 48 e), leb-true b 57 f)
digit_split b false false e f h = differ (cc)

pub digit_range : (b : ℕ) → is_digit b ≡ true → (48 ≤ b) × (b ≤ 57)
digit_range b h = digit_split b (ltb b 48) (leb b 57) refl refl h

digits_append : (xs ys : List ℕ) → Digits xs → Digits ys → Digits (xs ++ ys)
digits_append [] ys d e = e
digits_append (x ∷ xs) ys d e = (d.0, digits_append xs ys d.1 e)

pub digits_all : (xs : List ℕ) → ((k : ℕ) → k < length xs → is_digit (get_or xs k 0) ≡ true) → Digits xs
digits_all [] h = tt
digits_all (x ∷ xs) h = (h 0 (omega arith), digits_all xs (λ k l. h (suc k) (omega arith)))

-- ---- two runs of digits at one place that are ended by no digit are one run

-- no byte is a digit and none
digit_or_not : {A : Type 0} (a b : ℕ) → is_digit a ≡ false → is_digit b ≡ true → a ≡ b → A
digit_or_not a b h g e = absurd (not_both g (ap is_digit (sym e) ∙ h))

pub run_same : (xs ys : List ℕ) (a b : ℕ) (r q : List ℕ) → Digits xs → Digits ys → is_digit a ≡ false
    → is_digit b ≡ false
    → xs ++ (a ∷ r) ≡ ys ++ (b ∷ q) → (xs ≡ ys) × (a ≡ b) × (r ≡ q)
run_same [] [] a b r q dx dy ha hb e = (refl, cc, cc)
run_same [] (y ∷ ys) a b r q dx dy ha hb e = digit_or_not a y ha dy.0 (cc)
run_same (x ∷ xs) [] a b r q dx dy ha hb e = digit_or_not b x hb dx.0 (cc)
run_same (x ∷ xs) (y ∷ ys) a b r q dx dy ha hb e =
    let w = run_same xs ys a b r q dx.1 dy.1 ha hb (cc) in (let u = w.0 in cc, w.1, w.2)

pub run_ends : (xs ys : List ℕ) (b : ℕ) (q : List ℕ) → Digits xs → is_digit b ≡ false
    → xs ≡ ys ++ (b ∷ q) → ⊥
run_ends [] [] b q dx hb e = differ (cc)
run_ends [] (y ∷ ys) b q dx hb e = differ (cc)
run_ends (x ∷ xs) [] b q dx hb e = digit_or_not b x hb dx.0 (cc)
run_ends (x ∷ xs) (y ∷ ys) b q dx hb e = run_ends xs ys b q dx.1 hb (cc)

-- ---- the text of a number

-- how many digits, within k steps
abbrev counted : ℕ → ℕ → ℕ
counted k n = count_in k (ltb n 10) n

counted_small : (k n : ℕ) → n < 10 → counted k n ≡ 1
unfolding count_in
counted_small zero n h = refl
counted_small (suc k) n h = rw (lt-ltb n 10 h)

counted_more : (k n : ℕ) → 10 ≤ n → counted (suc k) n ≡ suc (counted k (n / 10))
unfolding count_in
counted_more k n h = rw (le-ltb n 10 h)

-- by cases on a number below ten or not
by_ten : {P : Type 0} (n : ℕ) → (n < 10 → P) → (10 ≤ n → P) → P
by_ten n f g = elim (dec_lt n 10) [ yes h ↦ f h | no h ↦ g (omega arith) ]

-- more steps change nothing
counted_enough : (k j n : ℕ) → n ≤ k → n ≤ j → counted k n ≡ counted j n
counted_enough zero j n hk hj = let h : n < 10 = omega arith in counted_small zero n h ∙ sym (counted_small j n h)
counted_enough (suc k) zero n hk hj =
    let h : n < 10 = omega arith in counted_small (suc k) n h ∙ sym (counted_small zero n h)
counted_enough (suc k) (suc j) n hk hj =
    by_ten n (λ h. counted_small (suc k) n h ∙ sym (counted_small (suc j) n h))
    (λ h. counted_more k n h ∙ ap suc (counted_enough k j (n / 10) (omega arith) (omega arith))
    ∙ sym (counted_more j n h))

pub text_small : (n : ℕ) → n < 10 → decimal_text n ≡ (48 + n) ∷ []
unfolding decimal_text digits_in
text_small n h = let e : n % 10 ≡ n = omega arith in rw (counted_small n n h, e, glyph_low n h)

text_more : (n d : ℕ) → 0 < n → d < 10 → decimal_text (n * 10 + d) ≡ decimal_text n ++ ((48 + d) ∷ [])
unfolding decimal_text digits_in
text_more n d hn hd =
    let m : ℕ = n * 10 + d in
    let q : (n * 10 + d) / 10 ≡ n = omega arith in
    let r : (n * 10 + d) % 10 ≡ d = omega arith in
    let c : counted (n * 10 + d) (n * 10 + d) ≡ suc (counted n n) =
    counted_enough m (suc m) m (omega arith) (omega arith) ∙ counted_more m m (omega arith)
    ∙ ap suc (ap (counted m) q ∙ counted_enough m n n (omega arith) (omega arith)) in
    rw (c, q, r, glyph_low d hd)

-- what holds of the digits, and of n with one more digit where it holds of n, holds of every number
pub each : (P : ℕ → Type 0) → ((n : ℕ) → n < 10 → P n)
    → ((n d : ℕ) → 0 < n → d < 10 → P n → P (n * 10 + d)) → (n : ℕ) → P n
each P one more n = go n n (le_refl n)
  where
    go : (k m : ℕ) → m ≤ k → P m
    go zero m h = one m (omega arith)
    go (suc k) m h =
        by_ten m (one m)
        (λ g.
        let e : m / 10 * 10 + m % 10 ≡ m = omega arith in
        subst P e (more (m / 10) (m % 10) (omega arith) (omega arith) (go k (m / 10) (omega arith))))

pub text_digits : (n : ℕ) → Digits (decimal_text n)
text_digits = each (λ n. Digits (decimal_text n)) (λ n h. rw (text_small n h) (digit n h, tt))
    (λ n d hn hd g. rw (text_more n d hn hd) (digits_append (decimal_text n) ((48 + d) ∷ []) g (digit d hd, tt)))

-- ---- how long it is

pub text_length : (n : ℕ) → 10 ≤ n → length (decimal_text n) ≡ length (decimal_text (n / 10)) + 1
text_length n h =
    let b : n ≡ n / 10 * 10 + n % 10 = omega arith in
    ap (λ (m : ℕ). length (decimal_text m)) b ∙ ap length (text_more (n / 10) (n % 10) (omega arith) (omega arith))
    ∙ length-append (decimal_text (n / 10)) ((48 + n % 10) ∷ [])

pub text_some : (n : ℕ) → 0 < length (decimal_text n)
text_some = each (λ n. 0 < length (decimal_text n)) (λ n h. rw (text_small n h) (omega arith))
    (λ n d hn hd g. rw (text_more n d hn hd, length-append) (omega arith))

-- k + 1 digits hold the numbers below 10 ^ (k + 1)
pub text_within : (k n : ℕ) → n < 10 ^ suc k → length (decimal_text n) ≤ suc k
text_within zero n h = rw (text_small n (let p : 10 ^ 1 ≡ 10 = refl in omega arith)) (omega arith)
text_within (suc k) n h =
    by_ten n (λ g. rw (text_small n g) (omega arith))
    (λ g.
    let p : 10 ^ suc (suc k) ≡ 10 ^ suc k * 10 = pow-suc 10 (suc k) in
    let i = text_within k (n / 10) (omega arith) in
    let l = text_length n g in
    omega arith)

-- a number from 10 ^ k up to the next power has k + 1 digits
text_log : (k n : ℕ) → 10 ^ k ≤ n → n < 10 * 10 ^ k → length (decimal_text n) ≡ k + 1
text_log zero n h g = ap length (text_small n (omega arith))
text_log (suc k) n h g =
    let p : 10 ^ suc k ≡ 10 ^ k * 10 = pow-suc 10 k in
    let i = text_log k (n / 10) (omega arith) (omega arith) in
    let q = pow_pos k in
    let l = text_length n (omega arith) in
    omega arith
  where
    pow_pos : (k : ℕ) → 0 < 10 ^ k
    pow_pos zero = omega arith
    pow_pos (suc k) = let p : 10 ^ suc k ≡ 10 ^ k * 10 = pow-suc 10 k in let q = pow_pos k in omega arith

-- the same of the number or of 1, if it is 0
pub text_power : (n m k : ℕ) → m ≡ max n 1 → 10 ^ k ≤ m → m < 10 * 10 ^ k → length (decimal_text n) ≡ k + 1
text_power n m k e h g = elim (dec_lt 0 n) [
  | yes p ↦ text_log k n (omega arith) (omega arith)
  | no p ↦
      let z : n ≡ 0 = omega arith in
      let o = text_log k m h g in
      let i : length (decimal_text n) ≡ 1 = ap length (text_small n (omega arith)) in
      let j : length (decimal_text m) ≡ 1 = ap length (text_small m (omega arith)) in
      omega arith
]

-- the text is as many of the digits as it is long
pub text_count : (n : ℕ) → decimal_text n ≡ digits_in 10 (length (decimal_text n)) n
unfolding decimal_text
text_count n = rw (digits_length 10 (counted n n) n)

-- ---- the number of a run of digits

pub folded_append : (a : ℕ) (xs ys : List ℕ) → folded a (xs ++ ys) ≡ folded (folded a xs) ys
folded_append a [] ys = refl
folded_append a (x ∷ xs) ys = folded_append (a * 10 + (x - 48)) xs ys

pub folded_snoc : (a : ℕ) (xs : List ℕ) (b : ℕ) → folded a (xs ++ (b ∷ [])) ≡ folded a xs * 10 + (b - 48)
folded_snoc a xs b = folded_append a xs (b ∷ [])

pub folded_least : (a : ℕ) (xs : List ℕ) → a ≤ folded a xs
folded_least a [] = omega arith
folded_least a (x ∷ xs) = let h = folded_least (a * 10 + (x - 48)) xs in omega arith

folded_text : (n : ℕ) → folded 0 (decimal_text n) ≡ n
folded_text = each (λ n. folded 0 (decimal_text n) ≡ n) (λ n h. rw (text_small n h) (omega arith))
    (λ n d hn hd g. rw (text_more n d hn hd, folded_snoc, g) (omega arith))

text_after : (a : ℕ) (xs : List ℕ) → 0 < a → Digits xs → decimal_text (folded a xs) ≡ decimal_text a ++ xs
text_after a [] h d = sym (append-nil (decimal_text a))
text_after a (x ∷ xs) h d =
    let w = digit_range x d.0 in
    let e : 48 + (x - 48) ≡ x = omega arith in
    text_after (a * 10 + (x - 48)) xs (omega arith) d.1
    ∙ rw (text_more a (x - 48) h (omega arith), e) (append_assoc (decimal_text a) (x ∷ []) xs)

-- a run with no leading zero is the text of its number
pub text_run : (x : ℕ) (xs : List ℕ) → Digits (x ∷ xs) → (x ≡ 48 → xs ≡ [])
    → decimal_text (folded 0 (x ∷ xs)) ≡ x ∷ xs
text_run x xs d z =
    let w = digit_range x d.0 in
    let e : 48 + (0 * 10 + (x - 48)) ≡ x = omega arith in
    elim (dec_lt 48 x) [
      | yes h ↦ text_after (0 * 10 + (x - 48)) xs (omega arith) d.1
          ∙ rw (text_small (0 * 10 + (x - 48)) (omega arith)) (rw e)
      | no h ↦ let f : x ≡ 48 = omega arith in rw (z f, text_small (0 * 10 + (x - 48)) (omega arith), e)
    ]

first : (ys zs : List ℕ) (b : ℕ) (xs : List ℕ) → 0 < length ys → ys ++ zs ≡ b ∷ xs
    → (ws : List ℕ) × (ys ≡ b ∷ ws)
first [] zs b xs h e = absurd (omega arith)
first (y ∷ ys) zs b xs h e = (ys, cc)

-- no text begins by 0, but that of 0
text_head : (n b : ℕ) (xs : List ℕ) → decimal_text n ≡ b ∷ xs → b ≡ 48 → n ≡ 0
text_head = each (λ n. (b : ℕ) (xs : List ℕ) → decimal_text n ≡ b ∷ xs → b ≡ 48 → n ≡ 0)
    (λ n h b xs e g. let f : 48 + n ≡ b = (let u = text_small n h in cc) in omega arith)
    (λ n d hn hd g b xs e f.
    let w = first (decimal_text n) ((48 + d) ∷ []) b xs (text_some n) (sym (text_more n d hn hd) ∙ e) in
    let z : n ≡ 0 = g b w.0 w.1 f in absurd (omega arith))

pub text_zero : (n b : ℕ) (xs : List ℕ) → decimal_text n ≡ b ∷ xs → b ≡ 48 → xs ≡ []
text_zero n b xs e f =
    let z = text_head n b xs e f in let u : decimal_text 0 ≡ 48 ∷ [] = text_small 0 (omega arith) in cc

-- one text, one number
text_same : (m n : ℕ) → decimal_text m ≡ decimal_text n → m ≡ n
text_same m n e = sym (folded_text m) ∙ ap (folded 0) e ∙ folded_text n

pub decimal_unique : (most e : ℕ) → is_digit e ≡ false → Unique most (ended decimal_text e)
decimal_unique most e h v w r q hv hw f =
    text_same v w (run_same (decimal_text v) (decimal_text w) e e r q (text_digits v) (text_digits w) h h
    (sym (append_assoc (decimal_text v) (e ∷ []) r) ∙ f ∙ append_assoc (decimal_text w) (e ∷ []) q)).0

-- ---- where a number above the limit is no better than a bad text
pub amount_reads : (most e : ℕ) (s : List ℕ) (i : ℕ) (r : Result Read Unread) → is_digit e ≡ false
    → ReadsAmount most e s i r
    → Reads most (ended decimal_text e) s i (result_ok r)
unfolding ReadsAmount Reads
amount_reads most e s i (Ok r) he c = (c.1, c.2)
amount_reads most e s i (Err (Over j)) he c = λ w hw rest f.
    let above : most < c.1.0 = c.1.1 in
    let same : c.1.0 ≡ w =
    decimal_unique c.1.0 e he c.1.0 w (drop j s) rest (omega arith) (omega arith)
    (sym c.1.2.from.1 ∙ f.1) in
    omega arith
amount_reads most e s i (Err Wrong) he c = λ w hw. c w he
