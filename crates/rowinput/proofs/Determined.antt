-- `read_input` is determined by its contract, and no input is longer than 53,792 bytes. Assumes nothing.
use Rattle.std.proofs.Common.{Ok, Err}
use Prim.Native.Nat.{ℕ, suc, ◌+◌, ◌*◌, ◌^◌, ◌<◌, ◌≤◌, min}
use native.Mathlib.Omega.{arith}
use mathlib.Core.List.{List, [], ◌++◌, append-nil}
use mathlib.Core.Path.{◌≡◌, sym, ap, ◌∙◌}
use lib.ListN.{length, drop, length-append}
use Rattle.digits.specs.Texts.{bytes}
use Rattle.digits.proofs.Positions.{unique_rest}
use Rattle.digits.proofs.Decimals.{text_within}
use Rattle.lines.specs.Lines.{line, lines}
use Rattle.lines.specs.declared.Kind.TheVariants.{Decimal, Hex}
use Rattle.lines.proofs.Lining.{decimal_line_unique, line_size, hex_lines_size}
use Rattle.rowinput.specs.Input.{list_text, row_text, ReadsInput}
use Rattle.rowinput.specs.Determined.{OneReading, InputDetermined, LongestInput}
use Rattle.rowinput.specs.declared.Input.{Input}
use Rattle.rowinput.proofs.Scanning.{key_list, ask_list, bucket_line, list_unique}

pub one_reading : OneReading
unfolding row_text
one_reading K A b b' ks ks' qs qs' f g e =
    let p = unique_rest 65535 bucket_line (decimal_line_unique (bytes "bucket=") 65535) b b' (key_list ks ++ ask_list qs)
    (key_list ks' ++ ask_list qs')
    f.bucket g.bucket e in
    let q = list_unique (bytes "keys=") (bytes "key=") ks ks' (ask_list qs) (ask_list qs') f.key_words g.key_words
    p.1 in
    let r = list_unique (bytes "asks=") (bytes "ask=") qs qs' [] [] f.ask_words g.ask_words
    (append-nil (ask_list qs) ∙ q.1 ∙ sym (append-nil (ask_list qs'))) in
    (p.0, q.0, r.0)

-- a slice that holds the same numbers at its start
same_held : {x₁ x₂ xs ys : List ℕ} (out : List ℕ) {n m : ℕ} → n ≡ m → xs ≡ ys
    → x₁ ≡ xs ++ drop n out → x₂ ≡ ys ++ drop m out → x₁ ≡ x₂
same_held out e f h g = cc

-- an input is its bucket size and its two counts
input_is : (r q : Input) → r.bucket ≡ q.bucket → r.keys ≡ q.keys → r.asks ≡ q.asks → r ≡ q
input_is r q e f g =
    ap (λ (b : ℕ). record r { bucket = b }) e ∙ ap (λ (n : ℕ). record r { bucket = q.bucket; keys = n }) f
    ∙ ap (λ (m : ℕ). record q { asks = m }) g

pub input_determined : InputDetermined
unfolding ReadsInput
input_determined s keys asks k₁ a₁ k₂ a₂ (Ok r) (Ok q) h g =
    let o = one_reading (min (length keys) 2048) (min (length asks) 512) r.bucket q.bucket h.ks g.ks h.qs g.qs
    h.fine g.fine
    (sym h.text ∙ g.text) in
    let e = o.0 in
    let n-same : r.keys ≡ q.keys = h.key_count ∙ ap length o.1 ∙ sym g.key_count in
    let m-same : r.asks ≡ q.asks = h.ask_count ∙ ap length o.2 ∙ sym g.ask_count in
    let ks-same = same_held keys n-same o.1 h.keys_hold g.keys_hold in
    (ap Ok (input_is r q e n-same m-same), (ks-same, same_held asks m-same o.2 h.asks_hold g.asks_hold))
input_determined s keys asks k₁ a₁ k₂ a₂ (Ok r) (Err f) h g =
    absurd (g.1 r.bucket h.ks h.qs h.fine h.text)
input_determined s keys asks k₁ a₁ k₂ a₂ (Err f) (Ok r) h g =
    absurd (h.1 r.bucket g.ks g.qs g.fine g.text)
input_determined s keys asks k₁ a₁ k₂ a₂ (Err f) (Err f') h g =
    (ap Err (h.0 ∙ sym g.0), (h.2 ∙ sym g.2, h.3 ∙ sym g.3))

-- a list of n numbers in at most d + 1 digits, each with a tag of l bytes
list_size : (head tag xs : List ℕ) (d : ℕ) → length xs < 10 ^ suc d
    → length (list_text head tag xs) ≤ length head + suc d + 1 + length xs * (length tag + 17)
list_size head tag xs d h =
    let a = length-append (line Decimal head (length xs)) (lines Hex tag xs) in
    let b = line_size Decimal head (length xs) in
    let c = text_within d (length xs) h in
    let e = hex_lines_size tag xs in
    omega arith

pub longest : LongestInput
unfolding row_text
longest b ks qs f =
    let a = length-append (bucket_line b) (key_list ks ++ ask_list qs) in
    let c = length-append (key_list ks) (ask_list qs) in
    let x = f.bucket in
    let y = f.key_count in
    let z = f.ask_count in
    let l = line_size Decimal (bytes "bucket=") b in
    let w = text_within 4 b (omega arith) in
    let k : length (key_list ks) ≤ 5 + 4 + 1 + length ks * 21 =
    list_size (bytes "keys=") (bytes "key=") ks 3 (omega arith) in
    let q : length (ask_list qs) ≤ 5 + 3 + 1 + length qs * 21 =
    list_size (bytes "asks=") (bytes "ask=") qs 2 (omega arith) in
    omega arith
