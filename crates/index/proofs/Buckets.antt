-- C5: the bucket of a key of the table is the number of smaller delimiters: its own bucket's last key is no smaller,
-- and that of every bucket before it is. Assumes nothing.
use mathlib.Core.Path.{◌≡◌}
use mathlib.Core.List.{List}
use Prim.Native.Nat.{ℕ, suc, ◌+◌, ◌-◌, ◌*◌, ◌/◌, ◌≤◌, ◌<◌}
use native.Mathlib.Nat.{le_refl, div-mul-le_self, lt-div-mul-add, mul-le-mul_right}
use native.Mathlib.Omega.{arith}
use lib.ListN.{length}
use Rattle.tables.specs.Tables.{key_at, Table, smaller}
use Rattle.tables.specs.Delimiters.{buckets, bucket_end, delimiters}
use Rattle.tables.proofs.Rising.{keys_rise, keys_above}
use Rattle.tables.proofs.Delimiting.{bucket_there, bucket_ends, next_row, length_delimiters, delimiter_is}
use Rattle.tables.proofs.Delimiting.{delimiters_table}
use Rattle.walks.proofs.Deciding.{smaller_low, smaller_high}

pub bucket_before : (b : ℕ) (T : List ℕ) → 1 ≤ b → Table T → (r : ℕ) → r < length T
    → smaller (delimiters b T) (key_at T r) ≡ r / b
bucket_before b T some t r h =
    let n = length T in
    let D = delimiters b T in
    let x = key_at T r in
    let q = r / b in
    let c = smaller D x in
    let rising : Table D = delimiters_table b T some t in
    let low : q * b ≤ r = div-mul-le_self r b in
    let high : r < q * b + b = lt-div-mul-add {a = r} some in
    let there : q < buckets n b = bucket_there n b q some (omega arith) in
    let count : length D ≡ buckets n b = length_delimiters b T in
    let ends = bucket_ends n b q some there in
    let own : key_at D q ≡ key_at T (bucket_end n b q - 1) = delimiter_is b T q there in
    let reach : x ≤ key_at D q =
    omega (arith, keys_rise T t r (bucket_end n b q - 1) (omega (arith, next_row q b)) (omega arith)) in
    let not-above : ¬ (q < c) = λ g. (omega (arith, smaller_low D rising x q g)) in
    let not_below : ¬ (c < q) = λ g. (
    let here : c < buckets n b = omega arith in
    let e = bucket_ends n b c some here in
    let earlier : suc c * b ≤ q * b = mul-le-mul_right b g in
    let row : bucket_end n b c ≤ r = omega (arith, next_row c b) in
    let below = keys_above T t (bucket_end n b c - 1) r (omega arith) h in
    omega (arith, smaller_high D rising x c (le_refl c) (omega arith), delimiter_is b T c here)) in
    omega arith
