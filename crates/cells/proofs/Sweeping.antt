-- Memory that is overwritten entry by entry, and memory that is cleared again: the longer clearing decides. Assumes
-- nothing.
use Rattle.std.proofs.Common.{◌≡◌, ℕ, zero, suc, ◌+◌, ◌-◌, ◌≤◌, ◌<◌, List, [], ◌∷◌, ◌++◌, length, set, drop, replicate, refl, sym, ap, ◌∙◌, append_assoc, add-one, arith}
use Rattle.std.proofs.lemmas.List.{drop_at, drop-drop, length-replicate, replicate-append-replicate}
use Rattle.cells.specs.Memory.{cleared}

-- the first i entries overwritten, and one more
replicate_suc : {A : Type 0} (i : ℕ) (a : A) (xs : List A) → i < length xs
    → set (replicate i a ++ drop i xs) i a ≡ replicate (suc i) a ++ drop (suc i) xs
replicate_suc i a [] within = absurd (omega arith)
replicate_suc zero a (x ∷ xs) within = refl
replicate_suc (suc i) a (x ∷ xs) within = ap (λ ys. a ∷ ys) (replicate_suc i a xs (omega arith))

pub replicate_more : {A : Type 0} (i : ℕ) (a : A) (xs : List A) → i < length xs
    → set (replicate i a ++ drop i xs) i a ≡ replicate (i + 1) a ++ drop (i + 1) xs
replicate_more i a xs within = rw add-one (replicate_suc i a xs within)

abbrev zeroes : ℕ → List ℕ
zeroes m = replicate m 0

-- past a named length memory is as it was
pub drop_cleared : (m k : ℕ) (xs : List ℕ) → m ≤ k → drop k (cleared m xs) ≡ drop k xs
drop_cleared m k xs h =
    let split : m + (k - m) ≡ k = omega arith in
    ap (λ (j : ℕ). drop j (cleared m xs)) (sym split)
    ∙ sym (drop-drop (k - m) m (cleared m xs))
    ∙ ap (drop (k - m)) (drop_at (replicate m 0) (drop m xs) m (length-replicate m 0))
    ∙ drop-drop (k - m) m xs
    ∙ ap (λ (j : ℕ). drop j xs) split

-- cleared over k, it is cleared over fewer too
pub cleared_within : (m k : ℕ) (xs : List ℕ) → m ≤ k → cleared m (cleared k xs) ≡ cleared k xs
cleared_within m k xs h =
    let split : m + (k - m) ≡ k = omega arith in
    let zeros : List ℕ = replicate (k - m) 0 in
    let whole : zeroes k ≡ zeroes m ++ zeros =
    ap zeroes (sym split) ∙ sym (replicate-append-replicate m (k - m) 0) in
    let rest : drop m (cleared k xs) ≡ zeros ++ drop k xs =
    ap (λ (zs : List ℕ). drop m (zs ++ drop k xs)) whole ∙ ap (drop m) (append_assoc (zeroes m) zeros (drop k xs))
    ∙ drop_at (zeroes m) (zeros ++ drop k xs) m (length-replicate m 0) in
    ap (λ (ys : List ℕ). zeroes m ++ ys) rest ∙ sym (append_assoc (zeroes m) zeros (drop k xs))
    ∙ ap (λ (zs : List ℕ). zs ++ drop k xs) (sym whole)
