-- The root's string is what all keys of a table share, so the bound on probes can be read off the keys. Assumes
-- nothing.
use mathlib.Core.Path.{◌≡◌, refl, sym, ◌∙◌}
use mathlib.Core.List.{List, [], ◌∷◌}
use Prim.Native.Nat.{ℕ, zero, suc, ◌-◌, ◌≤◌, ◌<◌}
use native.Mathlib.Nat.{le_of_lt, le_of_suc-le-suc}
use native.Mathlib.Omega.{arith}
use lib.ListN.{length}
use Rattle.words.specs.Keys.{first_bits, shared_bits}
use Rattle.words.proofs.Sharing.{shared_iff}
use Rattle.tables.specs.Tables.{key_at, Table, shared_with, shared_by_all}
use Rattle.splits.specs.Splits.{len, root}
use Rattle.splits.proofs.Rows.{len_lt, len_iff}
use Rattle.splits.proofs.Parents.{root_pos, root_lt, root_all}

-- x shares L bits with all of the keys exactly if it shares them with each
with_each : (L x : ℕ) (ks : List ℕ) → L ≤ shared_with x ks → (i : ℕ) → i < length ks
    → L ≤ shared_bits x (key_at ks i)
unfolding shared_with
with_each L x [] h i l = absurd (omega arith)
with_each L x (k ∷ ks) h zero l = omega arith
with_each L x (k ∷ ks) h (suc i) l = with_each L x ks (omega arith) i (le_of_suc-le-suc l)

with_all : (L x : ℕ) (ks : List ℕ) → L ≤ 64
    → ((i : ℕ) → i < length ks → L ≤ shared_bits x (key_at ks i)) → L ≤ shared_with x ks
unfolding shared_with
with_all L x [] top each = top
with_all L x (k ∷ ks) top each =
    omega (arith, each 0 (omega arith), with_all L x ks top (λ i h. each (suc i) (omega arith)))

-- all keys of a table share L bits exactly if each row has the first L bits of row 0
by_all : (L : ℕ) (T : List ℕ) → Table T → 0 < length T → L ≤ 64 → L ≤ shared_by_all T
    → (i : ℕ) → i < length T → first_bits L (key_at T 0) ≡ first_bits L (key_at T i)
unfolding shared_by_all
by_all L [] t some top h i l = absurd (omega arith)
by_all L (k ∷ ks) t some top h zero l = refl
by_all L (k ∷ ks) t some top h (suc i) l =
    (shared_iff k (key_at ks i) (t.fits 0 (omega arith)) (t.fits (suc i) l) L top).0
    (with_each L k ks h i (le_of_suc-le-suc l))

all_by : (L : ℕ) (T : List ℕ) → Table T → 0 < length T → L ≤ 64
    → ((i : ℕ) → i < length T → first_bits L (key_at T 0) ≡ first_bits L (key_at T i)) → L ≤ shared_by_all T
unfolding shared_by_all
all_by L [] t some top each = absurd (omega arith)
all_by L (k ∷ ks) t some top each =
    with_all L k ks top (λ i h. (shared_iff k (key_at ks i) (t.fits 0 (omega arith))
    (t.fits (suc i) (omega arith)) L top).1 (each (suc i) (omega arith)))

-- so the root's length is how many leading bits all keys share
pub root_shared : (T : List ℕ) → Table T → 2 ≤ length T → shared_by_all T ≡ len T (root T)
root_shared T t two =
    let r = root T in
    let L = len T r in
    let pos : 0 < r = root_pos T two in
    let small : r < length T = root_lt T two in
    let short : L < 64 = len_lt T t r pos small in
    let some : 0 < length T = omega arith in
    let least : L ≤ shared_by_all T =
    all_by L T t some (le_of_lt short) (λ i h. root_all T t 0 some two ∙ sym (root_all T t i h two)) in
    let no : ¬ (L < shared_by_all T) = λ g. (
    let all = by_all (suc L) T t some short g in
    omega (arith, (len_iff T t r pos small (suc L) short).1 (sym (all (r - 1) (omega arith)) ∙ all r small))) in
    omega arith
