-- The theorems on the walk: over what an accepted build leaves it is the walk over the table alone, which counts the
-- smaller keys, and over any stores it makes few probes. Assumes nothing.
use mathlib.Core.Path.{◌≡◌, refl, sym, ap, ◌∙◌}
use mathlib.Core.Bool.{true, false, cond, ◌&&◌}
use mathlib.Core.List.{List, []}
use Prim.Native.Nat.{ℕ, zero, suc, ◌-◌, ◌≤◌, ◌<◌, zero-le}
use native.Mathlib.Nat.{le_refl, le_of_lt, le_trans}
use native.Mathlib.Omega.{arith}
use borrow.Author.Tests.{ltb-true, leb-true, leb-false, eqb-true, eqb-false, lt-ltb, le-leb, ne_eqb}
use lib.Dec.{leb, ltb, eqb}
use lib.ListN.{length, get_or}
use lib.Pow.{shr_mono}
use Rattle.words.specs.Keys.{first_bits, prefix_item}
use Rattle.words.specs.Fat.{binary_digits}
use Rattle.words.proofs.Probing.{probes_from}
use Rattle.tables.specs.Tables.{key_at, Table, smaller}
use Rattle.splits.specs.Splits.{len, root, left_entry, right_entry}
use Rattle.basics.proofs.Bools.{both, by_test}
use Rattle.splits.proofs.Rows.{less_by, len_lt}
use Rattle.splits.proofs.Parents.{root_pos, root_lt, root_all, left_root, left_split, right_split, length_split}
use Rattle.walks.specs.Walk.{agrees, on_path, accepted, Descent, descend, Answer, before, spoiled}
use Rattle.walks.specs.Walk.{Walk, decide, walk, path_walk, stored_length, store_walk, Stored}
use Rattle.walks.specs.Vouched.{TrueLengths, LongRoot, LongSplit}
use Rattle.walks.proofs.Paths.{OnPath}
use Rattle.walks.proofs.Descending.{accepted_means, descend_probes, descend_split, descend_same}
use Rattle.walks.proofs.Descending.{onward_split, Deepest, descend_path, descend_deep}
use Rattle.walks.proofs.Deciding.{decides, smaller_low, smaller_high, smaller_most}

abbrev pub halt : ℕ → Answer → Walk
halt m a = record { probed = []; node = m; answer = a }

abbrev pub ended : List ℕ → ℕ → (lefts rights lens : ℕ → ℕ) → Descent → Walk
ended T x lefts rights lens d =
    let m = d.node in
    record { probed = d.probed; node = m; answer = decide T x (lens m) (lefts m) m (rights m) }

-- the walk case by case
module _ (T : List ℕ) (x : ℕ) (find lefts rights lens : ℕ → ℕ) where
  abbrev walked : Walk
  walked = walk T x find lefts rights lens

  pub walk_none : length T ≡ 0 → walked ≡ halt 0 (before 0)
  unfolding walk
  walk_none e = rw e

  pub walk_one : length T ≡ 1 → walked ≡ halt 0 (before (cond (leb x (key_at T 0)) 0 1))
  unfolding walk
  walk_one e = rw e

  -- the root split is one
  abbrev pub Rooted : ℕ → Type 0
  Rooted r = (0 < r) × (r < length T) × (lens r ≤ 63)

  root_test : (r : ℕ) → Rooted r → leb 1 r && (ltb r (length T) && leb (lens r) 63) ≡ true
  root_test r R = rw (le-leb 1 r R.0, lt-ltb r (length T) R.1, le-leb (lens r) 63 R.2)

  -- two keys or more
  module _ (h : 2 ≤ length T) (r : ℕ) (e : lefts 0 ≡ r) where
    walk_two : walked
        ≡ cond (leb 1 r && (ltb r (length T) && leb (lens r) 63))
        (cond (agrees T x r (lens r)) (ended T x lefts rights lens (descend T lens x find 64 r 64))
        (halt r (before (cond (leb x (key_at T r)) 0 (length T)))))
        (halt r spoiled)
    unfolding walk
    walk_two = rw (ne_eqb (length T) 0 (λ z. omega arith), ne_eqb (length T) 1 (λ z. omega arith), e)

    pub walk_off : Rooted r → agrees T x r (lens r) ≡ false
        → walked ≡ halt r (before (cond (leb x (key_at T r)) 0 (length T)))
    walk_off R off = walk_two ∙ (rw (root_test r R, off))

    pub walk_on : Rooted r → agrees T x r (lens r) ≡ true
        → walked ≡ ended T x lefts rights lens (descend T lens x find 64 r 64)
    walk_on R on = walk_two ∙ (rw (root_test r R, on))

    pub walk_bad : (Rooted r → ⊥) → walked ≡ halt r spoiled
    walk_bad fails =
        walk_two
        ∙ by_test (leb 1 r && (ltb r (length T) && leb (lens r) 63))
        (λ k. let p = both (leb 1 r) _ k in let q = both (ltb r (length T)) (leb (lens r) 63) p.1 in
        absurd (fails (leb-true 1 r p.0, ltb-true r (length T) q.0, leb-true (lens r) 63 q.1)))
        (λ k. rw k)

  -- a walk makes no probes, or those from its root on
  few_probes : (k : ℕ) → (lens (lefts 0) ≤ 63 → length (descend T lens x find 64 (lefts 0) 64).probed ≤ k)
      → length walked.probed ≤ k
  unfolding walk
  few_probes k few =
      let r = lefts 0 in
      by_test (eqb (length T) 0) (λ e. rw e zero-le)
      (λ e. rw e (by_test (eqb (length T) 1) (λ e₁. rw e₁ zero-le)
      (λ e₁. rw e₁ (by_test (leb 1 r)
      (λ e₂. rw e₂ (by_test (ltb r (length T)) (λ e₃. rw e₃ (by_test (leb (lens r) 63)
      (λ e₄. rw e₄ (by_test (agrees T x r (lens r)) (λ e₅. rw e₅ (few (leb-true (lens r) 63 e₄)))
      (λ e₅. rw e₅ zero-le)))
      (λ e₄. rw e₄ zero-le))) (λ e₃. rw e₃ zero-le))) (λ e₂. rw e₂ zero-le)))))

  bound : lens (lefts 0) ≤ 63
      → let made = length (descend T lens x find 64 (lefts 0) 64).probed in let most =
      binary_digits (63 - lens (lefts 0)) in (made ≤ most) × (most ≤ 6)
  bound h = probes_from (lens (lefts 0)) (omega arith) (descend_probes T lens x find 64 (lefts 0) 64 (omega arith))

  -- W5: over any stores the probes are no more than 63 less the root's length has binary digits
  pub walk_probes : length walked.probed ≤ binary_digits (63 - lens (lefts 0))
  walk_probes = few_probes (binary_digits (63 - lens (lefts 0))) (λ h. (bound h).0)

  -- and six at most
  pub walk_six : length walked.probed ≤ 6
  walk_six = few_probes 6 (λ h. le_trans (bound h).0 (bound h).1)

-- a table has no rows, one, or more
pub by_size : {A : Type 0} (n : ℕ) → (n ≡ 0 → A) → (n ≡ 1 → A) → (2 ≤ n → A) → A
by_size zero p q r = p refl
by_size (suc zero) p q r = q refl
by_size (suc (suc n)) p q r = r (omega arith)

-- lengths that are the same at every split lead the same walk, over any look-up and bounds
pub walk_same : (T : List ℕ) (x : ℕ) (find lefts rights lens lens' : ℕ → ℕ)
    → ((m : ℕ) → 0 < m → m < length T → lens m ≡ lens' m)
    → walk T x find lefts rights lens ≡ walk T x find lefts rights lens'
walk_same T x find lefts rights lens lens' same =
    let n = length T in
    let r = lefts 0 in
    by_size n
    (λ e. walk_none T x find lefts rights lens e ∙ sym (walk_none T x find lefts rights lens' e))
    (λ e. walk_one T x find lefts rights lens e ∙ sym (walk_one T x find lefts rights lens' e))
    (λ h.
    walk_two T x find lefts rights lens h r refl
    ∙ by_test (leb 1 r)
    (λ a. by_test (ltb r n)
    (λ b.
    let pos = leb-true 1 r a in
    let small = ltb-true r n b in
    let end = descend_split T lens' x find 64 r 64 pos small in
    rw (same r pos small, descend_same T x find lens lens' same 64 r 64 pos small, same _ end.0 end.1))
    (λ b. rw (a, b)))
    (λ a. rw a)
    ∙ sym (walk_two T x find lefts rights lens' h r refl))

module _ (T : List ℕ) (t : Table T) (x : ℕ) where
  rooted : 2 ≤ length T → (0 < root T) × (root T < length T) × (len T (root T) ≤ 63)
  rooted h =
      let p = root_pos T h in
      let s = root_lt T h in
      (p, s, omega (arith, len_lt T t (root T) p s))

  root_path : 2 ≤ length T → on_path T x (root T) ≡ true → OnPath T x (root T)
  root_path h e = record { pos = root_pos T h; small = root_lt T h; same = eqb-true _ _ e }

  -- the walk over the table ends at the deepest split on x's path
  end_deepest : 2 ≤ length T → on_path T x (root T) ≡ true
      → Deepest T x (descend T (len T) x (onward_split T x) 64 (root T) 64).node
  end_deepest h e =
      descend_deep T t x 64 (root T) 64 (root_path h e) (le_refl 64) (λ k P. len_lt T t k P.pos P.small)
      (omega arith)

  -- a key without the root's string stands before all rows or after all
  off_root : 2 ≤ length T → on_path T x (root T) ≡ false
      → cond (leb x (key_at T (root T))) 0 (length T) ≡ smaller T x
  off_root h off =
      let r = root T in
      let L = len T r in
      let q = root_lt T h in
      let c = smaller T x in
      let apart = eqb-false (first_bits L x) (first_bits L (key_at T r)) off in
      by_test (leb x (key_at T r))
      (λ e. rw e (
      let le : first_bits L x ≤ first_bits L (key_at T r) = shr_mono (64 - L) (leb-true x (key_at T r) e) in
      let first = less_by L x (key_at T 0) (omega (arith, apart, root_all T t 0 (omega arith) h)) in
      let no : ¬ (0 < c) = λ g. (omega (arith, smaller_low T t x 0 g)) in
      omega arith))
      (λ e. rw e (
      let le : first_bits L (key_at T r) ≤ first_bits L x = shr_mono (64 - L) (le_of_lt (leb-false x (key_at T r) e)) in
      let no : ¬ (c < length T) = λ g. (
      let last = less_by L (key_at T c) x (omega (arith, apart, root_all T t c g h)) in
      omega (arith, smaller_high T t x c (le_refl c) g)) in
      omega (arith, smaller_most T t x)))

  one_row : length T ≡ 1 → cond (leb x (key_at T 0)) 0 1 ≡ smaller T x
  one_row e =
      let c = smaller T x in
      by_test (leb x (key_at T 0))
      (λ k. rw k (let no : ¬ (0 < c) = λ g. (omega (arith, smaller_low T t x 0 g, leb-true x (key_at T 0) k)) in
      omega arith))
      (λ k. rw k (
      let no : ¬ (c ≤ 0) = λ g. (omega (arith, smaller_high T t x 0 g (omega arith), leb-false x (key_at T 0) k)) in
      omega (arith, smaller_most T t x)))

  -- W4: the walk over the table counts the smaller keys, and refuses nothing
  pub path_answer : (path_walk T x).answer ≡ before (smaller T x)
  unfolding path_walk
  path_answer =
      let find = onward_split T x in
      let ls = left_entry T in
      let rs = right_entry T in
      by_size (length T)
      (λ e. rw (walk_none T x find ls rs (len T) e)
      (let none : 0 ≡ smaller T x = omega (arith, smaller_most T t x) in ap before none))
      (λ e. rw (walk_one T x find ls rs (len T) e) (ap before (one_row e)))
      (λ h. by_test (on_path T x (root T))
      (λ on.
      let D = end_deepest h on in
      let m = (descend T (len T) x find 64 (root T) 64).node in
      rw (walk_on T x find ls rs (len T) h (root T) (left_root T) (rooted h) on)
      (rw (left_split T m D.path.pos, right_split T m D.path.pos) (decides T t x m D)))
      (λ off. rw (walk_off T x find ls rs (len T) h (root T) (left_root T) (rooted h) off) (ap before (off_root h off))))

  -- W3: over what an accepted build leaves the walk is that over the table
  pub stored_walk : (lookUp : ℕ → ℕ) (lefts rights lengths : List ℕ) → Stored T lookUp lefts rights lengths
      → store_walk T x lookUp lefts rights lengths ≡ path_walk T x
  unfolding path_walk store_walk
  stored_walk lookUp lefts rights lengths S =
      let look : ℕ → ℕ = λ f. lookUp (prefix_item x f) in
      let lefts' : ℕ → ℕ = λ m. get_or lefts m 0 in
      let rights' : ℕ → ℕ = λ m. get_or rights m 0 in
      let find = onward_split T x in
      let ls = left_entry T in
      let rs = right_entry T in
      walk_same T x look lefts' rights' (stored_length lengths) (len T) (λ m h l. S.lengths_are m l ∙ length_split T m h)
      ∙ by_size (length T)
      (λ e. walk_none T x look lefts' rights' (len T) e ∙ sym (walk_none T x find ls rs (len T) e))
      (λ e. walk_one T x look lefts' rights' (len T) e ∙ sym (walk_one T x find ls rs (len T) e))
      (λ h.
      let at-root : lefts' 0 ≡ root T = S.lefts_are 0 (omega arith) ∙ left_root T in
      by_test (on_path T x (root T))
      (λ on.
      let D = end_deepest h on in
      let d = descend T (len T) x find 64 (root T) 64 in
      let same : descend T (len T) x look 64 (root T) 64 ≡ d =
      descend_path T t x lookUp S.handles_lead 64 (root T) 64 (root_path h on) (le_refl 64) in
      let s = D.path.small in
      walk_on T x look lefts' rights' (len T) h (root T) at-root (rooted h) on
      ∙ (rw (same, S.lefts_are d.node s, S.rights_are d.node s))
      ∙ sym (walk_on T x find ls rs (len T) h (root T) (left_root T) (rooted h) on))
      (λ off. walk_off T x look lefts' rights' (len T) h (root T) at-root (rooted h) off
      ∙ sym (walk_off T x find ls rs (len T) h (root T) (left_root T) (rooted h) off)))

-- the laws of specs/Vouched
pub true_lengths : TrueLengths
true_lengths T x find lefts rights lens is = walk_same T x find lefts rights lens (len T) is

pub long_root : LongRoot
long_root T x find lefts rights lens two long =
    ap (λ (w : Walk). w.answer) (walk_bad T x find lefts rights lens two (lefts 0) refl (λ R. omega (arith, R.2)))

pub long_split : LongSplit
long_split T lens x f upper m top long =
    by_test (accepted T lens x f upper m)
    (λ ok. absurd (omega (arith, (accepted_means T lens x f upper m ok).short)))
    (λ ok. ok)
