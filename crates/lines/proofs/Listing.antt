-- n lines one after the other: what is known while they are passed one by one, and while their numbers are loaded.
-- Assumes nothing.
use Prim.Native.Nat.{ℕ, suc, ◌+◌, ◌-◌, ◌<◌, ◌≤◌}
use native.Mathlib.Numerals.{add-one}
use native.Mathlib.Omega.{arith}
use mathlib.Core.List.{List, [], ◌∷◌, ◌++◌, append_assoc, append-nil}
use mathlib.Core.Path.{◌≡◌, refl, sym, ap, ◌∙◌}
use lib.ListN.{length, drop, get_or, set, length-append, length-drop}
use lib.Seq.{drop-cons, set_at, drop_at, drop-drop}
use Rattle.digits.specs.Texts.{Reads}
use Rattle.digits.specs.declared.Read.{Read}
use Rattle.std.proofs.Common.{Some, None}
use Rattle.digits.proofs.Positions.{has_within, has_then, Unique, unique_rest}
use Rattle.lines.specs.Lines.{texts, AllWithin, LinesAt, NoLines, Lined, Loads}

pub texts_append : (line : ℕ → List ℕ) (xs ys : List ℕ)
    → texts line (xs ++ ys) ≡ texts line xs ++ texts line ys
unfolding texts
texts_append line [] ys = refl
texts_append line (x ∷ xs) ys =
    ap (λ (l : List ℕ). line x ++ l) (texts_append line xs ys)
    ∙ sym (append_assoc (line x) (texts line xs) (texts line ys))

-- the lines of xs and one more
pub texts_snoc : (line : ℕ → List ℕ) (xs : List ℕ) (x : ℕ)
    → texts line (xs ++ (x ∷ [])) ≡ texts line xs ++ line x
unfolding texts
texts_snoc line xs x =
    texts_append line xs (x ∷ []) ∙ ap (λ (l : List ℕ). texts line xs ++ l) (append-nil (line x))

within_snoc : (most : ℕ) (xs : List ℕ) (x : ℕ) → AllWithin most xs → x ≤ most
    → AllWithin most (xs ++ (x ∷ []))
within_snoc most [] x w h = (h, tt)
within_snoc most (y ∷ xs) x w h = (w.0, within_snoc most xs x w.1 h)

-- ---- the lines of two lists at one place

module _ (most : ℕ) (line : ℕ → List ℕ) (u : Unique most line) where
  -- the lines of the shorter list are the first of the longer one's
  lines_first : (xs ys r q : List ℕ) → length xs ≤ length ys → AllWithin most xs → AllWithin most ys
      → texts line xs ++ r ≡ texts line ys ++ q
      → (zs : List ℕ) × (ys ≡ xs ++ zs) × AllWithin most zs × (r ≡ texts line zs ++ q)
  unfolding texts
  lines_first [] ys r q l a b e = (ys, refl, b, e)
  lines_first (x ∷ xs) [] r q l a b e = absurd (omega arith)
  lines_first (x ∷ xs) (y ∷ ys) r q l a b e =
      let f : line x ++ (texts line xs ++ r) ≡ line y ++ (texts line ys ++ q) =
      sym (append_assoc (line x) (texts line xs) r) ∙ e ∙ append_assoc (line y) (texts line ys) q in
      let p = unique_rest most line u x y (texts line xs ++ r) (texts line ys ++ q) a.0 b.0 f in
      let w = lines_first xs ys r q (omega arith) a.1 b.1 p.1 in
      (w.0, let g = p.0 in let k = w.1 in cc, w.2, w.3)

  -- the texts determine the numbers
  pub lines_unique : (xs ys r q : List ℕ) → length xs ≡ length ys → AllWithin most xs → AllWithin most ys
      → texts line xs ++ r ≡ texts line ys ++ q → (xs ≡ ys) × (r ≡ q)
  unfolding texts
  lines_unique xs ys r q l a b e = let w = lines_first xs ys r q (omega arith) a b e in none w.0 w.1 w.3
    where
      none : (zs : List ℕ) → ys ≡ xs ++ zs → r ≡ texts line zs ++ q → (xs ≡ ys) × (r ≡ q)
      none [] e f = (sym (append-nil xs) ∙ sym e, f)
      none (z ∷ zs) e f = let n = ap length e in let m = length-append xs (z ∷ zs) in absurd (omega arith)

-- ---- n lines passed one by one

pub read_within : (most : ℕ) (line : ℕ → List ℕ) (s : List ℕ) (i : ℕ) (r : Read)
    → Reads most line s i (Some r) → r.value ≤ most
unfolding Reads
read_within most line s i r h = h.0

module _ (most : ℕ) (line : ℕ → List ℕ) (s : List ℕ) (i : ℕ) where
  pub lined_start : i ≤ length s → Lined most line 0 s i (Some i)
  unfolding Lined texts
  lined_start h = ([], record { count = refl; within = tt; stand = record { from = (h, refl); to = omega arith } })

  pub lined_outside : (n : ℕ) → length s < i → Lined most line n s i None
  unfolding Lined
  lined_outside n h xs l w rest f = omega arith

  -- k lines were passed, and `at` is the place after them
  module _ (k at : ℕ) where
    one_more : (r : Read) (xs : List ℕ) → LinesAt most line k s i at xs → Reads most line s at (Some r)
        → LinesAt most line (k + 1) s i r.next (xs ++ (r.value ∷ []))
    unfolding Reads
    one_more r xs l g = record {
      count = length-append xs (r.value ∷ []) ∙ ap (λ (n : ℕ). n + 1) l.count;
      within = within_snoc most xs r.value l.within g.0;
      stand = rw (texts_snoc line xs r.value) (has_then s i at (texts line xs) l.stand (line r.value) r.next g.1);
    }

    none_more : (n : ℕ) (xs : List ℕ) → Unique most line → k < n → LinesAt most line k s i at xs
        → Reads most line s at None
        → NoLines most line n s i
    unfolding texts Reads
    none_more n xs u h l g ys m w rest f =
        let p = lines_first most line u xs ys (drop at s) rest (let e = l.count in omega arith) l.within w
        (sym l.stand.from.1 ∙ f.1) in
        next p.0 p.1 p.2 p.3
      where
        next : (zs : List ℕ) → ys ≡ xs ++ zs → AllWithin most zs → drop at s ≡ texts line zs ++ rest → ⊥
        next [] e wz d = let a = ap length e in let b = length-append xs [] in let c = l.count in omega arith
        next (z ∷ zs) e wz d =
            g z wz.0 (texts line zs ++ rest)
            (has_within s i at (texts line xs) l.stand, d ∙ append_assoc (line z) (texts line zs) rest)

    pub lined_more : (r : Read) → Lined most line k s i (Some at) → Reads most line s at (Some r)
        → Lined most line (k + 1) s i (Some r.next)
    unfolding Lined
    lined_more r l g = (l.0 ++ (r.value ∷ []), one_more r l.0 l.1 g)

    pub lined_bad : (n : ℕ) → Unique most line → k < n → Lined most line k s i (Some at)
        → Reads most line s at None
        → Lined most line n s i None
    unfolding Lined
    lined_bad n u h l g = none_more n l.0 u h l.1 g

    -- ---- the same, with the numbers put into `out`, which then is `after`
    module _ (out after : List ℕ) where
      pub loads_length : Loads most line k s i out after (Some at) → length after ≡ length out
      unfolding Loads
      loads_length l =
          let a = length-append l.1.0 (drop k out) in
          let b = length-drop k out in
          let c = l.1.1.count in
          let d = l.0 in
          ap length l.1.2 ∙ omega arith

      pub loads_more : (r : Read) → k < length out → Loads most line k s i out after (Some at)
          → Reads most line s at (Some r)
          → Loads most line (k + 1) s i out (set after k r.value) (Some r.next)
      unfolding Loads
      loads_more r room l g =
          let v = r.value in
          let xs = l.1.0 in
          let e : set after k v ≡ xs ++ (v ∷ drop (suc k) out) =
          ap (λ (x : List ℕ). set x k v) (l.1.2 ∙ ap (λ (x : List ℕ). xs ++ x) (drop-cons out k 0 room))
          ∙ set_at xs (get_or out k 0) (drop (suc k) out) v k l.1.1.count in
          (omega arith, (xs ++ (v ∷ []), one_more r xs l.1.1 g, e ∙ rw (add-one, append_assoc)))

      pub loads_bad : (n : ℕ) → Unique most line → k < n → n ≤ length out
          → Loads most line k s i out after (Some at)
          → Reads most line s at None → Loads most line n s i out after None
      unfolding Loads
      loads_bad n u h room l g =
          let no = none_more n l.1.0 u h l.1.1 g in
          let e : k + (n - k) ≡ n = omega arith in
          let d : drop k after ≡ drop k out =
          ap (drop k) l.1.2 ∙ drop_at l.1.0 (drop k out) k l.1.1.count in
          let same : drop n after ≡ drop n out =
          rw e at (sym (drop-drop (n - k) k after) ∙ ap (drop (n - k)) d ∙ drop-drop (n - k) k out) in
          (λ room. no, loads_length l, same, λ small. absurd (omega arith))

module _ (most : ℕ) (line : ℕ → List ℕ) (s : List ℕ) (i : ℕ) (out : List ℕ) where
  pub loads_start : i ≤ length s → Loads most line 0 s i out out (Some i)
  unfolding Loads Lined lined_start
  loads_start h = let l = lined_start most line s i h in (omega arith, (l.0, l.1, refl))

  pub loads_small : (n : ℕ) → length out < n → Loads most line n s i out out None
  unfolding Loads
  loads_small n h = (λ room. absurd (omega arith), refl, refl, λ l. refl)

  pub loads_outside : (n : ℕ) → length s < i → Loads most line n s i out out None
  unfolding Loads Lined
  loads_outside n h = (λ room. lined_outside most line s i n h, refl, refl, λ l. refl)
