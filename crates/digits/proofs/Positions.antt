-- Laws of what stands at a position of a text: its bytes, parts of it, texts one after the other, and texts of which
-- none begins another. Assumes nothing.
use Rattle.std.proofs.Common.{Option, Some, None}
use Prim.Native.Nat.{ℕ, ◌+◌, ◌-◌, ◌<◌, ◌≤◌}
use native.Mathlib.Numerals.{add-one}
use native.Mathlib.Omega.{arith}
use mathlib.Core.List.{List, [], ◌∷◌, ◌++◌, append_assoc, append_cancel_left, append-nil}
use mathlib.Core.Path.{◌≡◌, refl, sym, ap, ◌∙◌}
use lib.ListN.{length, take, drop, get_or, length-append, length-drop, drop_of_length-le, take-append-drop}
use lib.ListN.{get_or-append}
use lib.Seq.{get_or-drop, get_or-take, length-take-le, drop-append-le, slice, take-take, take-suc}
use Rattle.digits.specs.Texts.{From, Has, Hasnt, Reads}
use Rattle.digits.specs.declared.Read.{Read}

-- the bytes of a text that stands at i
module _ (s : List ℕ) (i : ℕ) (t rest : List ℕ) (f : From s i (t ++ rest)) where
  pub from_length : i + length t + length rest ≡ length s
  from_length =
      let e : length s - i ≡ length t + length rest =
      sym (length-drop i s) ∙ ap length f.1 ∙ length-append t rest in
      let h = f.0 in
      omega arith

  pub from_at : (k : ℕ) → k < length t → get_or s (i + k) 0 ≡ get_or t k 0
  from_at k h = sym (get_or-drop i s k 0) ∙ ap (λ (l : List ℕ). get_or l k 0) f.1 ∙ get_or-append t rest 0 k h

-- a part of s is made of two, grows by a byte, and is followed by the rest of s
pub slice_split : (s : List ℕ) (i k j : ℕ) → i ≤ k → k ≤ j → j ≤ length s
    → slice i j s ≡ slice i k s ++ slice k j s
slice_split s i k j h g l =
    let e : take j s ≡ take k s ++ slice k j s =
    sym (take-append-drop k (take j s)) ∙ ap (λ (x : List ℕ). x ++ slice k j s) (take-take k j s g) in
    ap (drop i) e ∙ drop-append-le i (take k s) (slice k j s) (omega (arith, length-take-le k s (omega arith)))

pub slice_snoc : (s : List ℕ) (i k : ℕ) → i ≤ k → k < length s
    → slice i (k + 1) s ≡ slice i k s ++ (get_or s k 0 ∷ [])
slice_snoc s i k h l =
    let e : take (k + 1) s ≡ take k s ++ (get_or s k 0 ∷ []) = rw add-one (take-suc s k 0 l) in
    ap (drop i) e ∙ drop-append-le i (take k s) (get_or s k 0 ∷ []) (omega (arith, length-take-le k s (omega arith)))

pub slice_join : (s : List ℕ) (i j : ℕ) → i ≤ j → j ≤ length s → drop i s ≡ slice i j s ++ drop j s
slice_join s i j h l =
    ap (drop i) (sym (take-append-drop j s))
    ∙ drop-append-le i (take j s) (drop j s) (omega (arith, length-take-le j s l))

pub slice_at : (s : List ℕ) (i j k : ℕ) → i + k < j → get_or (slice i j s) k 0 ≡ get_or s (i + k) 0
slice_at s i j k h = get_or-drop i (take j s) k 0 ∙ get_or-take j s (i + k) 0 h

-- the part from i to j stands at i
pub slice_has : (s : List ℕ) (i j : ℕ) (t : List ℕ) → i ≤ j → j ≤ length s → t ≡ slice i j s
    → length t ≡ j - i → Has s i t j
slice_has s i j t h g e l = record { from = (omega arith, slice_join s i j h g ∙ rw e); to = omega arith }

-- the first of two texts
pub from_first : (s : List ℕ) (i : ℕ) (t u rest : List ℕ) → From s i ((t ++ u) ++ rest)
    → From s i (t ++ (u ++ rest))
from_first s i t u rest f = (f.0, f.1 ∙ append_assoc t u rest)

pub hasnt_first : (s : List ℕ) (i : ℕ) (t u : List ℕ) → Hasnt s i t → Hasnt s i (t ++ u)
hasnt_first s i t u h rest f = h (u ++ rest) (from_first s i t u rest f)

-- after a text that stands there
module _ (s : List ℕ) (i j : ℕ) (t : List ℕ) (h : Has s i t j) where
  pub has_within : j ≤ length s
  has_within = let a = from_length s i t (drop j s) h.from in let b = h.to in omega arith

  pub has_then : (u : List ℕ) (k : ℕ) → Has s j u k → Has s i (t ++ u) k
  has_then u k g = record {
    from = (
      h.from.0,
      h.from.1 ∙ ap (λ (l : List ℕ). t ++ l) g.from.1
          ∙ sym (append_assoc t u (drop k s)),
    );
    to = let a = h.to in let b = g.to in let c = length-append t u in omega arith;
  }

  from_rest : (rest : List ℕ) → From s i (t ++ rest) → From s j rest
  from_rest rest f = (has_within, append_cancel_left t (drop j s) rest (sym h.from.1 ∙ f.1))

  pub hasnt_then : (u : List ℕ) → Hasnt s j u → Hasnt s i (t ++ u)
  hasnt_then u g rest f = g rest (from_rest (u ++ rest) (from_first s i t u rest f))

-- a text from the start to the end is all
pub has_whole : (s t : List ℕ) (j : ℕ) → Has s 0 t j → j ≡ length s → s ≡ t
has_whole s t j h e =
    let z : drop j s ≡ [] = drop_of_length-le s {i = j} (omega arith) in
    h.from.1 ∙ ap (λ (l : List ℕ). t ++ l) z ∙ append-nil t

-- a reading is its number and the position after it
pub read_is : (r q : Read) → r.value ≡ q.value → r.next ≡ q.next → r ≡ q
read_is r q e f = ap (λ (v : ℕ). record r { value = v }) e ∙ ap (λ (j : ℕ). record q { next = j }) f

-- no text of a number up to `most` begins another's
abbrev pub Unique : ℕ → (ℕ → List ℕ) → Type 0
Unique most text =
    (v w : ℕ) (r q : List ℕ) → v ≤ most → w ≤ most → text v ++ r ≡ text w ++ q → v ≡ w

module _ (most : ℕ) (text : ℕ → List ℕ) (u : Unique most text) where
  -- equal texts, equal numbers and equal rests
  pub unique_rest : (v w : ℕ) (r q : List ℕ) → v ≤ most → w ≤ most → text v ++ r ≡ text w ++ q
      → (v ≡ w) × (r ≡ q)
  unique_rest v w r q hv hw e =
      let p : v ≡ w = u v w r q hv hw e in
      (p, append_cancel_left (text w) r q (ap (λ (x : ℕ). text x ++ r) (sym p) ∙ e))

  -- what was found is what stands there, and the rest follows it
  pub has_same : (s : List ℕ) (i v j w : ℕ) (rest : List ℕ) → v ≤ most → w ≤ most → Has s i (text v) j
      → From s i (text w ++ rest)
      → (v ≡ w) × From s j rest
  has_same s i v j w rest hv hw h f =
      let p = unique_rest v w (drop j s) rest hv hw (sym h.from.1 ∙ f.1) in
      (p.0, (has_within s i j (text v) h, p.1))

  pub read_same : (s : List ℕ) (i : ℕ) (r : Read) → Reads most text s i (Some r) → (w : ℕ) (rest : List ℕ)
      → w ≤ most → From s i (text w ++ rest)
      → (r.value ≡ w) × From s r.next rest
  unfolding Reads
  read_same s i r h w rest hw f = has_same s i r.value r.next w rest h.0 hw h.1 f

  -- a reader's contract leaves one result
  pub reads_determined : (s : List ℕ) (i : ℕ) (r q : Option Read) → Reads most text s i r → Reads most text s i q
      → r ≡ q
  unfolding Reads
  reads_determined s i (Some r) (Some q) h g =
      let e : r.value ≡ q.value = (has_same s i r.value r.next q.value (drop q.next s) h.0 g.0 h.1 g.1.from).0 in
      let d : r.next ≡ q.next = h.1.to ∙ ap (λ (x : ℕ). i + length (text x)) e ∙ sym g.1.to in
      ap Some (read_is r q e d)
  reads_determined s i (Some r) None h g = absurd (g r.value h.0 (drop r.next s) h.1.from)
  reads_determined s i None (Some q) h g = absurd (h q.value g.0 (drop q.next s) g.1.from)
  reads_determined s i None None h g = refl

-- a tag before the text
pub tag_unique : (tag : List ℕ) (most : ℕ) (text : ℕ → List ℕ) → Unique most text
    → Unique most (λ v. tag ++ text v)
tag_unique tag most text u v w r q hv hw e =
    u v w r q hv hw (append_cancel_left tag (text v ++ r) (text w ++ q)
    (sym (append_assoc tag (text v) r) ∙ e ∙ append_assoc tag (text w) q))
