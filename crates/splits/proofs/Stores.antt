-- Stores written entry by entry, and what they hold when all is written. Assumes nothing.
use mathlib.Core.Path.{◌≡◌, refl, sym, ◌∙◌}
use mathlib.Core.List.{List, ◌++◌}
use mathlib.Core.Logic.{◌≢◌}
use Prim.Native.Nat.{ℕ, ◌+◌, ◌-◌, ◌≤◌, ◌<◌, zero-le}
use native.Mathlib.Decide.{dec_le, ℕ_discrete}
use native.Mathlib.Omega.{arith}
use lib.ListN.{length, get_or, set, drop, length-set, length-append, length-drop, get_or-append}
use lib.Seq.{ext_get_or, get_or-set_same, get_or-set_other, get_or-append-add, get_or-drop}
use Rattle.tables.specs.Tables.{listed}
use Rattle.tables.proofs.Lists.{length_listed, listed_at}
use Rattle.splits.specs.Inner.{Wrote}

-- a store written upwards and downwards
pub wrote_none : (k : ℕ) (entry : ℕ → ℕ) (a : List ℕ) → Wrote k k entry a a
wrote_none k entry a = record { entries = λ i h l. absurd (omega arith); below = λ i h. refl; beyond = λ i h. refl }

module _ (entry : ℕ → ℕ) (a b : List ℕ) (m v : ℕ) (fits : m < length b) (e : v ≡ entry m) where
  other : (i : ℕ) → i ≢ m → get_or (set b m v) i 0 ≡ get_or b i 0
  other i ne = get_or-set_other b m i v 0 ne

  here : (i : ℕ) → i ≡ m → get_or (set b m v) i 0 ≡ entry i
  here i is = rw is (get_or-set_same b m v 0 fits ∙ e)

  pub wrote_up : (lo : ℕ) → lo ≤ m → Wrote lo m entry a b → Wrote lo (m + 1) entry a (set b m v)
  wrote_up lo le W = record {
    entries =
        λ i h l. elim (ℕ_discrete i m) [ yes is ↦ here i is | no ne ↦ other i ne ∙ W.entries i h (omega arith) ];
    below = λ i h. other i (λ is. omega arith) ∙ W.below i h;
    beyond = λ i h. other i (λ is. omega arith) ∙ W.beyond i (omega arith);
  }

  pub wrote_down : (hi : ℕ) → m < hi → Wrote (m + 1) hi entry a b → Wrote m hi entry a (set b m v)
  wrote_down hi le W = record {
    entries =
        λ i h l. elim (ℕ_discrete i m) [ yes is ↦ here i is | no ne ↦ other i ne ∙ W.entries i (omega arith) l ];
    below = λ i h. other i (λ is. omega arith) ∙ W.below i (omega arith);
    beyond = λ i h. other i (λ is. omega arith) ∙ W.beyond i h;
  }

-- n entries and what stood beyond: how long, and what it holds
module _ (n : ℕ) (entry : ℕ → ℕ) (old : List ℕ) where
  pub entered_length : n ≤ length old → length (listed n entry ++ drop n old) ≡ length old
  entered_length room = simp (length-append, length-drop, length_listed) (omega arith)

  pub entered_at : (i : ℕ) → i < n → get_or (listed n entry ++ drop n old) i 0 ≡ entry i
  entered_at i h =
      get_or-append (listed n entry) (drop n old) 0 i (omega (arith, length_listed n entry))
      ∙ listed_at n entry i h

  pub entered_past : (i : ℕ) → n ≤ i → get_or (listed n entry ++ drop n old) i 0 ≡ get_or old i 0
  entered_past i h =
      let e = rw (length_listed n entry) at (get_or-append-add (listed n entry) (drop n old) (i - n) 0) in
      let back : n + (i - n) ≡ i = omega arith in
      rw back at (e ∙ get_or-drop n old (i - n) 0)

-- a store written from 0 up to n is that
pub wrote_whole : (n : ℕ) (entry : ℕ → ℕ) (a b : List ℕ) → n ≤ length a → length b ≡ length a
    → Wrote 0 n entry a b → b ≡ listed n entry ++ drop n a
wrote_whole n entry a b room same W =
    ext_get_or 0 b (listed n entry ++ drop n a) (same ∙ sym (entered_length n entry a room)) each
  where
    each : (i : ℕ) → i < length b → get_or b i 0 ≡ get_or (listed n entry ++ drop n a) i 0
    each i h = elim (dec_le n i) [
      | yes g ↦ W.beyond i g ∙ sym (entered_past n entry a i g)
      | no g ↦ W.entries i zero-le (omega arith) ∙ sym (entered_at n entry a i (omega arith))
    ]

-- the entries of the splits, and entry 0 after them; n and N count the same rows
pub wrote_first : (n N : ℕ) (entry : ℕ → ℕ) (a b : List ℕ) (v : ℕ) → n ≡ N → 0 < n
    → n ≤ length a → length b ≡ length a → v ≡ entry 0 → Wrote 1 n entry a b
    → set b 0 v ≡ listed N entry ++ drop N a
wrote_first n N entry a b v count some room same first W =
    rw (← count) (wrote_whole n entry a (set b 0 v) room (length-set b 0 v ∙ same) (wrote_down entry a b 0 v (omega arith) first n some W))

-- no entries, and what stood there
pub wrote_nothing : (n : ℕ) (entry : ℕ → ℕ) (a : List ℕ) → n ≡ 0 → a ≡ listed n entry ++ drop n a
unfolding listed
wrote_nothing n entry a e = rw e

-- the laws of a loop that writes the entries
pub ruleset writing = (wrote_none, wrote_up, wrote_down, wrote_nothing)
