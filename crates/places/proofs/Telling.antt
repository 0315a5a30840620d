-- Two places of which the same is said are the same; and what an ask says where the walk goes past the root. Assumes
-- nothing.
use Rattle.std.proofs.Common.{◌≡◌, ℕ, ◌≤◌, ◌<◌, Bool, true, List, length, get_or, sym}
use Rattle.words.specs.Keys.{prefix_item}
use Rattle.cells.specs.Cells.{map_value}
use Rattle.tables.specs.Lengths.{handle_count}
use Rattle.walks.specs.Walk.{agrees, Walk, decide, walk, stored_length, store_walk}
use Rattle.descent.specs.Inner.{Reached}
use Rattle.descent.specs.declared.Descended.{Descended}
use Rattle.places.specs.Said.{told, walk_says}
use Rattle.places.specs.declared.Place.{Place}
use Rattle.walks.proofs.Answering.{walk_on}

-- two places of which the same is said are the same
pub same_place : (p q : Place) → p.before ≡ q.before → p.probes ≡ q.probes → p.stands ≡ q.stands → p ≡ q
same_place p q e f g =
    let made : ℕ → ℕ → Bool → Place = λ b n s. record { before = b; probes = n; stands = s } in
    let z : made p.before p.probes p.stands ≡ made q.before q.probes q.stands = cc in z

-- what the walk looks up
abbrev look : (T handles : List ℕ) → ℕ → ℕ → ℕ → ℕ
look T handles seed x f = map_value handles (handle_count (length T)) seed (prefix_item x f)

-- the probes end where the walk does, and what is read there decides
module _ (T handles lefts rights lengths : List ℕ) (seed x : ℕ) where
  from : {w : Walk}
      → walk T x (look T handles seed x) (λ m. get_or lefts m 0) (λ m. get_or rights m 0) (stored_length lengths) ≡ w
      → told T x (length w.probed) w.answer ≡ walk_says T handles lefts rights lengths seed x
  unfolding walk_says store_walk
  from e = rw e

  pub says_walk : {r a b : ℕ} {d : Descended} → 2 ≤ length T → r ≡ get_or lefts 0 0 → 0 < r → r < length T
      → stored_length lengths r ≤ 63 → agrees T x r (stored_length lengths r) ≡ true
      → Reached T (stored_length lengths) x (look T handles seed x) r d
      → a ≡ get_or lefts d.node 0 → b ≡ get_or rights d.node 0
      → told T x d.probes (decide T x d.lower a d.node b) ≡ walk_says T handles lefts rights lengths seed x
  says_walk {r = r} two e pos small short on D u v =
      rw (D.lower_is, u, v, D.probes_is, D.node_is)
      (from (walk_on T x (look T handles seed x) (λ m. get_or lefts m 0) (λ m. get_or rights m 0) (stored_length lengths)
      two r (sym e) (pos, small, short) on))
