-- What the lent work holds: for each of `cap` cells the number of items there and the xor of their numbers, then for
-- each item a mark of the cell that it is peeled at, then the items in the order of their turns.
use Rattle.std.specs.Prelude.{◌≡◌, Bool, cond, List, ℕ, zero, suc, ◌+◌, ◌-◌, ◌<◌, ◌≤◌, eqb, length, get_or}
use Rattle.std.specs.Int.Bits.{bit_xor}
use Rattle.jams.specs.Jam.{size_of}
use Rattle.jams.specs.Inner.Peel.{touchb, live, Peeling, still}

-- one more where the test is true
abbrev pub more_if : Bool → ℕ → ℕ
more_if b n = cond b (suc n) n

-- i xored in where the test is true
abbrev pub xor_if : Bool → ℕ → ℕ → ℕ
xor_if b i x = cond b (bit_xor x i) x

-- the xor of the numbers below t that are in the set
unfoldable pub xor_of : (ℕ → Bool) → ℕ → ℕ
xor_of s zero = zero
xor_of s (suc t) = xor_if (s t) t (xor_of s t)

-- b is a with item i put in at cell c
pub record PutAt (cap c i : ℕ) (a b : List ℕ) : Type 0 where
  pub count : get_or b c 0 ≡ get_or a c 0 + 1
  pub xor : get_or b (cap + c) 0 ≡ bit_xor (get_or a (cap + c) 0) i
  pub rest : (k : ℕ) → (k ≡ c → ⊥) → (k ≡ cap + c → ⊥) → get_or b k 0 ≡ get_or a k 0

-- b is a with item i put in at each of its cells
pub record Put (e : ℕ → ℕ → ℕ) (cap i : ℕ) (a b : List ℕ) : Type 0 where
  pub count : (c : ℕ) → c < cap → get_or b c 0 ≡ more_if (touchb e i c) (get_or a c 0)
  pub xor : (c : ℕ) → c < cap → get_or b (cap + c) 0 ≡ xor_if (touchb e i c) i (get_or a (cap + c) 0)
  pub rest : (k : ℕ) → cap + cap ≤ k → get_or b k 0 ≡ get_or a k 0

-- item i's three cells rise, and lie below cap
pub record Spread (e : ℕ → ℕ → ℕ) (cap i : ℕ) : Type 0 where
  pub first : e 0 i < e 1 i
  pub second : e 1 i < e 2 i
  pub third : e 2 i < cap

-- w holds at each cell c how many of the set `s c` there are and the xor of their numbers
pub record CellsHold (t cap : ℕ) (s : ℕ → ℕ → Bool) (w : List ℕ) : Type 0 where
  pub count : (c : ℕ) → c < cap → get_or w c 0 ≡ size_of (s c) t
  pub xor : (c : ℕ) → c < cap → get_or w (cap + c) 0 ≡ xor_of (s c) t

-- the first m places are there, and 0
pub record Blank (m : ℕ) (xs : List ℕ) : Type 0 where
  pub long : m ≤ length xs
  pub zeros : (k : ℕ) → k < m → get_or xs k 0 ≡ 0

-- b is as a from place m on
abbrev pub Beyond : ℕ → List ℕ → List ℕ → Type 0
Beyond m a b = (k : ℕ) → m ≤ k → get_or b k 0 ≡ get_or a k 0

-- 1 more than the cell that item i is peeled at, and 0 while it has no turn
abbrev pub mark : ℕ → List ℕ → ℕ → ℕ
mark cap w i = get_or w (cap + cap + i) 0

-- the item of turn p, and its cell
abbrev pub turn_item : ℕ → ℕ → List ℕ → ℕ → ℕ
turn_item cap t w p = get_or w (cap + cap + t + p) 0

abbrev pub turn_cell : ℕ → ℕ → List ℕ → ℕ → ℕ
turn_cell cap t w p = mark cap w (turn_item cap t w p) - 1

-- n items have their turns, and the first q of them are taken out: w says which, where, and what is left
pub record Peeled (e : ℕ → ℕ → ℕ) (t cap : ℕ) (w : List ℕ) (q n : ℕ) : Type 0 where
  pub order : Peeling e t (turn_item cap t w) (turn_cell cap t w) n
  pub holds : CellsHold t cap (still e (turn_item cap t w) q) w
  pub marks : (i : ℕ) → i < t → eqb (mark cap w i) 0 ≡ live (turn_item cap t w) n i
  pub behind : q ≤ n

-- if one item is left at cell k, it has its turn
abbrev pub Seen : ℕ → List ℕ → ℕ → Type 0
Seen cap w k = get_or w k 0 ≡ 1 → mark cap w (get_or w (cap + k) 0) ≡ 0 → ⊥

-- each item that is left alone at a cell has its turn
abbrev pub AllSeen : ℕ → List ℕ → Type 0
AllSeen cap w = (k : ℕ) → k < cap → Seen cap w k

-- cell c can be tried, with n turns given: there is room, and what is left alone at a cell is an item
pub record Tryable (cap t : ℕ) (w : List ℕ) (n c : ℕ) : Type 0 where
  pub below : c < cap
  pub narrow : cap < 65536
  pub few : t < 65536
  pub long : cap + cap + t + t ≤ length w
  pub items : (k : ℕ) → k < cap → get_or w k 0 ≡ 1 → get_or w (cap + k) 0 < t
  pub room : get_or w c 0 ≡ 1 → mark cap w (get_or w (cap + c) 0) ≡ 0 → n < t

-- cell c was tried: w with n turns given became w' with r. Whatever cells the items touch and however many are taken
-- out, w' says of r turns what w said of n
pub record CellTried (cap t c : ℕ) (w : List ℕ) (n : ℕ) (w' : List ℕ) (r : ℕ) : Type 0 where
  pub peeled : (e : ℕ → ℕ → ℕ) (q : ℕ) → Peeled e t cap w q n → Peeled e t cap w' q r
  pub here : Seen cap w' c
  pub kept : (k : ℕ) → k < cap → Seen cap w k → Seen cap w' k
  pub beyond : Beyond (cap + cap + t + t) w w'
