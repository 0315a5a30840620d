-- Document 01, "The walk", with the lengths of request Six: from the root to the deepest split whose string x has, over
-- any look-up and stores, and over the table alone.
use Rattle.std.specs.Prelude.{◌≡◌, Bool, cond, ◌&&◌, List, [], ◌∷◌, ℕ, zero, suc, ◌-◌, ◌≤◌, ◌<◌, eqb, leb, ltb, length, get_or}
use Rattle.words.specs.Keys.{first_bits, bit_at, prefix_item}
use Rattle.words.specs.Fat.{fattest_of}
use Rattle.tables.specs.Tables.{key_at}
use Rattle.splits.specs.Splits.{len, root, handle_item, left_entry, right_entry, length_entry}

-- x has the first l bits of key m
abbrev pub agrees : List ℕ → ℕ → ℕ → ℕ → Bool
agrees T x m l = eqb (first_bits l x) (first_bits l (key_at T m))

-- x has the first len m bits of key m: split m is on x's path
abbrev pub on_path : List ℕ → ℕ → ℕ → Bool
on_path T x m = agrees T x m (len T m)

-- the probe is at the 2-fattest number strictly between lower and upper
abbrev pub probe_at : ℕ → ℕ → ℕ
probe_at lower upper = fattest_of lower (upper - 1)

-- what a look-up at f gave is accepted: 1 ≤ m < n, f ≤ its length < upper, and x has as many first bits of key m.
-- `lens m` is the length that the walk takes for split m
unfoldable pub accepted : List ℕ → (ℕ → ℕ) → ℕ → ℕ → ℕ → ℕ → Bool
accepted T lens x f upper m =
    leb 1 m && (ltb m (length T) && (leb f (lens m) && (ltb (lens m) upper && agrees T x m (lens m))))

-- the lengths probed, and the last node accepted
pub record Descent : Type 0 where
  pub probed : List ℕ
  pub node : ℕ

-- while a number lies strictly between lower, the node's length, and upper, one probe: `find f` is what the look-up of
-- x's first f bits gives. If it is accepted it is the node from there on, otherwise f is upper. Each turn brings lower
-- and upper nearer, so 64 turns never run out (`TurnsSuffice`)
unfoldable pub descend : List ℕ → (ℕ → ℕ) → ℕ → (ℕ → ℕ) → ℕ → ℕ → ℕ → Descent
descend T lens x find zero node upper = record { probed = []; node = node }
descend T lens x find (suc turns) node upper =
    let f = probe_at (lens node) upper in
    let m = find f in
    let ok = accepted T lens x f upper m in
    let rest = descend T lens x find turns (cond ok m node) (cond ok upper f) in
    let more : Descent = record { probed = f ∷ rest.probed; node = rest.node } in
    cond (ltb (suc (lens node)) upper) more (record { probed = []; node = node })

-- why 64 turns may stand for any number of them: more of them change nothing
abbrev pub TurnsSuffice : Type 0
TurnsSuffice =
    (T : List ℕ) (lens : ℕ → ℕ) (x : ℕ) (find : ℕ → ℕ) (more node upper : ℕ) → 64 ≤ more → upper ≤ 64
    → descend T lens x find more node upper ≡ descend T lens x find 64 node upper

-- the number of keys before x, or refusal 6
pub data Answer : Type 0 where
  before : ℕ → Answer
  spoiled : Answer

-- the end: a, m and b are the node's left, split and right, and lower is its length
unfoldable pub decide : List ℕ → ℕ → ℕ → ℕ → ℕ → ℕ → Answer
decide T x lower a m b =
    cond (ltb a m && (ltb m b && leb b (length T)))
    (cond (eqb (bit_at lower x) 0) (before (cond (leb x (key_at T a)) a m)) (before (cond (leb x (key_at T m)) m b)))
    spoiled

-- the lengths probed in order, the node at which the walk ends, and the answer
pub record Walk : Type 0 where
  pub probed : List ℕ
  pub node : ℕ
  pub answer : Answer

-- the walk for x: `find` is the look-up, lefts and rights are the entries of the stores, and lens the lengths of the
-- splits
unfoldable pub walk : List ℕ → ℕ → (find lefts rights lens : ℕ → ℕ) → Walk
walk T x find lefts rights lens =
    let n = length T in
    let r = lefts 0 in
    let stop : ℕ → Answer → Walk = λ m a. record { probed = []; node = m; answer = a } in
    let d = descend T lens x find 64 r 64 in
    let end = d.node in
    let all : Walk = record {
      probed = d.probed;
      node = end;
      answer =
          decide T x (lens end) (lefts end) end (rights end);
    } in
    cond (eqb n 0) (stop 0 (before 0))
    (cond (eqb n 1) (stop 0 (before (cond (leb x (key_at T 0)) 0 1)))
    (cond (leb 1 r && (ltb r n && leb (lens r) 63))
    (cond (agrees T x r (lens r)) all (stop r (before (cond (leb x (key_at T r)) 0 n))))
    (stop r spoiled)))

-- the length that a store of lengths keeps for split m, true or false: the walk takes it as it stands
abbrev pub stored_length : List ℕ → ℕ → ℕ
stored_length lengths m = get_or lengths m 0

-- the walk over a look-up of items, the two stores of bounds and the store of lengths
unfoldable pub store_walk : List ℕ → ℕ → (ℕ → ℕ) → (lefts rights lengths : List ℕ) → Walk
store_walk T x lookUp lefts rights lengths =
    walk T x (λ f. lookUp (prefix_item x f)) (λ m. get_or lefts m 0) (λ m. get_or rights m 0) (stored_length lengths)

-- of the splits 1 to m on x's path the one with the least length from f on; 0 if there is none
unfoldable pub path_to : List ℕ → ℕ → ℕ → ℕ → ℕ
path_to T x f zero = zero
path_to T x f (suc m) =
    let v = path_to T x f m in
    cond (on_path T x (suc m) && leb f (len T (suc m)))
    (cond (eqb v 0) (suc m) (cond (ltb (len T (suc m)) (len T v)) (suc m) v)) v

-- the walk that needs no stores and takes the lengths of the table: at f it goes to the split on x's path with the
-- least length from f on, if that is below upper
unfoldable pub path_walk : List ℕ → ℕ → Walk
path_walk T x = walk T x (λ f. path_to T x f (length T - 1)) (left_entry T) (right_entry T) (len T)

-- what an accepted build leaves: each handle leads to its split, and the entries of the stores are those of the table
pub record Stored (T : List ℕ) (lookUp : ℕ → ℕ) (lefts rights lengths : List ℕ) : Type 0 where
  pub handles_lead : (m : ℕ) → 0 < m → m < length T → (m ≡ root T → ⊥) → lookUp (handle_item T m) ≡ m
  pub lefts_are : (m : ℕ) → m < length T → get_or lefts m 0 ≡ left_entry T m
  pub rights_are : (m : ℕ) → m < length T → get_or rights m 0 ≡ right_entry T m
  pub lengths_are : (m : ℕ) → m < length T → get_or lengths m 0 ≡ length_entry T m
