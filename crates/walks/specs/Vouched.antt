-- Why the definitions may be believed: laws to hold against request Six, each proved in proofs/ as exactly this type.
use Rattle.std.specs.Prelude.{◌≡◌, false, List, ℕ, ◌≤◌, ◌<◌, length}
use Rattle.splits.specs.Splits.{len}
use Rattle.walks.specs.Walk.{accepted, spoiled, walk}

-- lengths that are true to the table lead document 01's own walk, whatever the look-up and the bounds say
abbrev pub TrueLengths : Type 0
TrueLengths =
    (T : List ℕ) (x : ℕ) (find lefts rights lens : ℕ → ℕ) → ((m : ℕ) → 0 < m → m < length T → lens m ≡ len T m)
    → walk T x find lefts rights lens ≡ walk T x find lefts rights (len T)

-- a length over 63 at the root is spoiled
abbrev pub LongRoot : Type 0
LongRoot =
    (T : List ℕ) (x : ℕ) (find lefts rights lens : ℕ → ℕ) → 2 ≤ length T → 63 < lens (lefts 0)
    → (walk T x find lefts rights lens).answer ≡ spoiled

-- and at another split it is not accepted, at any probe
abbrev pub LongSplit : Type 0
LongSplit =
    (T : List ℕ) (lens : ℕ → ℕ) (x f upper m : ℕ) → upper ≤ 64 → 63 < lens m → accepted T lens x f upper m ≡ false
