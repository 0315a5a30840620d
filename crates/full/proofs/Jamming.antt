-- The first map that has a jam.
--     first_jam_one    there is one, and its largest jam has one size
--     jam_not_none     where there is one, there are not no jams
--     jam_sized        a jam has two items at least, and no more than there are keys
-- Assumes nothing.
use mathlib.Core.Path.{◌≡◌, refl}
use mathlib.Core.List.{List}
use Prim.Native.Nat.{ℕ, ◌≤◌}
use native.Mathlib.Omega.{arith}
use lib.ListN.{length}
use Rattle.tables.proofs.Delimiting.{buckets_le}
use Rattle.stores.specs.Stores.{Seeds}
use Rattle.items.specs.Items.{prefix_items, handle_items}
use Rattle.items.proofs.Values.{length_prefixes}
use Rattle.items.proofs.Handling.{length_handles}
use Rattle.jams.proofs.Jams.{largest_one_size}
use Rattle.jams.proofs.Largest.{largest_not_jamless, size_of_largest}
use Rattle.full.specs.Build.{FirstJam, in₁, in₂, in₃, NoJams}

-- two first jams are of one map, and of one size
pub first_jam_one : {keys : List ℕ} {b : ℕ} {s : Seeds} {m p m' p' : ℕ} → FirstJam keys b s m p → FirstJam keys b s m' p'
    → (m ≡ m') × (p ≡ p')
first_jam_one {keys} {b} {s} (in₁ L) (in₁ L') = (refl, largest_one_size s.one keys L L')
first_jam_one {keys} {b} {s} (in₁ L) (in₂ N L') = absurd (largest_not_jamless s.one keys L N)
first_jam_one {keys} {b} {s} (in₁ L) (in₃ N M L') = absurd (largest_not_jamless s.one keys L N)
first_jam_one {keys} {b} {s} (in₂ N L) (in₁ L') = absurd (largest_not_jamless s.one keys L' N)
first_jam_one {keys} {b} {s} (in₂ N L) (in₂ N' L') = (refl, largest_one_size s.two (prefix_items b keys) L L')
first_jam_one {keys} {b} {s} (in₂ N L) (in₃ N' M L') = absurd (largest_not_jamless s.two (prefix_items b keys) L M)
first_jam_one {keys} {b} {s} (in₃ N M L) (in₁ L') = absurd (largest_not_jamless s.one keys L' N)
first_jam_one {keys} {b} {s} (in₃ N M L) (in₂ N' L') = absurd (largest_not_jamless s.two (prefix_items b keys) L' M)
first_jam_one {keys} {b} {s} (in₃ N M L) (in₃ N' M' L') = (refl, largest_one_size s.three (handle_items keys) L L')

-- and where one map has a jam there is not none
pub jam_not_none : {keys : List ℕ} {b : ℕ} {s : Seeds} {m p : ℕ} → FirstJam keys b s m p → NoJams keys b s → ⊥
jam_not_none {keys} {b} {s} (in₁ L) N = largest_not_jamless s.one keys L N.one
jam_not_none {keys} {b} {s} (in₂ M L) N = largest_not_jamless s.two (prefix_items b keys) L N.two
jam_not_none {keys} {b} {s} (in₃ M K L) N = largest_not_jamless s.three (handle_items keys) L N.three

-- a jam has two items at least, and a map has no more of them than there are keys
pub jam_sized : {keys : List ℕ} {b : ℕ} {s : Seeds} {m p : ℕ} → 1 ≤ b → FirstJam keys b s m p
    → (2 ≤ p) × (p ≤ length keys)
jam_sized {keys} {b} {s} {p = p} one (in₁ L) = let B = size_of_largest s.one keys p L in (B.0, B.1)
jam_sized {keys} {b} {s} {p = p} one (in₂ N L) =
    let B = size_of_largest s.two (prefix_items b keys) p L in
    (B.0, omega (arith, B.1, length_prefixes b keys, buckets_le (length keys) b one))
jam_sized {keys} {b} {s} {p = p} one (in₃ N M L) =
    let B = size_of_largest s.three (handle_items keys) p L in
    (B.0, omega (arith, B.1, length_handles keys))
