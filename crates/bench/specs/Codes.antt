-- bench/entries.h: one number for each thing that an entry says.
use Rattle.std.specs.Prelude.{◌≡◌, Bool, cond, ℕ, ◌*◌, ◌%◌, ◌^◌}
use Rattle.std.specs.Int.Bits.{bit_xor}
use Rattle.refusals.specs.Numbers as build
use Rattle.outcomes.specs.Outcomes as told
use Rattle.callask.specs.Ask as call
use Rattle.neighbour.specs.Ask as near
use Rattle.slimask.specs.Ask as slim

-- a refusal: 2^63, its number from bit 32 on, and what it names
abbrev pub refused_code : ℕ → ℕ → ℕ
refused_code number names = bit_xor (bit_xor 9223372036854775808 (number * 2 ^ 32 % 2 ^ 64)) names

-- a build: 0 where it is taken; with a jam the size stands from bit 40 on
abbrev pub build_code : build.BuildSaid → ℕ
build_code build.taken = 0
build_code (build.refused number names) = refused_code number names
build_code (build.jammed map size) = bit_xor (refused_code 5 map) (size * 2 ^ 40 % 2 ^ 64)

-- a code stands for what a build says, of which `Says` holds
pub record Coded (Says : build.BuildSaid → Type 0) (code : ℕ) : Type 0 where
  pub said : build.BuildSaid
  pub is : code ≡ build_code said
  pub says : Says said

-- an outcome: the planned row, the withdrawn row with bit 32 beside it, or all ones
abbrev pub outcome_code : told.Told → ℕ
outcome_code (told.planned r) = r
outcome_code (told.withdrawn r) = bit_xor r 4294967296
outcome_code told.absent = 18446744073709551615

-- a call ask: its outcome
abbrev pub call_code : call.CallSaid → ℕ
call_code (call.outcome o) = outcome_code o
call_code (call.refused number names) = refused_code number names

-- bit 40: whether x stands in the table
abbrev pub stands_code : Bool → ℕ
stands_code stands = cond stands 1099511627776 0

-- a place: the number before, the probes from bit 32 on, and whether x stands in the table
abbrev pub place_code : (before probes : ℕ) (stands : Bool) → ℕ
place_code before probes stands = bit_xor (bit_xor before (probes * 2 ^ 32 % 2 ^ 64)) (stands_code stands)

-- a neighbour ask: its place
abbrev pub neighbour_code : near.NeighbourSaid → ℕ
neighbour_code (near.place before probes stands) = place_code before probes stands
neighbour_code (near.refused number names) = refused_code number names

-- an outcome beside a place: the row from bit 16 on, with bit 41 where it is withdrawn; or bit 42 alone, for absent
abbrev pub beside_code : told.Told → ℕ
beside_code (told.planned r) = r * 2 ^ 16 % 2 ^ 64
beside_code (told.withdrawn r) = bit_xor (r * 2 ^ 16 % 2 ^ 64) 2199023255552
beside_code told.absent = 4398046511104

-- a slim ask: its outcome beside its place among the delimiters. Neither reaches into the other: rows are below 32,768,
-- and so are the delimiters before x, since a bucket has two rows or more
abbrev pub slim_code : slim.SlimSaid → ℕ
slim_code (slim.told o before probes stands) = bit_xor (beside_code o) (place_code before probes stands)
slim_code (slim.refused number names) = refused_code number names
