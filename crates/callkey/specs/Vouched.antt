-- Why the definitions may be believed: laws to hold against document 01 and request Two, each proved in proofs/ as
-- exactly this type.
use Rattle.std.specs.Prelude.{◌≡◌, [], ◌∷◌, ◌↔◌, ℕ, ◌*◌, ◌^◌, ◌<◌, get_or}
use Rattle.callkey.specs.Fields.{joined, parted}
use Rattle.callkey.specs.CallKeys.{key, fields, widths, pack_says, unpack_says}

-- document 01's key: day 1, stop 2, second 3, block 4
abbrev pub DocumentKey : Type 0
DocumentKey = pack_says 1 2 3 4 ≡ key 0x0001000200018004

-- the packer takes a call exactly if each field fits its bits and the second lies in a day of thirty hours
abbrev pub PackedIff : Type 0
PackedIff = (day stop second block : ℕ)
    → (pack_says day stop second block ≡ key (joined widths (day ∷ stop ∷ second ∷ block ∷ [])))
    ↔ ((day < 2 ^ 16) × (stop < 2 ^ 16) × (second < 30 * 3600) × (block < 2 ^ 15))

-- the unpacker takes a key exactly if the second in it lies in a day of thirty hours
abbrev pub UnpackedIff : Type 0
UnpackedIff = (k : ℕ)
    → let fs = parted widths k in
    (unpack_says k ≡ fields (get_or fs 0 0) (get_or fs 1 0) (get_or fs 2 0) (get_or fs 3 0)) ↔ (get_or fs 2 0 < 30 * 3600)
