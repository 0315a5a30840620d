-- Demand 2 of the customer, its second sentence: fields the packer takes come out again; a key the unpacker takes
-- packs back to itself.
use Rattle.std.specs.Prelude.{◌≡◌, ℕ, ◌^◌, ◌<◌}
use Rattle.callkey.specs.CallKeys.{key, fields, pack_says, unpack_says}

-- fields the packer takes come out again
abbrev pub ComeOutAgain : Type 0
ComeOutAgain = (day stop second block k : ℕ) → pack_says day stop second block ≡ key k
    → unpack_says k ≡ fields day stop second block

-- a key the unpacker takes packs back to itself
abbrev pub PacksBack : Type 0
PacksBack = (day stop second block k : ℕ) → k < 2 ^ 64 → unpack_says k ≡ fields day stop second block
    → pack_says day stop second block ≡ key k

-- two calls with one key are one call
abbrev pub OneCall : Type 0
OneCall =
    (d s t b d' s' t' b' k : ℕ) → pack_says d s t b ≡ key k → pack_says d' s' t' b' ≡ key k
    → (d ≡ d') × (s ≡ s') × (t ≡ t') × (b ≡ b')

-- the key of a call has 64 bits
abbrev pub KeyFits : Type 0
KeyFits = (day stop second block k : ℕ) → pack_says day stop second block ≡ key k → k < 2 ^ 64
