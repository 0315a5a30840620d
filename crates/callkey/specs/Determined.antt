-- What the contracts determine: for all inputs, any two answers that meet the contract are equal.
use Rattle.std.specs.Prelude.{◌≡◌, Result, ℕ}
use Rattle.refusals.specs.declared.Refusal.{Refusal}
use Rattle.callkey.specs.CallKeys.{pack_says, unpack_says, said_by_packer, said_by_unpacker}
use Rattle.callkey.specs.declared.Fields.{Fields}

-- what the packer answers
abbrev pub PackerDetermined : Type 0
PackerDetermined = (day stop second block : ℕ) (r r' : Result ℕ Refusal)
    → said_by_packer r ≡ pack_says day stop second block → said_by_packer r' ≡ pack_says day stop second block
    → r ≡ r'

-- what the unpacker answers
abbrev pub UnpackerDetermined : Type 0
UnpackerDetermined =
    (key : ℕ) (r r' : Result Fields Refusal) → said_by_unpacker r ≡ unpack_says key → said_by_unpacker r' ≡ unpack_says key
    → r ≡ r'
