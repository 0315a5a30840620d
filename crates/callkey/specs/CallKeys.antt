-- Document 01, "Call keys".
use Rattle.std.specs.Prelude.{cond, Result, Ok, Err, List, [], ◌∷◌, ℕ, ◌-◌, ◌^◌, ltb, get_or}
use Rattle.refusals.specs.Numbers.{number, names}
use Rattle.refusals.specs.declared.Refusal.{Refusal}
use Rattle.callkey.specs.Fields.{joined, parted}
use Rattle.callkey.specs.declared.Fields.{Fields}

-- from the top: day 16 bits, stop 16 bits, planned second 17 bits, block 15 bits
abbrev pub widths : List ℕ
widths = 16 ∷ 16 ∷ 17 ∷ 15 ∷ []

-- the largest planned second: a service day is thirty hours long (request Two)
abbrev pub last_second : ℕ
last_second = 107999

-- what the packer and the unpacker say, in document 01's numbers
pub data Said : Type 0 where
  key : ℕ → Said
  fields : ℕ → ℕ → ℕ → ℕ → Said
  refused : ℕ → ℕ → Said

abbrev pub said_by_packer : Result ℕ Refusal → Said
said_by_packer (Ok k) = key k
said_by_packer (Err r) = refused (number r) (names r)

abbrev pub said_by_unpacker : Result Fields Refusal → Said
said_by_unpacker (Ok f) = fields f.day f.stop f.second f.block
said_by_unpacker (Err r) = refused (number r) (names r)

-- packing refuses a field over its largest value
unfoldable pub pack_says : ℕ → ℕ → ℕ → ℕ → Said
pack_says day stop second block =
    cond (ltb (2 ^ 16 - 1) day) (refused 7 0)
    (cond (ltb (2 ^ 16 - 1) stop) (refused 7 0)
    (cond (ltb last_second second) (refused 7 0)
    (cond (ltb (2 ^ 15 - 1) block) (refused 7 0)
    (key (joined widths (day ∷ stop ∷ second ∷ block ∷ []))))))

-- unpacking refuses a key whose second is too large
unfoldable pub unpack_says : ℕ → Said
unpack_says k =
    let fs = parted widths k in
    cond (ltb last_second (get_or fs 2 0)) (refused 7 0) (fields (get_or fs 0 0) (get_or fs 1 0) (get_or fs 2 0) (get_or fs 3 0))
