-- The packer's and the unpacker's answers are determined: what is said tells the answer. Assumes nothing.
use mathlib.Core.Path.{◌≡◌, sym, ap, ◌∙◌}
use Prim.Native.Nat.{ℕ}
use Rattle.std.specs.Prelude.{Result, Ok, Err}
use Rattle.basics.proofs.Bools.{differ}
use Rattle.refusals.specs.declared.Refusal.{Refusal}
use Rattle.refusals.proofs.Naming.{refusal_told}
use Rattle.callkey.specs.CallKeys.{said_by_packer, said_by_unpacker}
use Rattle.callkey.specs.Determined.{PackerDetermined, UnpackerDetermined}
use Rattle.callkey.specs.declared.Fields.{Fields}

packed_told : (r r' : Result ℕ Refusal) → said_by_packer r ≡ said_by_packer r' → r ≡ r'
packed_told (Ok a) (Ok b) e = cc
packed_told (Ok a) (Err r) e = differ (cc)
packed_told (Err r) (Ok b) e = differ (cc)
packed_told (Err r) (Err q) e = ap Err (refusal_told r q (cc) (cc))

pub packer_determined : PackerDetermined
packer_determined d s t b r r' e e' = packed_told r r' (e ∙ sym e')

abbrev made : ℕ → ℕ → ℕ → ℕ → Fields
made d s t b = record { day = d; stop = s; second = t; block = b }

same_fields : (a b : Fields) → a.day ≡ b.day → a.stop ≡ b.stop → a.second ≡ b.second
    → a.block ≡ b.block → a ≡ b
same_fields a b p q r u =
    let z : made a.day a.stop a.second a.block ≡ made b.day b.stop b.second b.block = cc in z

unpacked_told : (r r' : Result Fields Refusal) → said_by_unpacker r ≡ said_by_unpacker r' → r ≡ r'
unpacked_told (Ok a) (Ok b) e = ap Ok (same_fields a b (cc) (cc) (cc) (cc))
unpacked_told (Ok a) (Err r) e = differ (cc)
unpacked_told (Err r) (Ok b) e = differ (cc)
unpacked_told (Err r) (Err q) e = ap Err (refusal_told r q (cc) (cc))

pub unpacker_determined : UnpackerDetermined
unpacker_determined k r r' e e' = unpacked_told r r' (e ∙ sym e')
