-- Packing and unpacking undo each other, by the packing law at 16, 16, 17 and 15 bits; what they take. Assumes nothing.
use mathlib.Core.Path.{◌≡◌, refl, sym, ap, ◌∙◌}
use mathlib.Core.Bool.{Bool, true, false, cond}
use mathlib.Core.List.{List, [], ◌∷◌}
use Prim.Native.Nat.{ℕ, ◌-◌, ◌^◌, ◌<◌, ◌≤◌}
use native.Mathlib.Omega.{arith}
use borrow.Author.Tests.{ltb-false, le-ltb}
use lib.Dec.{ltb}
use lib.ListN.{get_or}
use Rattle.basics.proofs.Bools.{differ}
use Rattle.callkey.specs.Fields.{joined, parted, Fit, none, one}
use Rattle.callkey.specs.CallKeys.{Said, key, fields, refused, widths, last_second, pack_says, unpack_says}
use Rattle.callkey.specs.Demands.{ComeOutAgain, PacksBack, OneCall, KeyFits}
use Rattle.callkey.specs.Vouched.{DocumentKey, PackedIff, UnpackedIff}
use Rattle.callkey.proofs.Packing.{join_fits, part_join, part_fits, join_part}

-- the fields are within their limits
record Within (d s t b : ℕ) : Type 0 where
  day : d ≤ 2 ^ 16 - 1
  stop : s ≤ 2 ^ 16 - 1
  second : t ≤ last_second
  block : b ≤ 2 ^ 15 - 1

within_fits : (d s t b : ℕ) → Within d s t b → Fit widths (d ∷ s ∷ t ∷ b ∷ [])
within_fits d s t b W =
    let day : d < 2 ^ 16 = omega (arith, W.day) in
    let stop : s < 2 ^ 16 = omega (arith, W.stop) in
    let second : t < 2 ^ 17 = omega (arith, W.second) in
    let block : b < 2 ^ 15 = omega (arith, W.block) in
    one day (one stop (one second (one block none)))

-- by the four tests of the packer
by_tests : (p q r u : Bool) (n k : ℕ)
    → cond p (refused 7 0) (cond q (refused 7 0) (cond r (refused 7 0) (cond u (refused 7 0) (key n)))) ≡ key k
    → (p ≡ false) × (q ≡ false) × (r ≡ false) × (u ≡ false) × (n ≡ k)
by_tests false false false false n k e = (refl, refl, refl, refl, cc)
by_tests true q r u n k e = differ (cc)
by_tests false true r u n k e = differ (cc)
by_tests false false true u n k e = differ (cc)
by_tests false false false true n k e = differ (cc)

-- what the packer takes is within the limits, and its key is the fields joined
taken : (d s t b k : ℕ) → pack_says d s t b ≡ key k
    → Within d s t b × (joined widths (d ∷ s ∷ t ∷ b ∷ []) ≡ k)
unfolding pack_says
taken d s t b k e =
    let r =
    by_tests (ltb (2 ^ 16 - 1) d) (ltb (2 ^ 16 - 1) s) (ltb last_second t) (ltb (2 ^ 15 - 1) b)
    (joined widths (d ∷ s ∷ t ∷ b ∷ [])) k e in (
      record
          { day = ltb-false _ _ r.0; stop = ltb-false _ _ r.1; second = ltb-false _ _ r.2; block = ltb-false _ _ r.3 },
      r.4,
    )

-- what is within the limits is taken
within_taken : (d s t b : ℕ) → Within d s t b → pack_says d s t b ≡ key (joined widths (d ∷ s ∷ t ∷ b ∷ []))
unfolding pack_says
within_taken d s t b W = rw (le-ltb _ _ W.day, le-ltb _ _ W.stop, le-ltb _ _ W.second, le-ltb _ _ W.block)

-- the fields of the key that the packer made
come_out : (d s t b k : ℕ) → pack_says d s t b ≡ key k → parted widths k ≡ d ∷ s ∷ t ∷ b ∷ []
come_out d s t b k e = let r = taken d s t b k e in rw (sym r.1) (part_join (within_fits d s t b r.0))

-- what the unpacker says of the fields of a key
abbrev tell : List ℕ → Said
tell fs =
    cond (ltb last_second (get_or fs 2 0)) (refused 7 0) (fields (get_or fs 0 0) (get_or fs 1 0) (get_or fs 2 0) (get_or fs 3 0))

pub fields_come_out_again : ComeOutAgain
unfolding unpack_says
fields_come_out_again d s t b k e =
    ap tell (come_out d s t b k e) ∙ rw (le-ltb last_second t (taken d s t b k e).0.second)

pub two_keys_one_call : OneCall
two_keys_one_call d s t b d' s' t' b' k e e' =
    let same : d ∷ s ∷ t ∷ b ∷ [] ≡ d' ∷ s' ∷ t' ∷ b' ∷ [] =
    sym (come_out d s t b k e) ∙ come_out d' s' t' b' k e' in (cc, cc, cc, cc)

pub key_fits : KeyFits
key_fits d s t b k e = let r = taken d s t b k e in rw (sym r.1) (join_fits (within_fits d s t b r.0))

-- by the unpacker's test
by_test : (p : Bool) (f₀ f₁ f₂ f₃ d s t b : ℕ)
    → cond p (refused 7 0) (fields f₀ f₁ f₂ f₃) ≡ fields d s t b
    → (p ≡ false) × (f₀ ≡ d) × (f₁ ≡ s) × (f₂ ≡ t) × (f₃ ≡ b)
by_test false f₀ f₁ f₂ f₃ d s t b e = (refl, cc, cc, cc, cc)
by_test true f₀ f₁ f₂ f₃ d s t b e = differ (cc)

-- fields that fit their widths are within the limits of day, stop and block
limits : (d s t b : ℕ) → Fit widths (d ∷ s ∷ t ∷ b ∷ []) → t ≤ last_second → Within d s t b
limits d s t b (one hd (one hs (one ht (one hb none)))) h =
    record { day = omega arith; stop = omega arith; second = h; block = omega arith }

pub key_packs_back : PacksBack
unfolding unpack_says
key_packs_back d s t b k h e =
    let fs = parted widths k in
    let r = by_test (ltb last_second (get_or fs 2 0)) (get_or fs 0 0) (get_or fs 1 0) (get_or fs 2 0) (get_or fs 3 0) d s t b e in
    let are : fs ≡ d ∷ s ∷ t ∷ b ∷ [] = cc in
    let W =
    limits d s t b (rw are at (part_fits widths k h)) (omega (arith, ltb-false last_second (get_or fs 2 0) r.0)) in
    within_taken d s t b W ∙ ap key (ap (joined widths) (sym are) ∙ join_part widths k h)

pub document_key : DocumentKey
unfolding pack_says
document_key = refl

pub packed_iff : PackedIff
packed_iff d s t b = (
  λ e. let W = (taken d s t b _ e).0 in
      (omega (arith, W.day), omega (arith, W.stop), omega (arith, W.second), omega (arith, W.block)),
  λ w. let second : t < 2 ^ 17 = omega (arith, w.2) in
      within_taken d s t b
      (limits d s t b (one w.0 (one w.1 (one second (one w.3 none)))) (omega (arith, w.2))),
)

pub unpacked_iff : UnpackedIff
unfolding unpack_says
unpacked_iff k =
    let fs = parted widths k in (
      λ e. let r = by_test (ltb last_second (get_or fs 2 0)) _ _ _ _ _ _ _ _ e in
          omega (arith, ltb-false last_second (get_or fs 2 0) r.0),
      λ h. rw (le-ltb last_second (get_or fs 2 0) (omega arith)),
    )
