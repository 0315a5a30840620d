-- The packing law, once for all widths: fields that fit come out again, and a number of as many bits is made of its
-- fields. Assumes nothing.
use mathlib.Core.Path.{◌≡◌, refl}
use mathlib.Core.List.{List, [], ◌∷◌}
use Prim.Native.Nat.{ℕ, suc, ◌*◌, ◌%◌, ◌^◌, ◌<◌, ◌≤◌}
use native.Mathlib.Nat.{mod-lt, mul-le-mul_right, suc-mul}
use native.Mathlib.Omega.{arith}
use lib.Pow.{pow_pos, pow-add, high, low, split, shr_lt}
use Rattle.callkey.specs.Fields.{total, joined, parted, Fit, none, one}

-- the number has as many bits as the widths together
pub join_fits : {ws fs : List ℕ} → Fit ws fs → joined ws fs < 2 ^ total ws
join_fits none = omega arith
join_fits (one {w} {f} {ws} {fs} h r) =
    let rest = join_fits r in
    let whole : suc f * 2 ^ total ws ≤ 2 ^ w * 2 ^ total ws = mul-le-mul_right (2 ^ total ws) h in
    rw (pow-add 2 w (total ws)) (omega (arith, suc-mul f (2 ^ total ws)))

pub part_join : {ws fs : List ℕ} → Fit ws fs → parted ws (joined ws fs) ≡ fs
part_join none = refl
part_join (one {w} {f} {ws} {fs} h r) =
    rw (high f (total ws) (join_fits r), low f (total ws) (join_fits r), part_join r)

pub part_fits : (ws : List ℕ) (x : ℕ) → x < 2 ^ total ws → Fit ws (parted ws x)
part_fits [] x h = none
part_fits (w ∷ ws) x h = one (shr_lt w (total ws) h) (part_fits ws (x % 2 ^ total ws) (mod-lt x (pow_pos (total ws))))

pub join_part : (ws : List ℕ) (x : ℕ) → x < 2 ^ total ws → joined ws (parted ws x) ≡ x
join_part [] x h = omega arith
join_part (w ∷ ws) x h = rw (join_part ws (x % 2 ^ total ws) (mod-lt x (pow_pos (total ws)))) (split x (total ws))
