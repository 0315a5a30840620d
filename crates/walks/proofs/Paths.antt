-- The splits on a key's path: the one with the least length from f on, those at the ends of a split's rows, and its
-- handle (S6, W1). Assumes nothing.
use mathlib.Core.Path.{◌≡◌, refl, sym, ◌∙◌}
use mathlib.Core.Bool.{Bool, true, false, cond, ◌&&◌}
use mathlib.Core.List.{List}
use Prim.Native.Nat.{ℕ, zero, suc, ◌-◌, ◌≤◌, ◌<◌, zero-le}
use native.Mathlib.Nat.{le_refl, le_of_lt}
use native.Mathlib.Decide.{dec_le}
use native.Mathlib.Omega.{arith}
use borrow.Author.Tests.{ltb-true, ltb-false, leb-true, leb-false, eqb-true, eqb-false}
use lib.Dec.{leb, ltb, eqb}
use lib.ListN.{length}
use Rattle.words.specs.Keys.{first_bits, prefix_item}
use Rattle.words.specs.Fat.{Fattest, fattest_of}
use Rattle.words.proofs.Fatness.{fattest_one, fattest_of_found}
use Rattle.tables.specs.Tables.{key_at, Table}
use Rattle.splits.specs.Splits.{len, left, right, root, parent_len, handle_len, handle_item}
use Rattle.basics.proofs.Bools.{not_both}
use Rattle.splits.proofs.Rows.{share_down, between, len_lt, len_iff, neighbours, rows_own}
use Rattle.splits.proofs.Rows.{left_lt, right_gt, right_le, left_len, right_len}
use Rattle.splits.proofs.Parents.{root_least, parent_left, parent_right, parent_lt}
use Rattle.walks.specs.Walk.{on_path, probe_at, path_to}

-- the probe is the 2-fattest number strictly between
pub probe_fattest : (lower upper : ℕ) → suc lower < upper → upper ≤ 64
    → Fattest lower (upper - 1) (probe_at lower upper)
probe_fattest lower upper h l = fattest_of_found lower (upper - 1) (omega arith) (omega arith)

-- m is a split on x's path
pub record OnPath (T : List ℕ) (x m : ℕ) : Type 0 where
  pub pos : 0 < m
  pub small : m < length T
  pub same : first_bits (len T m) x ≡ first_bits (len T m) (key_at T m)

-- of the splits 1 to M on x's path, v has the least length from f on
pub record Least (T : List ℕ) (x f M v : ℕ) : Type 0 where
  pub within : v ≤ M
  pub passes : 0 < v → (on_path T x v ≡ true) × (f ≤ len T v)
  pub least : (m : ℕ) → 0 < m → m ≤ M → on_path T x m ≡ true → f ≤ len T m
      → (0 < v) × (len T v ≤ len T m)

pub path_to_least : (T : List ℕ) (x f M : ℕ) → Least T x f M (path_to T x f M)
unfolding path_to
path_to_least T x f zero =
    record { within = zero-le; passes = λ h. absurd (omega arith); least = λ m h l. absurd (omega arith) }
path_to_least T x f (suc M) =
    step (path_to T x f M) (path_to_least T x f M) (on_path T x (suc M)) refl (leb f (len T (suc M))) refl
    (eqb (path_to T x f M) 0) refl
    (ltb (len T (suc M)) (len T (path_to T x f M))) refl
  where
    last : (m : ℕ) → m ≤ suc M → ¬ (m ≤ M) → m ≡ suc M
    last m l g = omega arith

    step : (v : ℕ) → Least T x f M v → (a : Bool) → on_path T x (suc M) ≡ a → (b : Bool)
        → leb f (len T (suc M)) ≡ b
        → (c : Bool) → eqb v 0 ≡ c → (d : Bool) → ltb (len T (suc M)) (len T v) ≡ d
        → Least T x f (suc M) (cond (a && b) (cond c (suc M) (cond d (suc M) v)) v)
    step v S false e b e₁ c e₂ d e₃ = record {
      within = omega (arith, S.within);
      passes = S.passes;
      least = λ m h l p q. elim (dec_le m M) [
        | yes g ↦ S.least m h g p q
        | no g ↦ absurd (not_both (rw (last m l g) at p) e)
      ];
    }
    step v S true e false e₁ c e₂ d e₃ =
        let short : len T (suc M) < f = leb-false f (len T (suc M)) e₁ in
        record {
          within = omega (arith, S.within);
          passes = S.passes;
          least = λ m h l p q. elim (dec_le m M) [
            | yes g ↦ S.least m h g p q
            | no g ↦ absurd (let r : f ≤ len T (suc M) = rw (last m l g) at q in omega arith)
          ];
        }
    step v S true e true e₁ true e₂ d e₃ =
        let none : v ≡ 0 = eqb-true v 0 e₂ in
        record {
          within = le_refl (suc M);
          passes = λ h. (e, leb-true f (len T (suc M)) e₁);
          least = λ m h l p q. elim (dec_le m M) [
            | yes g ↦ absurd (omega (arith, (S.least m h g p q).0))
            | no g ↦ (omega arith, rw (last m l g) (le_refl _))
          ];
        }
    step v S true e true e₁ false e₂ true e₃ =
        let less : len T (suc M) < len T v = ltb-true _ _ e₃ in
        record {
          within = le_refl (suc M);
          passes = λ h. (e, leb-true f (len T (suc M)) e₁);
          least = λ m h l p q. elim (dec_le m M) [
            | yes g ↦ (omega arith, omega (arith, (S.least m h g p q).1))
            | no g ↦ (omega arith, rw (last m l g) (le_refl _))
          ];
        }
    step v S true e true e₁ false e₂ false e₃ =
        let more : len T v ≤ len T (suc M) = ltb-false _ _ e₃ in
        record {
          within = omega (arith, S.within);
          passes = S.passes;
          least = λ m h l p q. elim (dec_le m M) [
            | yes g ↦ S.least m h g p q
            | no g ↦ (omega (arith, eqb-false v 0 e₂), rw (last m l g) more)
          ];
        }

-- a 2-fattest number is that of each part of the range that holds it
pub fattest_part : {a b f : ℕ} (c d : ℕ) → Fattest a b f → a ≤ c → c < f → f ≤ d → d ≤ b
    → Fattest c d f
fattest_part c d F h l g k = record {
  above = l;
  within = g;
  power = F.power;
  multiple = F.multiple;
  only = λ n u v e. F.only n (omega arith) (omega arith) e;
}

module _ (T : List ℕ) (t : Table T) (x : ℕ) where
  -- the splits at the ends of a split's rows are on the paths that it is on
  pub left_on : (v : ℕ) → OnPath T x v → 0 < left T v → OnPath T x (left T v)
  left_on v P h =
      let a = left T v in
      let lt : a < v = left_lt T t v P.pos P.small in
      let less = left_len T t v P.pos P.small h in
      let top : len T v ≤ 64 = le_of_lt (len_lt T t v P.pos P.small) in
      record {
        pos = h;
        small = omega (arith, P.small);
        same = share_down (len T a) (len T v) x (key_at T a) (omega arith) top
            (P.same ∙ sym (rows_own T t v P.pos P.small a (le_refl a)
            (omega (arith, right_gt T t v P.pos P.small))));
      }

  pub right_on : (v : ℕ) → OnPath T x v → right T v < length T → OnPath T x (right T v)
  right_on v P h =
      let b = right T v in
      let gt : v < b = right_gt T t v P.pos P.small in
      let less = right_len T t v P.pos P.small h in
      let top : len T v ≤ 64 = le_of_lt (len_lt T t v P.pos P.small) in
      let pos : 0 < b = omega arith in
      record {
        pos = pos;
        small = h;
        same = share_down (len T b) (len T v) x (key_at T (b - 1)) (omega arith) top
            (P.same ∙ sym (rows_own T t v P.pos P.small (b - 1)
            (omega (arith, left_lt T t v P.pos P.small)) (omega arith)))
            ∙ neighbours T t b pos h;
      }

  -- S6: a shorter split on the path is no longer than the parent
  pub parent_most : (v m : ℕ) → OnPath T x v → OnPath T x m → len T m < len T v → len T m ≤ parent_len T v
  parent_most v m P Q h =
      let a = left T v in
      let b = right T v in
      let L = len T m in
      let lt : a < v = left_lt T t v P.pos P.small in
      let gt : v < b = right_gt T t v P.pos P.small in
      let fit : b ≤ length T = right_le T t v P.pos P.small in
      let topv : len T v ≤ 64 = le_of_lt (len_lt T t v P.pos P.small) in
      let topm : L ≤ 64 = omega arith in
      let vs : v < length T = P.small in
      let mp : 0 < m = Q.pos in
      let ms : m < length T = Q.small in
      let meet : first_bits L (key_at T m) ≡ first_bits L (key_at T v) =
      sym Q.same ∙ share_down L (len T v) x (key_at T v) (omega arith) topv P.same in
      let near : first_bits L (key_at T (m - 1)) ≡ first_bits L (key_at T m) = neighbours T t m mp ms in
      elim (dec_le m a) [
        | yes g ↦ (
            let pos : 0 < a = omega arith in
            let one = between T t L (m - 1) (a - 1) v (omega arith) (omega arith) vs (near ∙ meet) in
            let two = between T t L (m - 1) a v (omega arith) (omega arith) vs (near ∙ meet) in
            let shared = (len_iff T t a pos (omega arith) L topm).1 (one ∙ sym two) in
            omega (arith, parent_left T v pos))
        | no g ↦ elim (dec_le b m) [
          | yes k ↦ (
              let one = between T t L v (b - 1) m (omega arith) (omega arith) ms (sym meet) in
              let two = between T t L v b m (omega arith) k ms (sym meet) in
              let small : b < length T = omega arith in
              let shared = (len_iff T t b (omega arith) small L topm).1 (one ∙ sym two) in
              omega (arith, parent_right T v small))
          | no k ↦ (
              let one = rows_own T t v P.pos vs (m - 1) (omega arith) (omega arith) in
              let two = rows_own T t v P.pos vs m (omega arith) (omega arith) in
              absurd (omega (arith, (len_iff T t m mp ms (len T v) topv).1 (one ∙ sym two))))
        ]
      ]

  -- W1: below a node, the split with the least length from the probe f on has its handle at f
  module _ (node upper v : ℕ) (N : OnPath T x node) (P : OnPath T x v) where
    pub handle_at : let f = probe_at (len T node) upper in suc (len T node) < upper → upper ≤ 64 → f ≤ len T v
        → len T v < upper
        → ((m : ℕ) → OnPath T x m → f ≤ len T m → len T v ≤ len T m)
        → (handle_item T v ≡ prefix_item x f) × (v ≡ root T → ⊥)
    unfolding handle_item handle_len
    handle_at room top reach short least =
        let lo = len T node in
        let f = probe_at (len T node) upper in
        let q = parent_len T v in
        let F : Fattest lo (upper - 1) f = probe_fattest (len T node) upper room top in
        let lo-f : lo < f = F.above in
        let lo-q : lo ≤ q = parent_most v node P N (omega arith) in
        let q-f : q < f = parent_lt T v f (omega arith)
        (λ h. let less = left_len T t v P.pos P.small h in
        let no : ¬ (f ≤ len T (left T v)) = λ g. (omega (arith, least (left T v) (left_on v P h) g)) in omega arith)
        (λ h. let less = right_len T t v P.pos P.small h in
        let no : ¬ (f ≤ len T (right T v)) = λ g. (omega (arith, least (right T v) (right_on v P h) g)) in
        omega arith) in
        let here : Fattest q (len T v) f = fattest_part q (len T v) F lo-q q-f reach (omega arith) in
        let same : fattest_of q (len T v) ≡ f =
        fattest_one (fattest_of_found q (len T v) (omega arith) (omega arith)) here in
        let bits : first_bits f (key_at T v) ≡ first_bits f x =
        sym (share_down f (len T v) x (key_at T v) reach (omega arith) P.same) in (
          rw (same, bits),
          λ e. (let r : len T v ≤ len T node = rw e (root_least T node N.pos N.small) in
              omega arith),
        )
