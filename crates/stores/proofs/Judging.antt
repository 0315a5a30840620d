-- What the judging of a build says: where no store is too short each has its named length, and the refusals come in
-- their order. Assumes nothing.
use mathlib.Core.Path.{◌≡◌, refl, sym, ap, ◌∙◌}
use mathlib.Core.Bool.{Bool, true, false, cond}
use mathlib.Core.List.{List}
use Prim.Native.Nat.{ℕ, suc, ◌≤◌, ◌<◌}
use native.Mathlib.Nat.{le_refl}
use native.Mathlib.Omega.{arith}
use borrow.Author.Tests.{ltb-false}
use lib.Dec.{ltb}
use lib.ListN.{length}
use Rattle.basics.proofs.Bools.{differ, past_test}
use Rattle.std.specs.Prelude.{Some, None}
use Rattle.refusals.specs.Numbers.{store_number, BuildSaid, taken, refused}
use Rattle.refusals.specs.declared.Store.{Store}
use Rattle.refusals.proofs.Naming.{test_passed, store_some}
use Rattle.tables.specs.Tables.{most_keys, first_fall, fall_of}
use Rattle.tables.proofs.Rising.{fall_row, no_fall}
use Rattle.stores.specs.Limits.{limited}
use Rattle.stores.specs.Sizes.{number_named, short_store, Fits}
use Rattle.stores.specs.Judged.{fall_or_short, judged, ask_refused}
use Rattle.stores.specs.Vouched.{NoneShortIff, NoneRefusedIff, AskPassesIff, OneToFour}
use Rattle.stores.specs.declared.Sizes.{Sizes}
use Rattle.stores.proofs.Chains.{goes_on, refuses}
use Rattle.stores.proofs.Limiting.{Within, within, said_within, limits_refused}

-- a test that fails, and the rest of the chain
passed : (t : Bool) (k rest : ℕ) → cond t (suc k) rest ≡ 0 → (t ≡ false) × (rest ≡ 0)
passed t k rest = past_test t (suc k) rest (λ e. omega arith)

module _ (h w : Sizes) where
  pub none_short : short_store h w ≡ 0 → Fits h w
  unfolding short_store
  none_short e =
      let t₁ = passed (ltb h.cells w.cells) 0 _ e in
      let t₂ = passed (ltb h.handles w.handles) 1 _ t₁.1 in
      let t₃ = passed (ltb h.left w.left) 2 _ t₂.1 in
      let t₄ = passed (ltb h.right w.right) 3 _ t₃.1 in
      let t₅ = passed (ltb h.work w.work) 4 _ t₄.1 in
      let t₆ = passed (ltb h.lengths w.lengths) 5 _ t₅.1 in
      let t₇ = passed (ltb h.bytes w.bytes) 6 _ t₆.1 in
      record {
        cells = ltb-false _ _ t₁.0;
        handles = ltb-false _ _ t₂.0;
        left = ltb-false _ _ t₃.0;
        right = ltb-false _ _ t₄.0;
        work = ltb-false _ _ t₅.0;
        lengths = ltb-false _ _ t₆.0;
        bytes = ltb-false _ _ t₇.0;
      }

  pub none_named : number_named None ≡ short_store h w → Fits h w
  none_named e = none_short (sym e)

  pub all_fit : Fits h w → short_store h w ≡ 0
  unfolding short_store
  all_fit F =
      goes_on _ F.cells
      (goes_on _ F.handles
      (goes_on _ F.left
      (goes_on _ F.right (goes_on _ F.work (goes_on _ F.lengths (goes_on _ F.bytes refl))))))

-- refusals 3 and 4
module _ (keys : List ℕ) (have want : Sizes) {row short : ℕ} (falls : row ≡ first_fall keys)
    (is : short ≡ short_store have want) where
  pub falls_first : 0 < row → refused 3 row ≡ fall_or_short keys have want
  unfolding fall_or_short
  falls_first h = rw (← falls) (sym (refuses _ _ h))

  pub short_next : row ≤ 0 → 0 < short → refused 4 short ≡ fall_or_short keys have want
  unfolding fall_or_short
  short_next l h = rw (← falls, ← is) (sym (goes_on _ l (refuses _ _ h)))

  pub neither : row ≤ 0 → short ≤ 0 → taken ≡ fall_or_short keys have want
  unfolding fall_or_short
  neither l m = rw (← falls, ← is) (sym (goes_on _ l (goes_on _ m refl)))

-- and as the code finds them
module _ (keys : List ℕ) (have want : Sizes) where
  pub falls_said : {row : ℕ} → Some row ≡ fall_of keys → refused 3 row ≡ fall_or_short keys have want
  falls_said e = let f = fall_row keys e in falls_first keys have want f.0 refl f.1

  module _ (rises : None ≡ fall_of keys) where
    zero : first_fall keys ≤ 0
    zero = omega (arith, no_fall keys rises)

    pub short_said : (store : Store) → number_named (Some store) ≡ short_store have want
        → refused 4 (store_number store) ≡ fall_or_short keys have want
    short_said store is = short_next keys have want refl is zero (store_some store)

    pub passed_said : number_named None ≡ short_store have want → taken ≡ fall_or_short keys have want
    passed_said is = neither keys have want refl is zero (le_refl 0)

pub ruleset as_judged = (falls_said, short_said, passed_said)

-- none of refusals 1 to 4 applies
pub record Passed (keys : List ℕ) (b : ℕ) (have want : Sizes) : Type 0 where
  pub few : length keys ≤ 32768
  pub two : 2 ≤ b
  pub most : b ≤ 256
  pub rises : first_fall keys ≡ 0
  pub fits : Fits have want

module _ (keys : List ℕ) (b : ℕ) (have want : Sizes) where
  -- refusals 1 and 2 don't: the others decide
  pub limits_pass : Within (length keys) b → judged keys b have want ≡ fall_or_short keys have want
  unfolding judged
  limits_pass W = within refused (length keys) b W refl

  pub judged_passed : judged keys b have want ≡ taken → Passed keys b have want
  unfolding judged fall_or_short
  judged_passed e =
      let short = short_store have want in
      let t₁ = said_within refused (length keys) b (λ k i d. differ (cc)) e in
      let t₂ = test_passed (ltb 0 (first_fall keys)) 3 (first_fall keys) _ t₁.1 in
      let t₃ = test_passed (ltb 0 short) 4 short _ t₂.1 in
      record {
        few = t₁.0.few;
        two = t₁.0.two;
        most = t₁.0.most;
        rises = omega (arith, ltb-false 0 (first_fall keys) t₂.0);
        fits = none_short have want (omega (arith, ltb-false 0 short t₃.0));
      }

  pub passed_judged : Passed keys b have want → judged keys b have want ≡ taken
  passed_judged P =
      limits_pass (record { few = P.few; two = P.two; most = P.most })
      ∙ sym (neither keys have want refl refl (omega (arith, P.rises)) (omega (arith, all_fit have want P.fits)))

-- only refusals 1 to 4 are judged: at each test of the chain the refusal is one of them
low_test : (t : Bool) (k : ℕ) {i : ℕ} (a j : ℕ) {rest : BuildSaid} → (1 ≤ a) × (a ≤ 4)
    → (rest ≡ refused k i → (1 ≤ k) × (k ≤ 4)) → cond t (refused a j) rest ≡ refused k i → (1 ≤ k) × (k ≤ 4)
low_test true k a j low on e = let same : a ≡ k = cc in rw same at low
low_test false k a j low on e = on e

pub one_to_four : OneToFour
unfolding judged fall_or_short limited
one_to_four keys b have want k i =
    let short = short_store have want in
    let fall = first_fall keys in
    low_test (ltb most_keys (length keys)) k 1 0 (omega arith, omega arith)
    (low_test (ltb b 2) k 2 0 (omega arith, omega arith)
    (low_test (ltb 256 b) k 2 0 (omega arith, omega arith)
    (low_test (ltb 0 fall) k 3 fall (omega arith, omega arith)
    (low_test (ltb 0 short) k 4 short (omega arith, omega arith) (λ e. differ (cc))))))

-- a build: what `judge` says once `limits` has passed, and what `limits` refuses
pub judged_by : (keys : List ℕ) (b : ℕ) (have : Sizes) {w w' : Sizes} {said : BuildSaid} → Within (length keys) b → w' ≡ w
    → said ≡ fall_or_short keys have w' → judged keys b have w ≡ said
judged_by keys b have {w} W is e = limits_pass keys b have w W ∙ ap (fall_or_short keys have) (sym is) ∙ sym e

pub refused_by : (keys : List ℕ) (b : ℕ) (have want : Sizes) {k i : ℕ} → refused k i ≡ limited refused (length keys) b taken
    → judged keys b have want ≡ refused k i
unfolding judged
refused_by keys b have want e = limits_refused (length keys) b refused (fall_or_short keys have want) e

-- an ask: the refusals before what it finds, in their order
module _ {A : Type 0} (refuse : ℕ → ℕ → A) (n b : ℕ) (have want : Sizes) where
  pub ask_limited : (said : A) {k i : ℕ} → refused k i ≡ limited refused n b taken
      → ask_refused refuse n b have want said ≡ refuse k i
  unfolding ask_refused
  ask_limited said e = limits_refused n b refuse _ e

  pub ask_short : (said : A) → Within n b → {short : ℕ} → short ≡ short_store have want → 0 < short
      → ask_refused refuse n b have want said ≡ refuse 4 short
  unfolding ask_refused
  ask_short said W is h = rw (← is) (within refuse n b W (refuses _ _ h))

  pub ask_named : (said : A) → Within n b → (store : Store) → number_named (Some store) ≡ short_store have want
      → ask_refused refuse n b have want said ≡ refuse 4 (store_number store)
  ask_named said W store is = ask_short said W is (store_some store)

  -- it passes them with a bucket size and a table within the limits and room in its stores
  pub ask_passes : {said : A} → Within n b → Fits have want → ask_refused refuse n b have want said ≡ said
  unfolding ask_refused
  ask_passes W F =
      let enough : short_store have want ≤ 0 = omega (arith, all_fit have want F) in
      within refuse n b W (goes_on _ enough refl)

  -- and only then it says what is no refusal
  pub ask_told : {said r : A} → ((k i : ℕ) → refuse k i ≡ r → ⊥) → ask_refused refuse n b have want said ≡ r
      → Within n b × Fits have want × (said ≡ r)
  unfolding ask_refused
  ask_told apart e =
      let short = short_store have want in
      let t₁ = said_within refuse n b apart e in
      let t₂ = past_test (ltb 0 short) (refuse 4 short) _ (apart 4 short) t₁.1 in
      (t₁.0, none_short have want (omega (arith, ltb-false 0 short t₂.0)), t₂.1)

-- so the definitions are what document 01 says
pub none_short_iff : NoneShortIff
none_short_iff h w = (none_short h w, all_fit h w)

pub none_refused_iff : NoneRefusedIff
none_refused_iff keys b h w = (
  (λ e. let P = judged_passed keys b h w e in (P.few, P.two, P.most, P.rises, P.fits)),
  (λ p. passed_judged keys b h w (record { few = p.0; two = p.1; most = p.2; rises = p.3; fits = p.4 })),
)

pub ask_passes_iff : AskPassesIff
ask_passes_iff n b h w = (
  (λ e.
      let t = ask_told refused n b h w (λ k i d. differ (cc)) e in
      (t.0.few, t.0.two, t.0.most, t.1)),
  (λ p. ask_passes refused n b h w (record { few = p.0; two = p.1; most = p.2 }) p.3),
)
