-- The probes of a walk: over any stores and lengths they are those of a fat binary search, over what an accepted build
-- leaves those of the walk over the table alone (W1 to W3), and that ends at the deepest split on x's path. Assumes
-- nothing.
use mathlib.Core.Path.{◌≡◌, refl, sym, ap, ◌∙◌}
use mathlib.Core.Bool.{true, false, cond}
use mathlib.Core.List.{List, [], ◌∷◌}
use Prim.Native.Nat.{ℕ, zero, suc, ◌+◌, ◌-◌, ◌≤◌, ◌<◌}
use native.Mathlib.Decide.{dec_le}
use native.Mathlib.Omega.{arith}
use borrow.Author.Tests.{ltb-true, leb-true, eqb-true, lt-ltb, le-ltb, eq-eqb, le-leb}
use lib.Dec.{leb, ltb}
use lib.ListN.{length}
use Rattle.words.specs.Keys.{first_bits, prefix_item}
use Rattle.words.specs.Fat.{Probes, done, below, onward}
use Rattle.tables.specs.Tables.{key_at, Table}
use Rattle.splits.specs.Splits.{len, root, handle_item}
use Rattle.basics.proofs.Bools.{both, not_both, by_test}
use Rattle.walks.specs.Walk.{agrees, probe_at, accepted, Descent, descend, TurnsSuffice, path_to}
use Rattle.walks.proofs.Paths.{probe_fattest, OnPath, Least, path_to_least, handle_at}

-- over any lengths and any look-up
module _ (T : List ℕ) (lens : ℕ → ℕ) (x : ℕ) where
  -- what acceptance says
  pub record Acceptable (f upper m : ℕ) : Type 0 where
    pub pos : 0 < m
    pub small : m < length T
    pub reach : f ≤ lens m
    pub short : lens m < upper
    pub same : first_bits (lens m) x ≡ first_bits (lens m) (key_at T m)

  pub accepted_means : (f upper m : ℕ) → accepted T lens x f upper m ≡ true → Acceptable f upper m
  unfolding accepted
  accepted_means f upper m e =
      let a = both (leb 1 m) _ e in
      let b = both (ltb m (length T)) _ a.1 in
      let c = both (leb f (lens m)) _ b.1 in
      let d = both (ltb (lens m) upper) (agrees T x m (lens m)) c.1 in
      record {
        pos = leb-true 1 m a.0;
        small = ltb-true m (length T) b.0;
        reach = leb-true f (lens m) c.0;
        short = ltb-true (lens m) upper d.0;
        same = eqb-true _ _ d.1;
      }

  pub accepted_when : (f upper m : ℕ) → Acceptable f upper m → accepted T lens x f upper m ≡ true
  unfolding accepted
  accepted_when f upper m K =
      rw (
        le-leb 1 m K.pos,
        lt-ltb m (length T) K.small,
        le-leb f (lens m) K.reach,
        lt-ltb (lens m) upper K.short,
      )
      (eq-eqb _ _ K.same)

  module _ (find : ℕ → ℕ) where
    -- one turn
    unfoldable pub turn : (turns node upper : ℕ) → Descent
    turn turns node upper =
        let f = probe_at (lens node) upper in
        let m = find f in
        let ok = accepted T lens x f upper m in
        let rest = descend T lens x find turns (cond ok m node) (cond ok upper f) in
        record { probed = f ∷ rest.probed; node = rest.node }

    pub descend_goes : (turns node upper : ℕ) → suc (lens node) < upper
        → descend T lens x find (suc turns) node upper ≡ turn turns node upper
    unfolding descend turn
    descend_goes turns node upper h = rw (lt-ltb (suc (lens node)) upper h)

    pub descend_stops : (turns node upper : ℕ) → upper ≤ suc (lens node)
        → descend T lens x find turns node upper ≡ record { probed = []; node = node }
    unfolding descend
    descend_stops zero node upper h = refl
    descend_stops (suc turns) node upper h = rw (le-ltb (suc (lens node)) upper h)

    -- a turn that accepts, and one that does not
    pub descend_accepts : (turns node upper f m : ℕ)
        → suc (lens node) < upper → f ≡ probe_at (lens node) upper → m ≡ find f
        → accepted T lens x f upper m ≡ true → let rest = descend T lens x find turns m upper in
        descend T lens x find (suc turns) node upper ≡ record { probed = f ∷ rest.probed; node = rest.node }
    unfolding turn
    descend_accepts turns node upper f m h e e' ok = descend_goes turns node upper h ∙ rw (← e, ← e', ok)

    pub descend_rejects : (turns node upper f m : ℕ)
        → suc (lens node) < upper → f ≡ probe_at (lens node) upper → m ≡ find f
        → accepted T lens x f upper m ≡ false → let rest = descend T lens x find turns node f in
        descend T lens x find (suc turns) node upper ≡ record { probed = f ∷ rest.probed; node = rest.node }
    unfolding turn
    descend_rejects turns node upper f m h e e' ok = descend_goes turns node upper h ∙ rw (← e, ← e', ok)

    -- W5: over any stores the probes are those of a fat binary search
    pub descend_probes : (turns node upper : ℕ) → upper ≤ 64
        → Probes (lens node) upper (length (descend T lens x find turns node upper).probed)
    unfolding descend
    descend_probes zero node upper h = done
    descend_probes (suc turns) node upper h =
        let f = probe_at (lens node) upper in
        let m = find f in
        elim (dec_le upper (suc (lens node))) [
          | yes g ↦ rw (descend_stops (suc turns) node upper g) done
          | no g ↦ (
              let room : suc (lens node) < upper = omega arith in
              let F = probe_fattest (lens node) upper room h in
              let within : f ≤ upper - 1 = F.within in
              by_test (accepted T lens x f upper m)
              (λ ok. let K = accepted_means f upper m ok in
              rw (descend_accepts turns node upper f m room refl refl ok)
              (onward f (lens m) F K.reach K.short (descend_probes turns m upper h)))
              (λ ok. rw (descend_rejects turns node upper f m room refl refl ok)
              (below f F (descend_probes turns node f (omega arith)))))
        ]

    -- the turns never run out: more of them change nothing
    pub descend_enough : (turns more node upper : ℕ) → turns ≤ more → upper ≤ 64 → upper ≤ suc (lens node) + turns
        → descend T lens x find more node upper ≡ descend T lens x find turns node upper
    descend_enough zero more node upper h top room =
        descend_stops more node upper (omega arith) ∙ sym (descend_stops zero node upper (omega arith))
    descend_enough (suc turns) zero node upper h top room = absurd (omega arith)
    descend_enough (suc turns) (suc more) node upper h top room =
        let f = probe_at (lens node) upper in
        let m = find f in
        elim (dec_le upper (suc (lens node))) [
          | yes g ↦ descend_stops (suc more) node upper g ∙ sym (descend_stops (suc turns) node upper g)
          | no g ↦ (
              let wide : suc (lens node) < upper = omega arith in
              let F = probe_fattest (lens node) upper wide top in
              let lo : lens node < f = F.above in
              let hi : f ≤ upper - 1 = F.within in
              by_test (accepted T lens x f upper m)
              (λ ok.
              let reach : f ≤ lens m = (accepted_means f upper m ok).reach in
              descend_accepts more node upper f m wide refl refl ok
              ∙ ap (λ (d : Descent). record { probed = f ∷ d.probed; node = d.node })
              (descend_enough turns more m upper (omega arith) top (omega arith))
              ∙ sym (descend_accepts turns node upper f m wide refl refl ok))
              (λ ok.
              descend_rejects more node upper f m wide refl refl ok
              ∙ ap (λ (d : Descent). record { probed = f ∷ d.probed; node = d.node })
              (descend_enough turns more node f (omega arith) (omega arith) (omega arith))
              ∙ sym (descend_rejects turns node upper f m wide refl refl ok)))
        ]

    -- from a split they lead to a split
    pub descend_split : (turns node upper : ℕ) → 0 < node → node < length T
        → let end = (descend T lens x find turns node upper).node in (0 < end) × (end < length T)
    unfolding descend
    descend_split zero node upper h l = (h, l)
    descend_split (suc turns) node upper h l =
        let f = probe_at (lens node) upper in
        let m = find f in
        by_test (ltb (suc (lens node)) upper)
        (λ go. rw go (by_test (accepted T lens x f upper m)
        (λ ok. let K = accepted_means f upper m ok in rw ok (descend_split turns m upper K.pos K.small))
        (λ ok. rw ok (descend_split turns node f h l))))
        (λ stop. rw stop (h, l))

pub turns_suffice : TurnsSuffice
turns_suffice T lens x find more node upper h top = descend_enough T lens x find 64 more node upper h top (omega arith)

-- lengths that are the same at every split lead the same descent, through the same nodes
module _ (T : List ℕ) (x : ℕ) (find lens lens' : ℕ → ℕ)
    (same : (m : ℕ) → 0 < m → m < length T → lens m ≡ lens' m) where
  accepted_same : (f upper m : ℕ) → accepted T lens x f upper m ≡ accepted T lens' x f upper m
  unfolding accepted
  accepted_same f upper m =
      by_test (leb 1 m)
      (λ e. by_test (ltb m (length T)) (λ g. rw (same m (leb-true 1 m e) (ltb-true m (length T) g))) (λ g. rw (e, g)))
      (λ e. rw e)

  pub descend_same : (turns node upper : ℕ) → 0 < node → node < length T
      → descend T lens x find turns node upper ≡ descend T lens' x find turns node upper
  unfolding descend
  descend_same zero node upper h l = refl
  descend_same (suc turns) node upper h l =
      let f = probe_at (lens' node) upper in
      let m = find f in
      rw (same node h l, accepted_same f upper m)
      (by_test (accepted T lens' x f upper m)
      (λ ok. let K = accepted_means T lens' x f upper m ok in
      rw (ok, descend_same turns m upper K.pos K.small))
      (λ ok. rw (ok, descend_same turns node f h l)))

-- the split on x's path with the least length from f on
abbrev pub onward_split : List ℕ → ℕ → ℕ → ℕ
onward_split T x f = path_to T x f (length T - 1)

-- the deepest split on x's path
pub record Deepest (T : List ℕ) (x m : ℕ) : Type 0 where
  pub path : OnPath T x m
  pub deep : (k : ℕ) → OnPath T x k → len T k ≤ len T m

module _ (T : List ℕ) (t : Table T) (x : ℕ) where
  -- with the lengths of the table what is accepted is on the path
  onto : {f upper m : ℕ} → Acceptable T (len T) x f upper m → OnPath T x m
  onto K = record { pos = K.pos; small = K.small; same = K.same }

  -- where some split on the path has a length from f on and below upper, the one with the least length is accepted
  found : (f upper m : ℕ) → Acceptable T (len T) x f upper m → Acceptable T (len T) x f upper (onward_split T x f)
  found f upper m K =
      let v = onward_split T x f in
      let L : Least T x f (length T - 1) v = path_to_least T x f (length T - 1) in
      let some : m < length T = K.small in
      let r = L.least m K.pos (omega arith) (eq-eqb _ _ K.same) K.reach in
      let p = L.passes r.0 in
      let short : len T m < upper = K.short in
      let in-range : v ≤ length T - 1 = L.within in
      record { pos = r.0; small = omega arith; reach = p.1; short = omega arith; same = eqb-true _ _ p.0 }

  -- and it has the least length
  found_least : (f upper : ℕ) → Acceptable T (len T) x f upper (onward_split T x f) → (m : ℕ) → OnPath T x m
      → f ≤ len T m → len T (onward_split T x f) ≤ len T m
  found_least f upper K m P h =
      let some : m < length T = P.small in
      ((path_to_least T x f (length T - 1)).least m P.pos (omega arith) (eq-eqb _ _ P.same) h).1

  -- a look-up that leads each handle to its split
  module _ (lookUp : ℕ → ℕ)
      (handles : (m : ℕ) → 0 < m → m < length T → (m ≡ root T → ⊥) → lookUp (handle_item T m) ≡ m) where
    -- W1, W2: at a probe from a node on the path the look-up is accepted exactly if a split on the path is, and gives
    -- that one
    look_finds : (node upper : ℕ) → OnPath T x node → suc (len T node) < upper → upper ≤ 64
        → let f = probe_at (len T node) upper in
        accepted T (len T) x f upper (onward_split T x f) ≡ true → lookUp (prefix_item x f) ≡ onward_split T x f
    look_finds node upper N room top ok =
        let f = probe_at (len T node) upper in
        let v = onward_split T x f in
        let K = accepted_means T (len T) x f upper v ok in
        let h = handle_at T t x node upper v N (onto K) room top K.reach K.short (found_least f upper K) in
        rw (← h.0) (handles v K.pos K.small h.1)

    look_fails : (f upper : ℕ) → accepted T (len T) x f upper (onward_split T x f) ≡ false
        → accepted T (len T) x f upper (lookUp (prefix_item x f)) ≡ false
    look_fails f upper ok =
        by_test (accepted T (len T) x f upper (lookUp (prefix_item x f)))
        (λ e. absurd (not_both (accepted_when T (len T) x f upper (onward_split T x f)
        (found f upper _ (accepted_means T (len T) x f upper (lookUp (prefix_item x f)) e))) ok))
        (λ e. e)

    -- W3
    pub descend_path : (turns node upper : ℕ) → OnPath T x node → upper ≤ 64
        → descend T (len T) x (λ f. lookUp (prefix_item x f)) turns node upper ≡ descend T (len T) x
        (onward_split T x) turns node upper
    unfolding descend
    descend_path zero node upper N top = refl
    descend_path (suc turns) node upper N top =
        let look : ℕ → ℕ = λ f. lookUp (prefix_item x f) in
        let f = probe_at (len T node) upper in
        let v = onward_split T x f in
        elim (dec_le upper (suc (len T node))) [
          | yes g ↦ descend_stops T (len T) x look (suc turns) node upper g
              ∙ sym (descend_stops T (len T) x (onward_split T x) (suc turns) node upper g)
          | no g ↦ (
              let room : suc (len T node) < upper = omega arith in
              let F = probe_fattest (len T node) upper room top in
              let within : f ≤ upper - 1 = F.within in
              by_test (accepted T (len T) x f upper v)
              (λ ok.
              let same : look f ≡ v = look_finds node upper N room top ok in
              let K = accepted_means T (len T) x f upper v ok in
              descend_accepts T (len T) x look turns node upper f v room refl (sym same) ok
              ∙ ap (λ (d : Descent). record { probed = f ∷ d.probed; node = d.node })
              (descend_path turns v upper (onto K) top)
              ∙ sym (descend_accepts T (len T) x (onward_split T x) turns node upper f v room refl refl ok))
              (λ ok.
              descend_rejects T (len T) x look turns node upper f (look f) room refl refl (look_fails f upper ok)
              ∙ ap (λ (d : Descent). record { probed = f ∷ d.probed; node = d.node })
              (descend_path turns node f N (omega arith))
              ∙ sym (descend_rejects T (len T) x (onward_split T x) turns node upper f v room refl refl ok)))
        ]

  -- W4: the walk over the table ends there
  pub descend_deep : (turns node upper : ℕ) → OnPath T x node → upper ≤ 64
      → ((k : ℕ) → OnPath T x k → len T k < upper)
      → upper ≤ suc (len T node) + turns → Deepest T x (descend T (len T) x (onward_split T x) turns node upper).node
  unfolding descend
  descend_deep zero node upper N top all fuel = record { path = N; deep = λ k P. omega (arith, all k P) }
  descend_deep (suc turns) node upper N top all fuel =
      let f = probe_at (len T node) upper in
      let v = onward_split T x f in
      elim (dec_le upper (suc (len T node))) [
        | yes g ↦ rw (descend_stops T (len T) x (onward_split T x) (suc turns) node upper g) (record {
          path =
              N;
          deep = λ k P. omega (arith, all k P);
        })
        | no g ↦ (
            let room : suc (len T node) < upper = omega arith in
            let F = probe_fattest (len T node) upper room top in
            let within : f ≤ upper - 1 = F.within in
            let above : len T node < f = F.above in
            by_test (accepted T (len T) x f upper v)
            (λ ok.
            let K = accepted_means T (len T) x f upper v ok in
            let reach : f ≤ len T v = K.reach in
            rw (descend_accepts T (len T) x (onward_split T x) turns node upper f v room refl refl ok)
            (descend_deep turns v upper (onto K) top all (omega arith)))
            (λ ok.
            let less : (k : ℕ) → OnPath T x k → len T k < f = λ k P. (
            let no : ¬ (f ≤ len T k) = λ h.
            not_both (accepted_when T (len T) x f upper v (found f upper k (record {
              pos = P.pos;
              small = P.small;
              reach = h;
              short = all k P;
              same = P.same;
            }))) ok in
            omega arith) in
            rw (descend_rejects T (len T) x (onward_split T x) turns node upper f v room refl refl ok)
            (descend_deep turns node f N (omega arith) less (omega arith))))
      ]
