-- One probe after another: where a probe leads, and what is left of a walk from its root after so many
-- probes. Assumes nothing.
use Rattle.std.proofs.Common.{◌≡◌, ℕ, zero, suc, ◌+◌, ◌-◌, ◌^◌, ◌<◌, ◌≤◌, true, false, eqb, leb, List, ◌∷◌, length, sym, refl, ◌∙◌, arith, eq-eqb, ne_eqb, leb-false, leb-true}
use Rattle.words.specs.Keys.{first_bits, shared_bits}
use Rattle.words.specs.Fat.{Fattest}
use Rattle.words.proofs.Fatness.{fattest_one}
use Rattle.words.proofs.Sharing.{shared_iff}
use Rattle.basics.proofs.Bools.{by_test}
use Rattle.walks.specs.Walk.{probe_at, accepted, descend}
use Rattle.descent.specs.Inner.{Stepped, Reached}
use Rattle.descent.specs.declared.State.{State}
use Rattle.walks.proofs.Paths.{probe_fattest}
use Rattle.walks.proofs.Descending.{accepted_means, turn, descend_goes, descend_stops}

-- keys have the same first l bits exactly if they share as many
pub share_test : (x k l : ℕ) → x < 2 ^ 64 → k < 2 ^ 64 → l ≤ 64
    → leb l (shared_bits x k) ≡ eqb (first_bits l x) (first_bits l k)
share_test x k l hx hk h =
    let law = shared_iff x k hx hk l h in
    by_test (leb l (shared_bits x k))
    (λ e. e ∙ sym (eq-eqb _ _ (law.0 (leb-true l (shared_bits x k) e))))
    (λ e. e ∙ sym (ne_eqb (first_bits l x) (first_bits l k)
    (λ z. omega (arith, law.1 z, leb-false l (shared_bits x k) e))))

-- a table, the lengths that the walk takes for its splits, the key that is asked, and one probe, at f, where the look-up
-- gave m: it is accepted, and the walk goes there, or it isn't
module _ (T : List ℕ) (lens : ℕ → ℕ) (x : ℕ) (find : ℕ → ℕ) (node upper f m : ℕ) (e : f ≡ probe_at (lens node) upper)
    (e' : m ≡ find f) where
  pub stepped_to : (l last : ℕ) → l ≡ lens m → last + 1 ≡ upper → accepted T lens x f upper m ≡ true
      → Stepped T lens x find node upper (record { node = m; lower = l; last = last })
  stepped_to l last is top ok =
      record { node_is = rw (← e, ← e', ok); upper_is = rw (← e, ← e', ok) top; lower_is = is }

  pub stepped_under : (l last : ℕ) → l ≡ lens node → last + 1 ≡ f → accepted T lens x f upper m ≡ false
      → Stepped T lens x find node upper (record { node = node; lower = l; last = last })
  stepped_under l last is top ok =
      record { node_is = rw (← e, ← e', ok); upper_is = rw (← e, ← e', ok) top; lower_is = is }

-- the 2-fattest number above lower and up to last is where the walk probes
pub probe_is : {lower l : ℕ} (last f : ℕ) → lower ≡ l → lower < last → last ≤ 63 → Fattest lower last f
    → f ≡ probe_at l (last + 1)
probe_is {lower} {l} last f is h u F =
    let e : last ≡ last + 1 - 1 = omega arith in
    fattest_one (rw (is, e) at F) (probe_fattest l (last + 1) (omega arith) (omega arith))

-- so it goes where the code probes
module _ {T : List ℕ} {lens : ℕ → ℕ} {x : ℕ} {find : ℕ → ℕ} {node lower last f m : ℕ} (F : Fattest lower last f)
    (is : lower ≡ lens node) (h : lower < last) (u : last ≤ 63) (found : m ≡ find f) where
  pub probed_to : {l : ℕ} → accepted T lens x f (last + 1) m ≡ true → l ≡ lens m
      → Stepped T lens x find node (last + 1) (record { node = m; lower = l; last = last })
  probed_to {l} ok e =
      stepped_to T lens x find node (last + 1) f m (probe_is last f is h u F) found l last e refl ok

  pub probed_under : accepted T lens x f (last + 1) m ≡ false
      → Stepped T lens x find node (last + 1) (record { node = node; lower = lower; last = f - 1 })
  probed_under ok =
      stepped_under T lens x find node (last + 1) f m (probe_is last f is h u F) found lower (f - 1) is
      (omega (arith, F.above)) ok

-- what is left of the walk from the root when so many probes are made
pub record Going (T : List ℕ) (lens : ℕ → ℕ) (x : ℕ) (find : ℕ → ℕ) (root node lower upper probes : ℕ) : Type 0 where
  pub turns : ℕ
  pub budget : probes + turns ≡ 64
  pub is : lower ≡ lens node
  pub room : upper ≤ suc lower + turns
  pub top : upper ≤ 64
  pub pos : 0 < node
  pub small : node < length T
  pub short : lower < 64
  pub same : (descend T lens x find turns node upper).node ≡ (descend T lens x find 64 root 64).node
  pub counted : probes + length (descend T lens x find turns node upper).probed ≡ length
      (descend T lens x find 64 root 64).probed

pub going_start : (T : List ℕ) (lens : ℕ → ℕ) (x : ℕ) (find : ℕ → ℕ) (root lower upper : ℕ) → lower ≡ lens root
    → 0 < root → root < length T → lower < 64
    → upper ≡ 64 → Going T lens x find root root lower upper 0
going_start T lens x find root lower upper is h l s all = record {
  turns = 64;
  budget = refl;
  is = is;
  room = omega arith;
  top = omega arith;
  pos = h;
  small = l;
  short = s;
  same = rw all;
  counted = rw all (omega arith);
}

pub going_end : {T : List ℕ} {lens : ℕ → ℕ} {x : ℕ} {find : ℕ → ℕ} {root node lower upper probes : ℕ}
    → Going T lens x find root node lower upper probes → upper ≤ suc lower
    → Reached T lens x find root (record { node = node; lower = lower; probes = probes })
going_end {T} {lens} {x} {find} {root} {node} {lower} {upper} {probes} G h =
    let e = descend_stops T lens x find G.turns node upper (omega (arith, G.is)) in
    record {
      node_is = rw e at G.same;
      probes_is = omega (arith, rw e at G.counted);
      pos = G.pos;
      small = G.small;
      lower_is = G.is;
      short = G.short;
    }

module _ (T : List ℕ) (lens : ℕ → ℕ) (x : ℕ) (find : ℕ → ℕ) (node upper : ℕ) (s : State)
    (h : suc (lens node) < upper) (S : Stepped T lens x find node upper s) where
  abbrev at : ℕ
  at = probe_at (lens node) upper

  descend_next : (k : ℕ) → let rest = descend T lens x find k s.node (s.last + 1) in
      descend T lens x find (suc k) node upper ≡ record { probed = at ∷ rest.probed; node = rest.node }
  unfolding turn
  descend_next k = rw (S.node_is, S.upper_is) (descend_goes T lens x find k node upper h)

  -- a probe brings the node and upper nearer to each other
  nearer : (k : ℕ) → upper ≤ suc (lens node) + suc k → upper ≤ 64 → 0 < node → node < length T
      → lens node < 64
      → (s.last + 1 ≤ suc (lens s.node) + k) × (s.last + 1 ≤ 64) × (0 < s.node) × (s.node < length T)
      × (lens s.node < 64)
  nearer k r t p l u =
      let F = probe_fattest (lens node) upper h t in
      let lo : lens node < at = F.above in
      let hi : at ≤ upper - 1 = F.within in
      by_test (accepted T lens x at upper (find at))
      (λ ok.
      let K = accepted_means T lens x at upper (find at) ok in
      let n : s.node ≡ find at = S.node_is ∙ (rw ok) in
      let v : s.last + 1 ≡ upper = S.upper_is ∙ (rw ok) in
      let reach : at ≤ lens (find at) = K.reach in
      let less : lens (find at) < upper = K.short in
      rw (n, v) (omega arith, t, K.pos, K.small, omega arith))
      (λ ok.
      let n : s.node ≡ node = S.node_is ∙ (rw ok) in
      let v : s.last + 1 ≡ at = S.upper_is ∙ (rw ok) in
      rw (n, v) (omega arith, omega arith, p, l, u))

pub going_next : {T : List ℕ} {lens : ℕ → ℕ} {x : ℕ} {find : ℕ → ℕ} {root node lower upper probes : ℕ} (s : State)
    → Going T lens x find root node lower upper probes
    → suc lower < upper → Stepped T lens x find node upper s
    → Going T lens x find root s.node s.lower (s.last + 1) (probes + 1)
going_next {T} {lens} {x} {find} {root} {node} {lower} {upper} {probes} s G h S =
    from G.turns G.budget G.room G.same G.counted
  where
    wide : suc (lens node) < upper
    wide = omega (arith, G.is)

    from : (turns : ℕ) → probes + turns ≡ 64 → upper ≤ suc lower + turns
        → (descend T lens x find turns node upper).node ≡ (descend T lens x find 64 root 64).node
        → probes + length (descend T lens x find turns node upper).probed ≡ length (descend T lens x find 64 root 64).probed
        → Going T lens x find root s.node s.lower (s.last + 1) (probes + 1)
    from zero b r n c = absurd (omega arith)
    from (suc k) b r n c =
        let N = nearer T lens x find node upper s wide S k (omega (arith, G.is)) G.top G.pos G.small
        (omega (arith, G.is, G.short)) in
        let e = descend_next T lens x find node upper s wide S k in
        record {
          turns = k;
          budget = omega arith;
          is = S.lower_is;
          room = omega (arith, S.lower_is, N.0);
          top = N.1;
          pos = N.2;
          small = N.3;
          short = omega (arith, S.lower_is, N.4);
          same = rw e at n;
          counted = omega (arith, rw e at c);
        }
