-- From the last turn to what a build leaves.
--     built            what `build` has done is what it promises
-- Assumes nothing.
use mathlib.Core.Path.{◌≡◌, ap, ◌∙◌}
use mathlib.Core.List.{List}
use mathlib.Core.Logic.{◌⊎◌, ⊎_elim}
use Prim.Native.Nat.{ℕ, ◌+◌, ◌-◌, ◌*◌}
use native.Mathlib.Nat.{le_refl}
use native.Mathlib.Omega.{arith}
use lib.ListN.{length, get_or}
use Rattle.std.specs.Prelude.{Result, Ok, Err}
use Rattle.words.specs.Mix.{item_hash}
use Rattle.words.specs.Inner.{mixed_seed, mixed_hash}
use Rattle.cells.specs.Cells.{segment, cell_count, cell_of, Segment, value_at, work_count}
use Rattle.cells.specs.Memory.{cleared}
use Rattle.cells.proofs.Sweeping.{drop_cleared}
use Rattle.items.specs.Inner.{items_in, values_in}
use Rattle.counts.specs.declared.map.Map.{Map}
use Rattle.jams.specs.Jam.{touch, size_of}
use Rattle.jams.specs.Inner.Peel.{live}
use Rattle.jams.specs.Inner.Work.{Peeled, AllSeen, Beyond, turn_item, turn_cell}
use Rattle.jams.specs.Inner.Fill.{value_of, Valued, Clean}
use Rattle.jams.proofs.Jams.{all_peeled}
use Rattle.jams.proofs.Puts.{spread, touch_below}
use Rattle.jams.proofs.Peeling.{stuck_largest}
use Rattle.jams.proofs.Clearing.{drop_same, cleared_same}
use Rattle.peels.specs.Inner.{Queued}
use Rattle.fills.specs.Inner.{FilledAll}
use Rattle.maps.specs.Built.{Filled, Built, MapBuilt}

module _ (seed : ℕ) (items values : List ℕ) where
  abbrev e : ℕ → ℕ → ℕ
  e = touch seed items

  abbrev t : ℕ
  t = length items

  -- cells and work are a and u before and b and v after; w is the work when no more can be peeled
  module _ {a b u w v : List ℕ} {n : ℕ} (P : Peeled e t (cell_count t) w n n) (sw : v ≡ cleared (work_count t) u) where
    built_filled : n ≡ t → Filled seed items values a b → Built seed items values a u (Ok tt) b v
    built_filled q F =
        record {
          accepted = (all_peeled e t (turn_item (cell_count t) t w) (turn_cell (cell_count t) t w) n P.order q, F);
          refused = tt;
          swept = sw;
        }

    built_jammed : Segment (segment t) → (n ≡ t → ⊥) → AllSeen (cell_count t) w → b ≡ cleared (cell_count t) a
        → Built seed items values a u (Err (t - n)) b v
    built_jammed S q seen same =
        let left : size_of (live (turn_item (cell_count t) t w) n) t + n ≡ t = P.order.left in
        record {
          accepted = tt;
          refused = (
            (
              live (turn_item (cell_count t) t w) n,
              stuck_largest
                  (λ i c h. touch_below c (spread (segment t) (λ k. item_hash (get_or items k 0) seed) i S) h) P seen q,
              omega arith,
            ),
            same,
          );
          swept = sw;
        }

-- a map's own numbers are those of its items and of the seed, so what holds by them holds as the promise says it
module _ (seed : ℕ) (items : List ℕ) {mixed m t : ℕ} (es : mixed ≡ mixed_seed seed) (em : m ≡ segment t)
    (et : t ≡ length items) where
  abbrev g : ℕ → ℕ → ℕ
  g j i = cell_of m j (mixed_hash (get_or items i 0) mixed)

  peeled_as : {w : List ℕ} {n : ℕ} → Peeled g t (3 * m) w n n
      → Peeled (touch seed items) (length items) (cell_count (length items)) w n n
  peeled_as P = rw (es, em, et) at P

  valued_as : (want : ℕ → ℕ) (b : List ℕ) → Valued g t want b → Valued (touch seed items) (length items) want b
  valued_as want b V = rw (es, em, et) at V

  clean_as : (b : List ℕ) → Clean g t (3 * m) b → Clean (touch seed items) (length items) (cell_count (length items)) b
  clean_as b C = rw (es, em, et) at C

-- with n items peeled the cells a are filled if that is all of them, and otherwise left
pub record Ended (map : Map) (n : ℕ) (a b : List ℕ) (answer : Result (Unit {0}) ℕ) : Type 0 where
  pub long : length b ≡ length a
  pub how : ((n ≡ map.t) × FilledAll map a b × (answer ≡ Ok tt))
      ⊎ ((n ≡ map.t → ⊥) × (b ≡ a) × (answer ≡ Err (map.t - n)))

work_size : (m t n : ℕ) → m ≡ segment t → t ≡ n → 6 * m + 2 * t ≡ work_count n
work_size m t n em et = rw (em, et) (omega arith)

pub built : {map : Map} {a a₁ b u w v : List ℕ} {n : ℕ} {answer : Result (Unit {0}) ℕ}
    (seed : ℕ)
    → map.mixed ≡ mixed_seed seed
    → a₁ ≡ cleared (3 * map.m) a → length a₁ ≡ length a
    → Queued map u w n n → length w ≡ length u → v ≡ cleared (6 * map.m + 2 * map.t) w
    → Ended map n a₁ b answer
    → MapBuilt map.source.which map.source.rows.b seed map.source.rows.keys.now a u answer b v
unfolding Valued Clean value_of value_at
built {map} {a = a} {a₁} {b} {u} {w} {v} {n} seed es z l O lw y E =
    let items : List ℕ = items_in map.source in
    let values : List ℕ = values_in map.source in
    let em : map.m ≡ segment map.t = map.size in
    let et : map.t ≡ length items = map.all in
    let z' : a₁ ≡ cleared (cell_count (length items)) a = rw (em, et) at z in
    let P : Peeled (touch seed items) (length items) (cell_count (length items)) w n n =
    peeled_as seed items es em et O.turn.peeled in
    let sw : v ≡ cleared (work_count (length items)) u =
    y ∙ cleared_same (6 * map.m + 2 * map.t) u w lw O.beyond
    ∙ ap (λ (k : ℕ). cleared k u) (work_size map.m map.t (length items) em et) in
    ⊎_elim
    (λ h.
    let C = cell_count (length items) in
    let F : FilledAll map a₁ b = h.1 in
    let B : Beyond (cell_count (length items)) a₁ b = rw (em, et) at F.beyond in
    rw h.2 (built_filled seed items values P sw (rw et at h.0) (record {
      valued = valued_as seed items es em et _ b F.valued;
      untouched = clean_as seed items es em et b F.clean;
      beyond = drop_same (cell_count (length items)) a₁ b E.long B ∙ rw z' (drop_cleared C C a (le_refl C));
      long = E.long ∙ l;
    })))
    (λ h.
    rw (h.2, et) (built_jammed seed items values P sw (rw (em, et) at map.fits) (rw et at h.0)
    (rw (em, et) at O.seen) (h.1 ∙ z')))
    E.how
