-- Items counted at their cells, one after another.
--     counted_none, counted_more    what the loop of `count_all` keeps
--     counted_few                   a count stays below 65,535
-- Assumes nothing.
use mathlib.Core.Path.{refl, ap, ◌∙◌}
use mathlib.Core.List.{List}
use Prim.Native.Nat.{ℕ, ◌+◌, ◌*◌, ◌<◌}
use native.Mathlib.Numerals.{add-one}
use native.Mathlib.Omega.{arith}
use lib.ListN.{get_or}
use Rattle.counts.specs.declared.map.Map.{Map}
use Rattle.jams.specs.Jam.{size_of}
use Rattle.jams.specs.Inner.Peel.{touchb}
use Rattle.jams.specs.Inner.Work.{Put, Blank, more_if, xor_if, xor_of}
use Rattle.counts.specs.Inner.{graph, ItemsCounted}
use Rattle.jams.proofs.Sets.{size_le}

pub counted_none : (map : Map) (w : List ℕ) → Blank (6 * map.m) w → ItemsCounted map 0 w w
unfolding size_of xor_of
counted_none map w h =
    record {
      holds = record { count = λ c l. h.zeros c (omega arith); xor = λ c l. h.zeros (3 * map.m + c) (omega arith) };
      beyond = λ k l. refl;
    }

pub counted_few : {map : Map} {i : ℕ} {a b : List ℕ} → ItemsCounted map i a b → (c : ℕ)
    → c < 3 * map.m → i < 65535
    → get_or b c 0 < 65535
counted_few {map} {i} C c l m = omega (arith, C.holds.count c l, size_le (λ j. touchb (graph map) j c) i)

pub counted_more : {map : Map} {i : ℕ} {a b d : List ℕ} → ItemsCounted map i a b
    → Put (graph map) (3 * map.m) i b d
    → ItemsCounted map (i + 1) a d
unfolding size_of xor_of
counted_more {map} {i} C P =
    rw add-one (record {
      holds = record {
        count = λ c l. P.count c l ∙ ap (more_if (touchb (graph map) i c)) (C.holds.count c l);
        xor = λ c l. P.xor c l ∙ ap (xor_if (touchb (graph map) i c) i) (C.holds.xor c l);
      };
      beyond = λ k l. P.rest k (omega arith) ∙ C.beyond k l;
    })
