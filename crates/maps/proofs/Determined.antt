-- What a build of one map determines.
--     cells_beyond      past C(t) it keeps the cells
--     fillings_alike    two fillings of the same items with the same values are alike
--     map_determined    two outcomes of a build on the same input are the same, up to the filling
-- Assumes nothing.
use Rattle.std.proofs.Common.{◌≡◌, ℕ, List, length, drop, Result, Ok, Err, refl, sym, ap, ◌∙◌}
use native.Mathlib.Nat.{le_refl}
use Rattle.cells.specs.Cells.{cell_count}
use Rattle.cells.proofs.Sweeping.{drop_cleared}
use Rattle.jams.proofs.Jams.{largest_one_size}
use Rattle.jams.proofs.Largest.{largest_not_jamless}
use Rattle.items.specs.Items.{items_of, values_of}
use Rattle.maps.specs.Built.{Filled, Built}
use Rattle.maps.specs.Determined.{Alike, SameOutcome, MapDetermined}

pub fillings_alike : (seed : ℕ) (items values before a b : List ℕ) → Filled seed items values before a
    → Filled seed items values before b
    → Alike seed items a b
fillings_alike seed items values before a b F G =
    record {
      answers = λ i l. F.valued i l ∙ sym (G.valued i l);
      untouched = λ c l u. F.untouched c l u ∙ sym (G.untouched c l u);
      beyond = F.beyond ∙ sym G.beyond;
      long = F.long ∙ sym G.long;
    }

-- whatever a build answers, the cells from C(t) on are as they were
pub cells_beyond : (seed : ℕ) (items : List ℕ) {values cells work cells' work' : List ℕ}
    {answer : Result (Unit {0}) ℕ} → Built seed items values cells work answer cells' work'
    → drop (cell_count (length items)) cells' ≡ drop (cell_count (length items)) cells
cells_beyond seed items {answer = Ok _} B = B.accepted.1.beyond
cells_beyond seed items {cells = cells} {answer = Err size} B =
    let C = cell_count (length items) in ap (drop C) B.refused.1 ∙ drop_cleared C C cells (le_refl C)

module _ (seed : ℕ) (items values cells work : List ℕ) where
  -- both accept, or both refuse and name one size
  one_answer : (m n : Result (Unit {0}) ℕ) {cells₁ work₁ cells₂ work₂ : List ℕ}
      → Built seed items values cells work m cells₁ work₁
      → Built seed items values cells work n cells₂ work₂ → m ≡ n
  one_answer (Ok _) (Ok _) B C = refl
  one_answer (Ok _) (Err _) B C = absurd (largest_not_jamless seed items C.refused.0 B.accepted.0)
  one_answer (Err _) (Ok _) B C = absurd (largest_not_jamless seed items B.refused.0 C.accepted.0)
  one_answer (Err _) (Err _) B C = ap Err (largest_one_size seed items B.refused.0 C.refused.0)

  built_determined : (m n : Result (Unit {0}) ℕ) {cells₁ work₁ cells₂ work₂ : List ℕ}
      → Built seed items values cells work m cells₁ work₁
      → Built seed items values cells work n cells₂ work₂ → SameOutcome seed items m cells₁ work₁ n cells₂ work₂
  built_determined (Ok x) (Ok y) {cells₁} {cells₂ = cells₂} B C =
      record {
        answer = one_answer (Ok x) (Ok y) B C;
        swept = B.swept ∙ sym C.swept;
        jammed = tt;
        filled = fillings_alike seed items values cells cells₁ cells₂ B.accepted.1 C.accepted.1;
      }
  built_determined (Err m) (Err n) B C =
      record {
        answer = one_answer (Err m) (Err n) B C;
        swept = B.swept ∙ sym C.swept;
        jammed = B.refused.1 ∙ sym C.refused.1;
        filled = tt;
      }
  built_determined (Ok _) (Err _) B C = absurd (largest_not_jamless seed items C.refused.0 B.accepted.0)
  built_determined (Err _) (Ok _) B C = absurd (largest_not_jamless seed items B.refused.0 C.accepted.0)

pub map_determined : MapDetermined
map_determined which b seed T cells work m cells₁ work₁ n cells₂ work₂ B C =
    built_determined seed (items_of which b T) (values_of which b T) cells work m n B C
