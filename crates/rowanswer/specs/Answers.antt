-- Document 01, "`rowcheck`", and request Five: what is printed of a table and its asks. The answers depend on the table
-- alone: no seed and no store occurs in them.
use Rattle.std.specs.Prelude.{Some, None, ◌≡◌, List, ◌++◌, ◌⊎◌, ◌↔◌, ℕ, ◌≤◌, ◌<◌, length, take, drop}
use Rattle.tables.specs.Tables.{Table, smaller, first_fall}
use Rattle.stores.specs.Stores.{same}
use Rattle.full.specs.Build.{FirstJam}
use Rattle.index.specs.Answers.{row_of, probes_of}
use Rattle.rowinput.specs.Input.{row_text, Fine, NoInput}
use Rattle.rowoutput.specs.Output.{answers_text, refused_text, jam_text}
use Rattle.seeds.specs.Seeds.{SeedJams, SeedTaken}

-- all that is printed of a table and its asks, where some seed is taken
abbrev pub answered : List ℕ → List ℕ → List ℕ
answered keys asks = answers_text (length keys) (row_of Some None keys) (smaller keys) (probes_of keys) asks

-- what is printed of a bucket size, keys and asks: refusal 2, then 3, then 5 where all the seeds 0 to 255 jam, with the
-- size of the largest jam of the first jammed map under seed 255; and otherwise the answers
pub data TableText (keys : List ℕ) (b : ℕ) (asks text : List ℕ) : Type 0 where
  bucket_size : (b < 2) ⊎ (256 < b) → text ≡ refused_text 2 → TableText keys b asks text
  falls : 2 ≤ b → b ≤ 256 → 0 < first_fall keys → text ≡ refused_text 3 → TableText keys b asks text
  jams : 2 ≤ b → b ≤ 256 → Table keys → ((s : ℕ) → s < 256 → SeedJams keys b s)
      → (map size : ℕ) → FirstJam keys b (same 255) map size → text ≡ jam_text size → TableText keys b asks text
  answers : 2 ≤ b → b ≤ 256 → Table keys → (s : ℕ) → s < 256 → SeedTaken keys b s
      → text ≡ answered keys asks → TableText keys b asks text

-- what rowcheck prints of its input: refusal 8 judged first, over the whole of it
pub data RowcheckText (input text : List ℕ) : Type 0 where
  bad_text : NoInput 2048 512 input → text ≡ refused_text 8 → RowcheckText input text
  good_text : (b : ℕ) (keys asks : List ℕ) → Fine 2048 512 b keys asks → input ≡ row_text b keys asks
      → TableText keys b asks text
      → RowcheckText input text

-- a text stands at the start of the memory, r is its length, and the rest is as it was
pub record Shown (text before : List ℕ) (r : ℕ) (after : List ℕ) : Type 0 where
  pub counted : r ≡ length text
  pub stands : after ≡ text ++ drop (length text) before

-- a text of which P says that it is the one is shown
abbrev pub Shows : (List ℕ → Type 0) → List ℕ → ℕ → List ℕ → Type 0
Shows P before r after = (text : List ℕ) × (P text × Shown text before r after)

-- no text that rowcheck prints is longer than this, so 65,536 bytes are room for each
abbrev pub LongestText : Type 0
LongestText = (input text : List ℕ) → RowcheckText input text → length text ≤ 52762

-- the first 53,793 bytes of an input are enough: what is printed of them is what is printed of the whole
abbrev pub WindowIsEnough : Type 0
WindowIsEnough = (input text : List ℕ) → RowcheckText (take 53793 input) text ↔ RowcheckText input text
