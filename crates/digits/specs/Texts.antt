-- Texts at a position of a slice of bytes, and what their readers and writers say. A text is a list of bytes, and a
-- byte is a number.
use Rattle.std.specs.Prelude.{ℕ, zero, suc, ◌+◌, ◌<◌, ◌≤◌, List, [], ◌∷◌, ◌++◌, ◌≡◌, length, take, drop, Option, Some, None}
use Prim.Native.Char.{code}
use Prim.Native.String.{String, len, char_at}
use Rattle.digits.specs.declared.Read.{Read}

-- the n characters of a text from position i on
abbrev pub codes : String → ℕ → ℕ → List ℕ
codes text i zero = []
codes text i (suc n) = code (char_at text i) ∷ codes text (suc i) n

-- the bytes of an ASCII text such as "key="
abbrev pub bytes : String → List ℕ
bytes text = codes text 0 (len text)

-- from position i on s is t
abbrev pub From : List ℕ → ℕ → List ℕ → Type 0
From s i t = (i ≤ length s) × (drop i s ≡ t)

-- s has the text t at position i, and j is the position after it
pub record Has (s : List ℕ) (i : ℕ) (t : List ℕ) (j : ℕ) : Type 0 where
  pub from : From s i (t ++ drop j s)
  pub to : j ≡ i + length t

-- s has not the text t at position i, whatever follows there
abbrev pub Hasnt : List ℕ → ℕ → List ℕ → Type 0
Hasnt s i t = (rest : List ℕ) → From s i (t ++ rest) → ⊥

-- what a reader says of s at i that takes the text of each number up to `most`, and nothing else
unfoldable pub Reads : ℕ → (ℕ → List ℕ) → List ℕ → ℕ → Option Read → Type 0
Reads most text s i (Some r) = (r.value ≤ most) × Has s i (text r.value) r.next
Reads most text s i None = (v : ℕ) → v ≤ most → Hasnt s i (text v)

-- out with the text t put at i
abbrev pub placed : List ℕ → ℕ → List ℕ → List ℕ
placed out i t = take i out ++ (t ++ drop (i + length t) out)

-- what a writer of the text t at i says, that got `out` and leaves `after`: it writes all of t, or nothing where
-- there is no room
unfoldable pub Writes : List ℕ → List ℕ → ℕ → List ℕ → Option ℕ → Type 0
Writes t out i after (Some j) = (j ≡ i + length t) × (j ≤ length out) × (after ≡ placed out i t)
Writes t out i after None = (length out < i + length t) × (after ≡ out)
