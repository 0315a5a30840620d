-- What is claimed of `read_input` beyond its contract. That the writers' contracts leave one result and one memory is
-- `WriterDetermined` of `digits`.
use Rattle.std.specs.Prelude.{ℕ, ◌≤◌, List, ◌≡◌, length, Result, Ok, Err}
use Rattle.rowinput.specs.Input.{row_text, Fine, ReadsInput}
use Rattle.rowinput.specs.declared.Input.{Input}
use Rattle.refusals.specs.declared.Refusal.{Refusal}

-- a text is that of one bucket size, one list of keys and one list of asks
abbrev pub OneReading : Type 0
OneReading = (most_keys mostAsks b b' : ℕ) (ks ks' qs qs' : List ℕ)
    → Fine most_keys mostAsks b ks qs → Fine most_keys mostAsks b' ks' qs'
    → row_text b ks qs ≡ row_text b' ks' qs' → (b ≡ b') × (ks ≡ ks') × (qs ≡ qs')

-- memory after two readings that said the same: equal where the input is taken, and otherwise of equal lengths
abbrev pub SameRead : Result Input Refusal → List ℕ → List ℕ → List ℕ → List ℕ → Type 0
SameRead (Ok r) k₁ a₁ k₂ a₂ = (k₁ ≡ k₂) × (a₁ ≡ a₂)
SameRead (Err f) k₁ a₁ k₂ a₂ = (length k₁ ≡ length k₂) × (length a₁ ≡ length a₂)

-- the contract of `read_input` leaves one result, and one memory where the input is taken
abbrev pub InputDetermined : Type 0
InputDetermined = (s keys asks k₁ a₁ k₂ a₂ : List ℕ) (r₁ r₂ : Result Input Refusal)
    → ReadsInput s keys asks k₁ a₁ r₁ → ReadsInput s keys asks k₂ a₂ r₂
    → (r₁ ≡ r₂) × SameRead r₁ k₁ a₁ k₂ a₂

-- no text that is taken is longer than 53,792 bytes, so a reader of one byte more has seen enough
abbrev pub LongestInput : Type 0
LongestInput = (b : ℕ) (ks qs : List ℕ) → Fine 2048 512 b ks qs → length (row_text b ks qs) ≤ 53792
