-- Document 01, "`rowcheck`": the input is the text of a bucket size, keys and asks.
use Rattle.std.specs.Prelude.{ℕ, ◌≤◌, min, List, ◌++◌, ◌≡◌, length, drop, Result, Ok, Err}
use Rattle.digits.specs.Texts.{bytes}
use Rattle.digits.specs.Numbers.{most_word}
use Rattle.lines.specs.Lines.{line, lines, AllWithin}
use Rattle.lines.specs.declared.Kind.TheVariants.{Decimal, Hex}
use Rattle.refusals.specs.declared.Refusal.{Refusal}
use Rattle.refusals.specs.declared.Refusal.TheVariants.{Text}
use Rattle.rowinput.specs.declared.Input.{Input}

-- how many there are, and a line for each
abbrev pub list_text : List ℕ → List ℕ → List ℕ → List ℕ
list_text head tag xs = line Decimal head (length xs) ++ lines Hex tag xs

-- the text of a bucket size, keys and asks
unfoldable pub row_text : ℕ → List ℕ → List ℕ → List ℕ
row_text b ks qs =
    line Decimal (bytes "bucket=") b
    ++ (list_text (bytes "keys=") (bytes "key=") ks ++ list_text (bytes "asks=") (bytes "ask=") qs)

-- what document 01 allows, of at most so many keys and asks
pub record Fine (most_keys mostAsks b : ℕ) (ks qs : List ℕ) : Type 0 where
  pub bucket : b ≤ 65535
  pub key_count : length ks ≤ most_keys
  pub key_words : AllWithin most_word ks
  pub ask_count : length qs ≤ mostAsks
  pub ask_words : AllWithin most_word qs

-- s is no such text
abbrev pub NoInput : ℕ → ℕ → List ℕ → Type 0
NoInput most_keys mostAsks s =
    (b : ℕ) (ks qs : List ℕ) → Fine most_keys mostAsks b ks qs → s ≡ row_text b ks qs → ⊥

-- s is the text of b and of the n keys and m asks that the slices hold at their start; the rest of the slices is as
-- before
pub record InputHeld (most_keys mostAsks : ℕ) (s : List ℕ) (b n m : ℕ) (keys asks keys' asks' : List ℕ) : Type 0 where
  pub ks : List ℕ
  pub qs : List ℕ
  pub fine : Fine most_keys mostAsks b ks qs
  pub text : s ≡ row_text b ks qs
  pub key_count : n ≡ length ks
  pub ask_count : m ≡ length qs
  pub keys_hold : keys' ≡ ks ++ drop n keys
  pub asks_hold : asks' ≡ qs ++ drop m asks

-- what `read_input` says of s and leaves in the slices: at most 2,048 keys and 512 asks are taken, and no more than
-- there is room for; anything else is refusal 8, and leaves in the slices what it may
unfoldable pub ReadsInput : List ℕ → List ℕ → List ℕ → List ℕ → List ℕ → Result Input Refusal → Type 0
ReadsInput s keys asks keys' asks' (Ok r) =
    InputHeld (min (length keys) 2048) (min (length asks) 512) s r.bucket r.keys r.asks keys asks keys' asks'
ReadsInput s keys asks keys' asks' (Err f) =
    (f ≡ Text) × NoInput (min (length keys) 2048) (min (length asks) 512) s
    × (length keys' ≡ length keys) × (length asks' ≡ length asks)
