-- Why the definitions may be believed: laws to hold against document 01, each proved in proofs/ as exactly this type.
use Rattle.std.specs.Prelude.{◌≡◌, ℕ, ◌+◌, ◌*◌, ◌%◌, ◌^◌, ◌<◌, ◌≤◌, ◌↔◌, [], ◌∷◌, map}
use Rattle.words.specs.Mix.{mix_of}
use Rattle.words.specs.Keys.{first_bits, shared_bits, prefix_item}
use Rattle.words.specs.Fat.{Fattest, fattest_of}

-- SplitMix64's published outputs, the first five from the seed 1234567
abbrev pub PublishedOutputs : Type 0
PublishedOutputs =
    map (λ (n : ℕ). mix_of ((1234567 + n * 0x9E3779B97F4A7C15) % 2 ^ 64)) (1 ∷ 2 ∷ 3 ∷ 4 ∷ 5 ∷ [])
    ≡ 6457827717110365317 ∷ 3203168211198807973 ∷ 9817491932198370423 ∷ 4593380528125082431 ∷ 16408922859458223821 ∷ []

-- two keys have the same first L bits exactly if they share L bits or more
abbrev pub SharedIff : Type 0
SharedIff =
    (a b : ℕ) → a < 2 ^ 64 → b < 2 ^ 64 → (L : ℕ) → L ≤ 64 → (L ≤ shared_bits a b) ↔
    (first_bits L a ≡ first_bits L b)

-- an item tells the length of its prefix, and the prefix
abbrev pub ItemTells : Type 0
ItemTells =
    (x y l m : ℕ) → l < 64 → m < 64 → prefix_item x l ≡ prefix_item y m → (l ≡ m) ×
    (first_bits l x ≡ first_bits l y)

-- the number that trial finds is the 2-fattest
abbrev pub FattestFound : Type 0
FattestFound = (a b : ℕ) → a < b → b ≤ 64 → Fattest a b (fattest_of a b)
