-- What the readers of lines say of the input, taken together: of a count line with its lines, and of the whole.
-- Assumes nothing.
use Rattle.std.proofs.Common.{Some, None}
use Prim.Native.Nat.{ℕ, ◌+◌, ◌-◌, min}
use native.Mathlib.Nat.{le_refl}
use native.Mathlib.Omega.{arith}
use mathlib.Core.List.{List, [], ◌++◌, append_assoc, append-nil}
use mathlib.Core.Path.{◌≡◌, sym, ap, subst, ◌∙◌}
use lib.ListN.{length, drop, length-drop}
use Rattle.digits.specs.Texts.{bytes, From, Has, Reads}
use Rattle.digits.specs.Numbers.{most_word}
use Rattle.digits.specs.declared.Read.{Read}
use Rattle.digits.proofs.Positions.{from_first, has_then, has_within, has_whole, hasnt_first, unique_rest, read_same}
use Rattle.lines.specs.Lines.{line, lines, AllWithin, Loads}
use Rattle.lines.specs.declared.Kind.TheVariants.{Decimal, Hex}
use Rattle.lines.proofs.Lining.{decimal_line_unique, line_unique}
use Rattle.lines.proofs.Listing.{lines_unique}
use Rattle.rowinput.specs.Input.{list_text, row_text, Fine, NoInput, InputHeld}
use Rattle.rowinput.specs.Inner.{ListAt, NoList, LoadsList}

-- ---- a count line and that many lines

-- the text determines the numbers
pub list_unique : (head tag xs ys r q : List ℕ) → AllWithin most_word xs → AllWithin most_word ys
    → list_text head tag xs ++ r ≡ list_text head tag ys ++ q → (xs ≡ ys) × (r ≡ q)
list_unique head tag xs ys r q wx wy e =
    let most = length xs + length ys in
    let f : line Decimal head (length xs) ++ (lines Hex tag xs ++ r)
    ≡ line Decimal head (length ys) ++ (lines Hex tag ys ++ q) =
    sym (append_assoc (line Decimal head (length xs)) (lines Hex tag xs) r) ∙ e
    ∙ append_assoc (line Decimal head (length ys)) (lines Hex tag ys) q in
    let p = unique_rest most (line Decimal head) (decimal_line_unique head most) (length xs) (length ys)
    (lines Hex tag xs ++ r) (lines Hex tag ys ++ q) (omega arith) (omega arith) f in
    lines_unique most_word (line Hex tag) (line_unique Hex tag most_word (le_refl most_word)) xs ys r q p.0 wx wy p.1

module _ (most : ℕ) (head tag s : List ℕ) (i : ℕ) (out after : List ℕ) where
  pub list_headless : Reads most (line Decimal head) s i None → LoadsList most head tag s i out after None
  unfolding LoadsList Reads
  list_headless h xs l w =
      hasnt_first s i (line Decimal head (length xs)) (lines Hex tag xs) (h (length xs) (omega arith))

  module _ (r : Read) (h : Reads most (line Decimal head) s i (Some r)) where
    pub list_short : Loads most_word (line Hex tag) r.value s r.next out after None → LoadsList most head tag s i out after None
    unfolding LoadsList Loads
    list_short g xs l w rest f =
        let p = read_same most (line Decimal head) (decimal_line_unique head most) s i r h (length xs)
        (lines Hex tag xs ++ rest)
        (omega arith) (from_first s i (line Decimal head (length xs)) (lines Hex tag xs) rest f) in
        g.0 (let e = p.0 in omega arith) xs (sym p.0) w rest p.1

    pub list_whole : (end : ℕ) → Loads most_word (line Hex tag) r.value s r.next out after (Some end)
        → LoadsList most head tag s i out after (Some (record { count = r.value; end = end }))
    unfolding LoadsList Loads Reads
    list_whole end g =
        let xs = g.1.0 in
        let l = g.1.1 in
        record {
          xs = xs;
          count = l.count;
          few = (let a = g.0 in let b = h.0 in omega arith);
          words = l.within;
          text = subst (λ (m : ℕ). Has s i (line Decimal head m ++ lines Hex tag xs) end) (sym l.count)
              (has_then s i r.next (line Decimal head r.value) h.1 (lines Hex tag xs) end l.stand);
          held = g.1.2;
        }

-- what was found is what stands there, and the rest follows it
list_same : {most : ℕ} {head tag s : List ℕ} {i : ℕ} {out after : List ℕ} {n end : ℕ}
    → ListAt most head tag s i out after n end
    → (ys rest : List ℕ) → AllWithin most_word ys → From s i (list_text head tag ys ++ rest) → From s end rest
list_same {head = head} {tag = tag} {s = s} {i = i} {end = end} l ys rest w f = (
  has_within s i end (list_text head tag l.xs) l.text,
  (list_unique head tag l.xs ys (drop end s) rest l.words w (sym l.text.from.1 ∙ f.1)).1,
)

-- ---- the whole input

abbrev pub key_list : List ℕ → List ℕ
key_list ks = list_text (bytes "keys=") (bytes "key=") ks

abbrev pub ask_list : List ℕ → List ℕ
ask_list qs = list_text (bytes "asks=") (bytes "ask=") qs

abbrev pub bucket_line : ℕ → List ℕ
bucket_line b = line Decimal (bytes "bucket=") b

module _ (K A : ℕ) (s : List ℕ) where
  from_start : (b : ℕ) (ks qs : List ℕ) → s ≡ row_text b ks qs
      → From s 0 (bucket_line b ++ (key_list ks ++ (ask_list qs ++ [])))
  unfolding row_text
  from_start b ks qs t = (omega arith, t ∙ rw (append-nil (ask_list qs)))

  pub no_bucket : Reads 65535 (line Decimal (bytes "bucket=")) s 0 None → NoInput K A s
  unfolding Reads
  no_bucket h b ks qs f t = h b f.bucket (key_list ks ++ (ask_list qs ++ [])) (from_start b ks qs t)

  module _ (bucket : Read) (h : Reads 65535 (line Decimal (bytes "bucket=")) s 0 (Some bucket)) where
    from_keys : (b : ℕ) (ks qs : List ℕ) → Fine K A b ks qs → s ≡ row_text b ks qs
        → From s bucket.next (key_list ks ++ (ask_list qs ++ []))
    from_keys b ks qs f t =
        let rest = key_list ks ++ (ask_list qs ++ []) in
        (read_same 65535 bucket_line (decimal_line_unique (bytes "bucket=") 65535) s 0 bucket h b rest f.bucket
        (from_start b ks qs t)).1

    pub no_keys : NoList K (bytes "keys=") (bytes "key=") s bucket.next → NoInput K A s
    no_keys l b ks qs f t = l ks f.key_count f.key_words (ask_list qs ++ []) (from_keys b ks qs f t)

    module _ (keys keys' : List ℕ) (n e : ℕ)
        (l : ListAt 2048 (bytes "keys=") (bytes "key=") s bucket.next keys keys' n e) where
      from_asks : (b : ℕ) (ks qs : List ℕ) → Fine K A b ks qs → s ≡ row_text b ks qs
          → From s e (ask_list qs ++ [])
      from_asks b ks qs f t = list_same l ks (ask_list qs ++ []) f.key_words (from_keys b ks qs f t)

      pub no_asks : NoList A (bytes "asks=") (bytes "ask=") s e → NoInput K A s
      no_asks g b ks qs f t = g qs f.ask_count f.ask_words [] (from_asks b ks qs f t)

      module _ (asks asks' : List ℕ) (m last : ℕ)
          (g : ListAt 512 (bytes "asks=") (bytes "ask=") s e asks asks' m last) where
        -- bytes after the end
        pub no_end : (last ≡ length s → ⊥) → NoInput K A s
        no_end h b ks qs f t =
            let z = list_same g qs [] f.ask_words (from_asks b ks qs f t) in
            let d : length s - last ≡ 0 = sym (length-drop last s) ∙ ap length z.1 in
            let w = z.0 in
            h (omega arith)

        -- the input is taken, and the slices hold it
        pub taken : last ≡ length s → K ≡ min (length keys) 2048 → A ≡ min (length asks) 512
            → InputHeld K A s bucket.value n m keys asks keys' asks'
        unfolding Reads row_text
        taken end hk ha =
            let nk = l.count in
            let na = g.count in
            let fk = l.few in
            let fa = g.few in
            let p2 = has_then s bucket.next e (key_list l.xs) l.text (ask_list g.xs) last g.text in
            let p1 = has_then s 0 bucket.next (bucket_line bucket.value) h.1 (key_list l.xs ++ ask_list g.xs) last p2 in
            record {
              ks = l.xs;
              qs = g.xs;
              fine = record {
                bucket = h.0;
                key_count = omega arith;
                key_words = l.words;
                ask_count = omega arith;
                ask_words = g.words;
              };
              text = has_whole s (bucket_line bucket.value ++ (key_list l.xs ++ ask_list g.xs)) last p1 end;
              key_count = sym nk;
              ask_count = sym na;
              keys_hold = l.held;
              asks_hold = g.held;
            }
