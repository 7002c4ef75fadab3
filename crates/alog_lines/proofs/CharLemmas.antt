-- The characters of bytes that others follow.
use Rattle.std.proofs.Common.{◌≡◌, ◌+◌, ◌<◌, ◌≤◌, ℕ, true, List, [], ◌∷◌, ◌++◌, length, length-append, map, drop, slice_index, Some, None, encode_utf8, encode_utf8_all, refl}
use Rattle.std.proofs.Common.{sym, ap, subst, ◌∙◌, arith, ⊎_elim}
use Rattle.std.specs.Prelude.{Option}
use Rattle.std.proofs.lemmas.Bool.{and_parts, cases_lt, cases_eq}
use Rattle.std.proofs.lemmas.List.{drop_at, get_or_append_left}
use lib.Utf8.{scalars}
use Rattle.bstr.specs.Utf8.{Decoded, bad, good, decoded, decoded_by, second, continues, replacement}
use Rattle.bstr.proofs.lemmas.EncodeLemmas.{decoded-encode}
use Rattle.bstr.proofs.lemmas.PieceLemmas.{by-shape, decoded_by-cut, pieces-nil, pieces-step, value-4, value-7, value-10}
use Rattle.bstr.proofs.lemmas.SoundLemmas.{SpellsChar-decoded}
use Rattle.std.proofs.lemmas.Str.{length-encode, len_utf8_bounds}
use Rattle.alog_lines.specs.Pieces.{Piece, chars_in, with_char}

-- the first character, and those of what is left
pub chars_in-step : (bytes : List ℕ) → 0 < length bytes → chars_in bytes ≡ (decoded bytes).char ∷ chars_in (drop (decoded bytes).size bytes)
chars_in-step bytes some = ap (map (λ (d : Decoded). d.char)) (pieces-step bytes some)

pub chars_in-nil : chars_in [] ≡ []
chars_in-nil = ap (map (λ (d : Decoded). d.char)) pieces-nil

-- what is decoded of fewer bytes than those of a character, or of a front of one: all of them are such a front
one_is_bad : (k b c d e : ℕ) → k ≡ 1 → 0xC2 ≤ b → b ≤ 0xF4 → decoded_by k b c d e ≡ bad k
one_is_bad k b c d e one low high = value-4 k b c d e (omega arith, low, high, omega arith) ∙ ap bad (sym one)

two_are_bad : (k b c d e : ℕ) → k ≡ 2 → 0xE0 ≤ b → b ≤ 0xF4 → second b c ≡ true → decoded_by k b c d e ≡ bad k
two_are_bad k b c d e two low high next = value-7 k b c d e (omega arith, low, high, next, omega arith) ∙ ap bad (sym two)

three_are_bad : (k b c d e : ℕ) → k ≡ 3 → 0xF0 ≤ b → b ≤ 0xF4 → second b c ≡ true → continues d ≡ true → decoded_by k b c d e ≡ bad k
three_are_bad k b c d e three low high next more =
    value-10 k b c d e (omega arith, low, high, next, more, omega arith) ∙ ap bad (sym three)

module _ (k n b c d e c' d' e' : ℕ) (some : 0 < k) (fewer : k < (decoded_by n b c d e).size)
    (second_c : 1 < k → c' ≡ c) (third_d : 2 < k → d' ≡ d) where
  abbrev IsBad : Type 0
  IsBad = decoded_by k b c' d' e' ≡ bad k

  -- of three bytes: one or two of them
  of_three : 0xE0 ≤ b → b ≤ 0xF4 → second b c ≡ true → k < 3 → IsBad
  of_three low high next l =
      ⊎_elim (λ (one : k ≡ 1). one_is_bad k b c' d' e' one (omega arith) high)
      (λ other.
      let two : k ≡ 2 = omega arith in
      two_are_bad k b c' d' e' two low high (ap (second b) (second_c (omega arith)) ∙ next))
      (cases_eq k 1)

  -- of four: one, two or three
  of_four : 0xF0 ≤ b → b ≤ 0xF4 → second b c ≡ true → continues d ≡ true → k < 4 → IsBad
  of_four low high next more l =
      ⊎_elim (λ (few : k < 3). of_three (omega arith) high next few)
      (λ many.
      let three : k ≡ 3 = omega arith in
      three_are_bad k b c' d' e' three low high (ap (second b) (second_c (omega arith)) ∙ next) (ap continues (third_d (omega arith)) ∙ more))
      (cases_lt k 3)

  pub front_is_bad : IsBad
  front_is_bad = by-shape n b c d e
      (λ h. let size_is = ap (λ p. p.size) h.1 in absurd (omega arith))
      (λ h. let size_is = ap (λ p. p.size) h.2 in absurd (omega arith))
      (λ h. let size_is = ap (λ p. p.size) h.3 in absurd (omega arith))
      (λ h. let size_is = ap (λ p. p.size) h.2 in absurd (omega arith))
      (λ h. let size_is = ap (λ p. p.size) h.4 in absurd (omega arith))
      (λ h. let size_is = ap (λ p. p.size) h.4 in absurd (omega arith))
      (λ h. let size_is = ap (λ p. p.size) h.4 in one_is_bad k b c' d' e' (omega arith) h.1 (omega arith))
      (λ h. let size_is = ap (λ p. p.size) h.5 in of_three h.1 h.2 h.3 (omega arith))
      (λ h. let size_is = ap (λ p. p.size) h.5 in of_three h.1 h.2 h.3 (omega arith))
      (λ h. let size_is = ap (λ p. p.size) h.5 in of_three h.1 (omega arith) h.3 (omega arith))
      (λ h. let size_is = ap (λ p. p.size) h.6 in of_four h.1 h.2 h.3 h.4 (omega arith))
      (λ h. let size_is = ap (λ p. p.size) h.6 in of_four h.1 h.2 h.3 h.4 (omega arith))
      (λ h. let size_is = ap (λ p. p.size) h.6 in of_four h.1 h.2 h.3 h.4 (omega arith))

-- bytes, and others behind them
module _ (xs ys : List ℕ) (some : 0 < length xs) where
  at : (k : ℕ) → k < length xs → slice_index xs k ≡ slice_index (xs ++ ys) k
  at k l = sym (get_or_append_left xs ys 0 k l)

  -- a piece does not look at what follows it
  pub decoded-front : (decoded (xs ++ ys)).size ≤ length xs → decoded xs ≡ decoded (xs ++ ys)
  decoded-front fits =
      let bs = xs ++ ys in
      let long = length-append xs ys in
      subst (λ v. decoded_by (length xs) v (slice_index xs 1) (slice_index xs 2) (slice_index xs 3) ≡ decoded bs) (sym (at 0 some))
      (decoded_by-cut (length xs) (length bs) (slice_index bs 0) (slice_index bs 1) (slice_index bs 2) (slice_index bs 3)
      (slice_index xs 1) (slice_index xs 2) (slice_index xs 3) fits (omega arith) some (at 1) (at 2) (at 3))

  -- one that the bytes do not hold makes all of them the front of one
  pub decoded-short : length xs < (decoded (xs ++ ys)).size → decoded xs ≡ bad (length xs)
  decoded-short fewer =
      let bs = xs ++ ys in
      subst (λ v. decoded_by (length xs) v (slice_index xs 1) (slice_index xs 2) (slice_index xs 3) ≡ bad (length xs)) (sym (at 0 some))
      (front_is_bad (length xs) (length bs) (slice_index bs 0) (slice_index bs 1) (slice_index bs 2) (slice_index bs 3)
      (slice_index xs 1) (slice_index xs 2) (slice_index xs 3) some fewer (at 1) (at 2))

-- the characters of a text in UTF-8, each of which is one
pub chars_in-encode : (cs : List ℕ) → scalars cs ≡ true → chars_in (encode_utf8_all cs) ≡ map (λ (c : ℕ). Some c) cs
chars_in-encode [] all = chars_in-nil
chars_in-encode (c ∷ cs) all =
    let both = and_parts _ _ all in
    let width = len_utf8_bounds c in
    let first = encode_utf8 c in
    let later = encode_utf8_all cs in
    let bs = first ++ later in
    let some : 0 < length bs = omega (arith, length-encode c, width.0, length-append first later) in
    let read : decoded bs ≡ good c (length first) = decoded-encode c later both.0 in
    let rest_is : drop (decoded bs).size bs ≡ later = drop_at first later _ (sym (ap (λ (d : Decoded). d.size) read)) in
    chars_in-step bs some ∙ ap (λ (d : Decoded). d.char ∷ chars_in (drop (decoded bs).size bs)) read
    ∙ ap (λ t. Some c ∷ chars_in t) rest_is ∙ ap (λ t. Some c ∷ t) (chars_in-encode cs both.1)

-- how many bytes of text a character takes, or U+FFFD for what is none
abbrev pub width : Option ℕ → ℕ
width (Some c) = length (encode_utf8 c)
width None = length (encode_utf8 replacement)

pub length-with_char : (p : Piece) (c : Option ℕ) → length (with_char p c).text ≡ length p.text + width c
length-with_char p (Some c) = length-append p.text (encode_utf8 c)
length-with_char p None = length-append p.text (encode_utf8 replacement)

pub width-none : width None ≡ 3
width-none = length-encode replacement

pub width-most : (c : Option ℕ) → width c ≤ 4
width-most (Some c) = let bounds = len_utf8_bounds c in omega (arith, length-encode c, bounds.1)
width-most None = omega (arith, width-none)

-- what is no character has at most three bytes
bad_size : (n b c d e : ℕ) → (decoded_by n b c d e).char ≡ None → (decoded_by n b c d e).size ≤ 3
bad_size n b c d e none = by-shape n b c d e
    (λ h. let size_is = ap (λ p. p.size) h.1 in omega arith)
    (λ h. let size_is = ap (λ p. p.size) h.2 in omega arith)
    (λ h. let size_is = ap (λ p. p.size) h.3 in omega arith)
    (λ h. let size_is = ap (λ p. p.size) h.2 in omega arith)
    (λ h. let size_is = ap (λ p. p.size) h.4 in omega arith)
    (λ h. let size_is = ap (λ p. p.size) h.4 in omega arith)
    (λ h. let size_is = ap (λ p. p.size) h.4 in omega arith)
    (λ h. let size_is = ap (λ p. p.size) h.5 in omega arith)
    (λ h. let size_is = ap (λ p. p.size) h.5 in omega arith)
    (λ h. let size_is = ap (λ p. p.size) h.5 in omega arith)
    (λ h. let size_is = ap (λ p. p.size) h.6 in omega arith)
    (λ h. let size_is = ap (λ p. p.size) h.6 in omega arith)
    (λ h. let char_is = sym none ∙ ap (λ (p : Decoded). p.char) h.6 in absurd (cc char_is))

-- the text is at least as long as the bytes that it stands for
width_by : (bytes : List ℕ) (c : Option ℕ) → (decoded bytes).char ≡ c → (decoded bytes).size ≤ width c
width_by bytes (Some y) is = let spells = SpellsChar-decoded bytes y is in omega (arith, spells.width)
width_by bytes None is =
    let size = bad_size (length bytes) (slice_index bytes 0) (slice_index bytes 1) (slice_index bytes 2) (slice_index bytes 3) is in
    omega (arith, width-none, size)

pub size-width : (bytes : List ℕ) → (decoded bytes).size ≤ width (decoded bytes).char
size-width bytes = width_by bytes (decoded bytes).char refl
