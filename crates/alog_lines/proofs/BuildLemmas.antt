-- A piece while it is built.
use Rattle.std.proofs.Common.{◌≡◌, ◌⊎◌, ◌+◌, ◌<◌, ◌≤◌, ℕ, List, [], ◌∷◌, ◌++◌, length, length-append, length-drop, drop, drop-drop, refl}
use Rattle.std.proofs.Common.{sym, ap, subst, ◌∙◌, arith, inl, inr, ⊎_elim}
use Rattle.std.specs.Prelude.{Option, Some, None}
use Rattle.std.proofs.lemmas.Bool.{cases_lt, cases_eq}
use Rattle.std.proofs.lemmas.List.{append-nil, drop-append-le, drop_all}
use Rattle.bstr.specs.Utf8.{Decoded, decoded}
use Rattle.bstr.proofs.lemmas.PieceLemmas.{piece-bounds, size-within}
use Rattle.alog_lines.specs.Building.{Adds, Builds, IsFull}
use Rattle.alog_lines.specs.Pieces.{Piece, nothing, with_char, chars_in, pieces_behind, pieces_in}
use Rattle.alog_lines.specs.declared.cutter.TheConstants.{TEXT_MIN}
use Rattle.alog_lines.proofs.CharLemmas.{chars_in-step, chars_in-nil, decoded-front, decoded-short, length-with_char, width-most, size-width}
use Rattle.alog_lines.proofs.PieceLemmas.{behind-nil, behind-fits, behind-next}

-- what may follow the bytes of a line: nothing, or anything where they are more than a text has
abbrev pub MayFollow : ℕ → List ℕ → List ℕ → Type 0
MayFollow limit bytes more = (more ≡ []) ⊎ (limit < length bytes)

-- The piece is that of the first bytes of a line, and its other characters are those of the rest.
pub record Walks (limit : ℕ) (bytes : List ℕ) (at : ℕ) (p : Piece) : Type 0 where
  pub within : at ≤ length bytes
  pub fits : length p.text ≤ limit
  pub grows : at ≤ length p.text
  pub few : p.mended ≤ at
  pub begun : at ≡ 0 → p ≡ nothing
  pub others : (more : List ℕ) → MayFollow limit bytes more
      → pieces_in limit (bytes ++ more) ≡ pieces_behind limit p (chars_in (drop at bytes ++ more))

pub starts : (limit : ℕ) (bytes : List ℕ) → Walks limit bytes 0 nothing
starts limit bytes = record {
  within = omega arith;
  fits = omega arith;
  grows = omega arith;
  few = omega arith;
  begun = λ _. refl;
  others = λ more may. refl;
}

-- one mend more, or none
mended-with : (p : Piece) (c : Option ℕ) → (with_char p c).mended ≤ p.mended + 1
mended-with p (Some c) = omega arith
mended-with p None = omega arith

module _ (limit : ℕ) (bytes : List ℕ) (at : ℕ) (p : Piece) (w : Walks limit bytes at p) (least : TEXT_MIN ≤ limit) (less : at < length bytes) where
  abbrev rest : List ℕ
  rest = drop at bytes

  abbrev read : Decoded
  read = decoded rest

  left : length rest + at ≡ length bytes
  left = let within = w.within in omega (arith, length-drop at bytes)

  some : 0 < length rest
  some = omega (arith, left)

  -- with more behind them: the same character, or one that does not fit
  module _ (more : List ℕ) (may : MayFollow limit bytes more) where
    abbrev whole : List ℕ
    whole = rest ++ more

    some_whole : 0 < length whole
    some_whole = omega (arith, some, length-append rest more)

    short_is_long : length rest < (decoded whole).size → limit < length bytes
    short_is_long fewer =
        ⊎_elim
        (λ (none : more ≡ []).
        let size = size-within whole in
        let long = length-append rest more in
        let empty : length more ≡ 0 = ap length none in absurd (omega arith))
        (λ over. over) may

    -- the character that is read of all does not fit either
    pub full_whole : IsFull limit rest p → limit < length (with_char p (decoded whole).char).text
    full_whole full =
        ⊎_elim
        (λ (fewer : length rest < (decoded whole).size).
        let over = short_is_long fewer in
        let wide = size-width whole in
        let grows = w.grows in
        let text = length-with_char p (decoded whole).char in omega (arith, left))
        (λ fits. subst (λ (d : Decoded). limit < length (with_char p d.char).text) (decoded-front rest more some fits) full)
        (cases_lt (length rest) (decoded whole).size)

    -- where the one that is read of the rest fits, it is the same
    pub same_whole : length (with_char p read.char).text ≤ limit → decoded whole ≡ read
    same_whole fits =
        ⊎_elim
        (λ (fewer : length rest < (decoded whole).size).
        let over = short_is_long fewer in
        let short = decoded-short rest more some fewer in
        let size : read.size ≡ length rest = ap (λ (d : Decoded). d.size) short in
        let wide = size-width rest in
        let grows = w.grows in
        let text = length-with_char p read.char in absurd (omega (arith, left)))
        (λ within. sym (decoded-front rest more some within))
        (cases_lt (length rest) (decoded whole).size)

    -- then its bytes are taken, and the others stay
    pub chars_taken : decoded whole ≡ read → chars_in whole ≡ read.char ∷ chars_in (drop (at + read.size) bytes ++ more)
    chars_taken same =
        let size = size-within rest in
        chars_in-step whole some_whole ∙ ap (λ (d : Decoded). d.char ∷ chars_in (drop d.size whole)) same
        ∙ ap (λ t. read.char ∷ chars_in t) (drop-append-le read.size rest more size ∙ ap (λ t. t ++ more) (drop-drop read.size at bytes))

    -- the piece is the first where the character does not fit
    pub first_piece : IsFull limit rest p → pieces_in limit (bytes ++ more) ≡ p ∷ pieces_in limit whole
    first_piece full =
        let c = (decoded whole).char in
        let cs = chars_in (drop (decoded whole).size whole) in
        let read_is = chars_in-step whole some_whole in
        let alone : length (with_char nothing c).text ≤ limit =
        let text = length-with_char nothing c in let most = width-most c in omega (arith, least) in
        w.others more may ∙ ap (pieces_behind limit p) read_is ∙ behind-next limit p c cs (full_whole full)
        ∙ ap (λ ps. p ∷ ps) (sym (ap (pieces_behind limit nothing) read_is ∙ behind-fits limit nothing c cs alone))

  -- a character that fits
  pub goes_on : (new : Piece) (after : ℕ) → Adds limit rest p at new after → Walks limit bytes after new
  goes_on new after h =
      let fits : length (with_char p read.char).text ≤ limit = subst (λ (q : Piece). length q.text ≤ limit) h.0 h.1 in
      let size = size-within rest in
      let bounds = piece-bounds rest some in
      let wide = size-width rest in
      let grows = w.grows in
      let few = w.few in
      let text = length-with_char p read.char in
      let mended = mended-with p read.char in
      subst (λ (v : Piece × ℕ). Walks limit bytes v.1 v.0) (λ i. (sym h.0 i, sym h.2 i)) record {
        within = omega (arith, left);
        fits = fits;
        grows = omega arith;
        few = omega arith;
        begun = λ first. absurd (omega arith);
        others = λ more may. w.others more may ∙ ap (pieces_behind limit p) (chars_taken more may (same_whole more may fits))
            ∙ behind-fits limit p read.char (chars_in (drop (at + read.size) bytes ++ more)) fits;
      }

  -- one that does not
  pub stops : IsFull limit rest p → Builds limit bytes at p
  stops full = record {
    within = w.within;
    some = λ _. ⊎_elim
        (λ (first : at ≡ 0).
        let p_is = w.begun first in
        let over : limit < length (with_char nothing read.char).text = subst (λ (q : Piece). limit < length (with_char q read.char).text) p_is full in
        let text = length-with_char nothing read.char in
        let most = width-most read.char in absurd (omega (arith, least)))
        (λ other. omega arith)
        (cases_eq at 0);
    fits = w.fits;
    all = λ e. absurd (omega arith);
    part = λ _.
        ap (pieces_in limit) (sym (append-nil bytes)) ∙ first_piece [] (inl refl) full
        ∙ ap (λ t. p ∷ pieces_in limit t) (append-nil rest);
    long = λ over. (less, λ more. first_piece more (inr over) full);
  }

-- no byte is left
pub at_end : (limit : ℕ) (bytes : List ℕ) (at : ℕ) (p : Piece) → Walks limit bytes at p → length bytes ≤ at → Builds limit bytes at p
at_end limit bytes at p w all =
    let within = w.within in
    let fits = w.fits in
    let grows = w.grows in
    let none : drop at bytes ++ [] ≡ [] = append-nil (drop at bytes) ∙ drop_all at bytes all in record {
      within = within;
      some = λ some. omega arith;
      fits = fits;
      all = λ _. ap (pieces_in limit) (sym (append-nil bytes)) ∙ w.others [] (inl refl)
          ∙ ap (pieces_behind limit p) (ap chars_in none ∙ chars_in-nil) ∙ behind-nil limit p;
      part = λ less. absurd (omega arith);
      long = λ over. absurd (omega arith);
    }
