-- A piece that is taken from the front of what is pending.
use Rattle.std.proofs.Common.{◌≡◌, ◌≢◌, ◌+◌, ◌-◌, ◌<◌, ◌≤◌, ℕ, zero, suc, Bool, true, false, List, [], ◌∷◌, ◌++◌, length, length-drop, length-take-le, take, drop, drop-drop, IsUtf8}
use Rattle.std.proofs.Common.{sym, ap, subst, ◌∙◌, arith, append_assoc, take-append-drop, take_all}
use Rattle.std.specs.List.{flat_map}
use Rattle.std.proofs.lemmas.List.{append-nil, drop-append-le, drop-take, drop_all}
use Rattle.alog_lines.specs.Building.{Builds}
use Rattle.alog_lines.specs.Cutting.{Cutting, Takes}
use Rattle.alog_lines.specs.Front.{Begins, IsLine}
use Rattle.alog_lines.specs.Lines.{lines_of, IsUnbroken}
use Rattle.alog_lines.specs.Pieces.{Piece, pieces_in, pieces_of}
use Rattle.alog_lines.specs.declared.front.Front.TheVariants as front
use Rattle.alog_lines.proofs.SharedLines.{first_in, lines_of-nil, others_in, unbroken-drop}
use Rattle.alog_lines.proofs.PieceLemmas.{of_begun, of_last, of_line, short_line}

-- bytes that begin with a line, which goes before the lines of the others
first_line : (limit : ℕ) (bytes more : List ℕ) (ended : Bool) (len newline : ℕ) → (ended ≡ true → more ≡ [])
    → len + newline ≤ length bytes → IsUnbroken (take len bytes) → IsLine bytes ended len newline
    → pieces_of limit (bytes ++ more) ≡ pieces_in limit (take len bytes) ++ pieces_of limit (drop (len + newline) bytes ++ more)
first_line limit bytes more ended len zero may within unbroken line =
    let none : more ≡ [] = may line.1 in
    let all : take len bytes ≡ bytes = take_all len bytes (omega (arith, line.0)) in
    let rest : drop (len + 0) bytes ++ more ≡ [] =
    ap (λ t. drop (len + 0) bytes ++ t) none ∙ append-nil (drop (len + 0) bytes) ∙ drop_all (len + 0) bytes (omega (arith, line.0)) in
    let some : 0 < length bytes = omega (arith, line.0, line.2) in
    ap (λ t. pieces_of limit (bytes ++ t)) none ∙ ap (pieces_of limit) (append-nil bytes)
    ∙ of_last limit bytes (subst IsUnbroken all unbroken) some ∙ ap (pieces_in limit) (sym all)
    ∙ sym (append-nil (pieces_in limit (take len bytes)))
    ∙ ap (λ t. pieces_in limit (take len bytes) ++ t) (sym (ap (pieces_of limit) rest ∙ ap (flat_map (pieces_in limit)) lines_of-nil))
first_line limit bytes more ended len (suc n) may within unbroken line =
    let one : suc n ≡ 1 = omega (arith, line.0) in
    let rest = drop (len + 1) bytes in
    let parts : bytes ++ more ≡ take len bytes ++ 10 ∷ (rest ++ more) =
    ap (λ t. t ++ more) (sym (take-append-drop len bytes) ∙ ap (λ t. take len bytes ++ t) line.1)
    ∙ append_assoc (take len bytes) (10 ∷ rest) more in
    ap (pieces_of limit) parts ∙ of_line limit (take len bytes) (rest ++ more) unbroken
    ∙ ap (λ k. pieces_in limit (take len bytes) ++ pieces_of limit (drop (len + k) bytes ++ more)) (sym one)

-- the same line without its first bytes
later : (bytes : List ℕ) (ended : Bool) (len newline k : ℕ) → k < len → len ≤ length bytes → IsLine bytes ended len newline
    → IsLine (drop k bytes) ended (len - k) newline
later bytes ended len zero k less within line = (omega (arith, line.0, length-drop k bytes), line.1, omega arith)
later bytes ended len (suc n) k less within line =
    let whole : k + (len - k) ≡ len = omega arith in
    let next : k + (len - k + 1) ≡ len + 1 = omega arith in (
      line.0,
      drop-drop (len - k) k bytes ∙ ap (λ j. drop j bytes) whole ∙ line.1
          ∙ ap (λ t. 10 ∷ t) (sym (drop-drop (len - k + 1) k bytes ∙ ap (λ j. drop j bytes) next)),
    )

module _ (old new : Cutting) (len newline : ℕ) (begins : Begins old.pending old.limit old.ended (front.Line len newline)) where
  abbrev line : List ℕ
  line = take len old.pending

  size : length line ≡ len
  size = length-take-le len old.pending (omega (arith, begins.0))

  -- all of it is one piece
  alone : (piece : Piece) → pieces_in old.limit line ≡ piece ∷ [] → length piece.text ≤ old.limit → 0 < len + newline
      → new.pending ≡ drop (len + newline) old.pending → Takes old new piece
  alone piece one fits some rest = record {
    taken = take (len + newline) old.pending;
    whole = sym (take-append-drop (len + newline) old.pending) ∙ ap (λ t. take (len + newline) old.pending ++ t) (sym rest);
    some = omega (arith, some, length-take-le (len + newline) old.pending begins.0);
    fits = fits;
    first = λ more may.
        first_line old.limit old.pending more old.ended len newline may begins.0 begins.2 begins.3
        ∙ ap (λ ps. ps ++ pieces_of old.limit (drop (len + newline) old.pending ++ more)) one
        ∙ ap (λ t. piece ∷ pieces_of old.limit (t ++ more)) (sym rest);
  }

  -- a line has a byte, or its newline is one
  byte : (n : ℕ) → IsLine old.pending old.ended len n → 0 < len + n
  byte zero h = omega (arith, h.2)
  byte (suc n) h = omega arith

  some_byte : 0 < len + newline
  some_byte = byte newline begins.3

  -- a line in UTF-8
  pub takes_line : (text : List ℕ) → text ≡ line → IsUtf8 line → new.pending ≡ drop (len + newline) old.pending
      → Takes old new (record { text = text; mended = 0; ends = true })
  takes_line text is u rest =
      subst (λ (t : List ℕ). Takes old new (record { text = t; mended = 0; ends = true })) (sym is)
      (alone (record { text = line; mended = 0; ends = true }) (short_line old.limit line u (omega (arith, size, begins.1)))
      (omega (arith, size, begins.1)) some_byte rest)

  -- a line that was built
  pub takes_built : (text built : List ℕ) (mended : ℕ) → text ≡ built
      → Builds old.limit line len (record { text = built; mended = mended; ends = false })
      → new.pending ≡ drop (len + newline) old.pending → Takes old new (record { text = text; mended = mended; ends = true })
  takes_built text built mended is b rest =
      subst (λ (t : List ℕ). Takes old new (record { text = t; mended = mended; ends = true })) (sym is)
      (alone (record { text = built; mended = mended; ends = true }) (b.all (sym size)) b.fits some_byte rest)

  -- the first piece of it
  pub takes_part : (taken : ℕ) (piece : Piece) → Builds old.limit line taken piece → taken ≢ len → new.pending ≡ drop taken old.pending
      → Takes old new piece
  takes_part taken piece b other rest =
      let within = b.within in
      let less : taken < len = omega (arith, size, other) in
      let there : taken ≤ length old.pending = omega (arith, begins.0) in
      let back : drop taken line ≡ take (len - taken) (drop taken old.pending) =
      let parts : len ≡ taken + (len - taken) = omega arith in
      ap (λ j. drop taken (take j old.pending)) parts ∙ drop-take taken (len - taken) old.pending in
      let more_bytes : taken + (len - taken + newline) ≡ len + newline = omega arith in record {
        taken = take taken old.pending;
        whole = sym (take-append-drop taken old.pending) ∙ ap (λ t. take taken old.pending ++ t) (sym rest);
        some = omega (arith, length-take-le taken old.pending there, b.some (omega (arith, size)));
        fits = b.fits;
        first = λ more may.
            let behind = pieces_of old.limit (drop (len + newline) old.pending ++ more) in
            let others = first_line old.limit (drop taken old.pending) more old.ended (len - taken) newline may
            (omega (arith, begins.0, length-drop taken old.pending)) (subst IsUnbroken back (unbroken-drop taken line begins.2))
            (later old.pending old.ended len newline taken less (omega (arith, begins.0)) begins.3) in
            let same : pieces_of old.limit (new.pending ++ more) ≡ pieces_in old.limit (drop taken line) ++ behind =
            ap (λ t. pieces_of old.limit (t ++ more)) rest ∙ others ∙ ap (λ t. pieces_in old.limit t ++ pieces_of old.limit (drop (len - taken + newline) (drop taken old.pending) ++ more)) (sym back)
            ∙ ap (λ t. pieces_in old.limit (drop taken line) ++ pieces_of old.limit (t ++ more)) (drop-drop (len - taken + newline) taken old.pending ∙ ap (λ j. drop j old.pending) more_bytes) in
            first_line old.limit old.pending more old.ended len newline may begins.0 begins.2 begins.3
            ∙ ap (λ ps. ps ++ behind) (b.part (omega (arith, size))) ∙ ap (λ ps. piece ∷ ps) (sym same);
      }

-- the first piece of a line that is too long
module _ (old new : Cutting) (begins : Begins old.pending old.limit old.ended front.Long) where
  abbrev window : List ℕ
  window = take (old.limit + 1) old.pending

  pub takes_long : (taken : ℕ) (piece : Piece) → Builds old.limit window taken piece → new.pending ≡ drop taken old.pending
      → Takes old new piece
  takes_long taken piece b rest =
      let size : length window ≡ old.limit + 1 = length-take-le (old.limit + 1) old.pending (omega (arith, begins.0)) in
      let over : old.limit < length window = omega (arith, size) in
      let long = b.long over in
      let there : taken ≤ length old.pending = omega (arith, size, begins.0, long.0) in
      let some = b.some (omega (arith, size)) in record {
        taken = take taken old.pending;
        whole = sym (take-append-drop taken old.pending) ∙ ap (λ t. take taken old.pending ++ t) (sym rest);
        some = omega (arith, length-take-le taken old.pending there, some);
        fits = b.fits;
        first = λ more may.
            let x = drop (old.limit + 1) old.pending ++ more in
            let l = first_in (lines_of x) in
            let behind = flat_map (pieces_in old.limit) (others_in (lines_of x)) in
            let split : old.pending ++ more ≡ window ++ x =
            ap (λ t. t ++ more) (sym (take-append-drop (old.limit + 1) old.pending)) ∙ append_assoc window (drop (old.limit + 1) old.pending) more in
            let left : 0 < length (drop taken window) = omega (arith, length-drop taken window, long.0) in
            let moved : new.pending ++ more ≡ drop taken window ++ x =
            ap (λ t. t ++ more) (rest ∙ ap (drop taken) (sym (take-append-drop (old.limit + 1) old.pending))
            ∙ drop-append-le taken window (drop (old.limit + 1) old.pending) (omega (arith, long.0)))
            ∙ append_assoc (drop taken window) (drop (old.limit + 1) old.pending) more in
            ap (pieces_of old.limit) split ∙ of_begun old.limit window x begins.1 (omega (arith, size))
            ∙ ap (λ ps. ps ++ behind) (long.1 l)
            ∙ ap (λ ps. piece ∷ ps) (sym (ap (pieces_of old.limit) moved
            ∙ of_begun old.limit (drop taken window) x (unbroken-drop taken window begins.1) left));
      }
