-- Each string has exactly one reading: that of the plain program.
use Rattle.std.proofs.Common.{◌≡◌, ◌≢◌, ◌<◌, ℕ, Bool, true, false, min, fold, eqb, ◌+◌, ◌-◌, ◌*◌, List, [], ◌∷◌, ◌++◌, map}
use Rattle.std.proofs.Common.{Option, Some, None, refl, sym, ap, subst, ◌∙◌, append-nil, append_assoc, inl, inr, ◌⊎◌, arith}
use Rattle.std.specs.Char.{is_ascii_digit}
use Rattle.std.specs.List.{flat_map, AllByRecursion}
use Rattle.std.specs.Option.{option_to_list}
use Rattle.std.proofs.lemmas.Bool.{cond-true, cond-false, false≢true, false_from_ne_true, ne_eqb}
use Rattle.alog_pattern.specs.Flag.{flag_of}
use Rattle.alog_pattern.specs.declared.items.Side.{Side}
use Rattle.alog_pattern.specs.declared.items.Side.TheVariants.{Right, Left, Centre}
use Rattle.alog_pattern.specs.declared.items.Item.{Item}
use Rattle.alog_pattern.specs.declared.scan.Scan.{Scan}
use Rattle.alog_pattern.specs.declared.scan.Scan.TheVariants.{Between, Wide}
use Rattle.alog_pattern.specs.Grammar.{Spelling, IsSpelling, opening, number, Piece, Single, Spelled, IsPiece, piece_bytes, item}
use Rattle.alog_pattern.specs.Grammar.{IsUnfinished, IsReading, HasOneReading, side_bytes, cut_bytes}
use Rattle.alog_pattern.specs.Length.{longest_line, LineExceeds}
use Rattle.alog_pattern.specs.Scan.{step, items_from, items_of}
use Rattle.alog_pattern.proofs.Begun.{GoesOn, Ends, goes, read, scan_of, IsOpening, IsBegun, IsDigit, digit_range, plain_item}
use Rattle.alog_pattern.proofs.Begun.{padded_item, first_digit, after_side, NoSide, flagged, behind_side, behind_width, behind}

-- ---- there is one

-- what is begun and not whole is an unfinished spelling, as `v` would end it
unfinished_opening : (s : Spelling) → IsOpening s → IsUnfinished (opening s)
unfinished_opening s h = record {
  whole = record s { flag = 118 };
  is_spelling = record {
    digits = h.digits;
    cut = h.cut;
    no_digit = λ e. absurd cc;
    no_side = λ e. (λ f. absurd cc, λ f. absurd cc);
    no_cut = λ ne e. absurd cc;
  };
  missing = 118 ∷ [];
  begun = λ e. cc;
  proper = λ e. cc;
  prefix = refl;
}

-- a reading behind one more piece
cons_reading : (p : Piece) (bytes : List ℕ) (items : List Item) → IsPiece p → IsReading bytes items
    → IsReading (piece_bytes p ++ bytes) (item p ∷ items)
cons_reading p bytes items h r = record {
  pieces = p ∷ r.pieces;
  rest = r.rest;
  each = (h, r.each);
  unfinished = r.unfinished;
  bytes_are = ap (λ x. piece_bytes p ++ x) r.bytes_are ∙ sym (append_assoc (piece_bytes p) (flat_map piece_bytes r.pieces) r.rest);
  items_are = ap (λ (x : List Item). item p ∷ x) r.items_are;
}

ends_reading : (begun : Option Spelling) → IsBegun begun → IsReading (read begun ++ []) []
ends_reading None h = record { pieces = []; rest = []; each = tt; unfinished = inl refl; bytes_are = refl; items_are = refl }
ends_reading (Some s) h = record {
  pieces = [];
  rest = opening s;
  each = tt;
  unfinished = inr (unfinished_opening s h);
  bytes_are = append-nil (opening s);
  items_are = refl;
}

along : (xs ys : List ℕ) (is js : List Item) → xs ≡ ys → is ≡ js → IsReading xs is → IsReading ys js
along xs ys is js e f r =
    let P : List ℕ → Type 0 = λ x. IsReading x js in
    let Q : List Item → Type 0 = λ x. IsReading xs x in
    subst P e (subst Q f r)

-- the plain program gives a reading, wherever it stands
reads : (begun : Option Spelling) (bytes : List ℕ) → IsBegun begun → IsReading (read begun ++ bytes) (items_from (scan_of begun) bytes)
reads begun [] h = ends_reading begun h
reads begun (b ∷ bs) h =
    let gives : Scan × Option Item → List Item = λ out. option_to_list out.1 ++ items_from out.0 bs in
    elim (goes begun b h) [
      | GoesOn next begins bytes out ↦
          along (opening next ++ bs) (read begun ++ b ∷ bs) (items_from (scan_of (Some next)) bs) (items_from (scan_of begun) (b ∷ bs))
          (ap (λ x. x ++ bs) bytes ∙ append_assoc (read begun) (b ∷ []) bs) (ap gives (sym out)) (reads (Some next) bs begins)
      | Ends piece is bytes out ↦
          along (piece_bytes piece ++ bs) (read begun ++ b ∷ bs) (item piece ∷ items_of bs) (items_from (scan_of begun) (b ∷ bs))
          (ap (λ x. x ++ bs) bytes ∙ append_assoc (read begun) (b ∷ []) bs) (ap gives (sym out)) (cons_reading piece bs
          (items_of bs) is (reads None bs tt))
    ]

-- the plain program gives a reading
pub has_reading : (bytes : List ℕ) → IsReading bytes (items_of bytes)
has_reading bytes = reads None bytes tt

-- ---- there is no other

-- where digits lead
digits_read : (side : Side) (n : ℕ) (ds bs : List ℕ) → AllByRecursion IsDigit ds
    → items_from (Wide side (min 64 n)) (ds ++ bs) ≡ items_from (Wide side (min 64 (fold (λ n b. 10 * n + (b - 48)) n ds))) bs
digits_read side n [] bs h = refl
digits_read side n (d ∷ ds) bs h =
    let gives : Scan × Option Item → List Item = λ out. option_to_list out.1 ++ items_from out.0 (ds ++ bs) in
    let e : min 64 (10 * min 64 n + (d - 48)) ≡ min 64 (10 * n + (d - 48)) = omega arith in
    let digit : is_ascii_digit d ≡ true = h.0 in
    let out : step (Wide side (min 64 n)) d ≡ (Wide side (min 64 (10 * n + (d - 48))), None) = cond-true _ _ _ digit
    ∙ ap (λ w. (Wide side w, None)) e in
    ap gives out ∙ digits_read side (10 * n + (d - 48)) ds bs h.1

side_reads : (side : Side) (xs bs : List ℕ) → items_of ((37 ∷ (side_bytes side ++ xs)) ++ bs) ≡ items_from (behind_side side) (xs ++ bs)
side_reads Right xs bs = refl
side_reads Left xs bs = refl
side_reads Centre xs bs = refl

digit_no_side : (side : Side) (d : ℕ) → IsDigit d → NoSide side d
digit_no_side side d h e = let r = digit_range d h in (λ f. absurd (omega (arith, r.0, r.1)), λ f. absurd (omega (arith, r.0, r.1)))

first_read : (side : Side) (d : ℕ) (bs : List ℕ) → IsDigit d
    → items_from (behind_side side) (d ∷ bs) ≡ items_from (Wide side (min 64 (10 * 0 + (d - 48)))) bs
first_read side d bs h =
    let gives : Scan × Option Item → List Item = λ out. option_to_list out.1 ++ items_from out.0 bs in
    let digit : is_ascii_digit d ≡ true = h in
    ap gives (after_side side d (digit_no_side side d h) ∙ cond-true _ _ _ digit)
    ∙ ap (λ (scan : Scan). items_from scan bs) (first_digit side d h)

cut_reads : (side : Side) (width : ℕ) (cut : Bool) (bs : List ℕ)
    → items_from (Wide side width) (cut_bytes cut ++ bs) ≡ items_from (behind_width side width cut) bs
cut_reads side width true bs = refl
cut_reads side width false bs = refl

-- where an opening leads
opening_reads : (side : Side) (digits : List ℕ) (cut : Bool) (flag : ℕ) (bs : List ℕ) → IsOpening (flagged side digits cut flag)
    → items_of (opening (flagged side digits cut flag) ++ bs) ≡ items_from (behind side digits cut) bs
opening_reads side [] true flag bs h = absurd (h.cut refl refl)
opening_reads side [] false flag bs h = side_reads side [] bs
opening_reads side (d ∷ ds) cut flag bs h =
    side_reads side ((d ∷ ds) ++ cut_bytes cut) bs
    ∙ first_read side d ((ds ++ cut_bytes cut) ++ bs) h.digits.0
    ∙ ap (λ x. items_from (Wide side (min 64 (10 * 0 + (d - 48)))) x) (append_assoc ds (cut_bytes cut) bs)
    ∙ digits_read side (10 * 0 + (d - 48)) ds (cut_bytes cut ++ bs) h.digits.1
    ∙ cut_reads side (min 64 (number (d ∷ ds))) cut bs

-- what the flag byte completes
flag_reads : (side : Side) (digits : List ℕ) (cut : Bool) (flag : ℕ) → IsSpelling (flagged side digits cut flag)
    → step (behind side digits cut) flag ≡ (Between, Some (item (Spelled (flagged side digits cut flag))))
flag_reads side [] true flag h = absurd (h.cut refl refl)
flag_reads side [] false flag h =
    let other : is_ascii_digit flag ≡ false = false_from_ne_true _ (λ e. false≢true (h.no_digit e)) in
    let free : NoSide side flag = λ e. h.no_side (rw e refl) in
    after_side side flag free ∙ cond-false _ _ _ other ∙ ap (λ (i : Item). (Between, Some i)) (plain_item (flag_of flag) side flag)
flag_reads side (d ∷ ds) false flag h =
    let other : is_ascii_digit flag ≡ false = false_from_ne_true _ (λ e. false≢true (h.no_digit e)) in
    let not_cut : eqb flag 33 ≡ false = ne_eqb flag 33 (λ e. false≢true (h.no_cut (λ n. cc) e)) in
    cond-false _ _ _ other ∙ cond-false _ _ _ not_cut
    ∙ ap (λ (i : Item). (Between, Some i)) (padded_item (flag_of flag) side d ds false flag)
flag_reads side (d ∷ ds) true flag h = ap (λ (i : Item). (Between, Some i)) (padded_item (flag_of flag) side d ds true flag)

opening_of : (s : Spelling) → IsSpelling s → IsOpening s
opening_of s h = record { digits = h.digits; cut = h.cut }

-- a piece gives its item
piece_reads : (p : Piece) (bs : List ℕ) → IsPiece p → items_of (piece_bytes p ++ bs) ≡ item p ∷ items_of bs
piece_reads (Single b) bs h =
    let gives : Scan × Option Item → List Item = λ out. option_to_list out.1 ++ items_from out.0 bs in
    ap gives (cond-false _ _ _ (ne_eqb b 37 h))
piece_reads (Spelled s) bs h =
    let gives : Scan × Option Item → List Item = λ out. option_to_list out.1 ++ items_from out.0 bs in
    ap items_of (append_assoc (opening s) (s.flag ∷ []) bs)
    ∙ opening_reads s.side s.digits s.cut s.flag (s.flag ∷ bs) (opening_of s h)
    ∙ ap gives (flag_reads s.side s.digits s.cut s.flag h)

pieces_read : (ps : List Piece) (bs : List ℕ) → AllByRecursion IsPiece ps
    → items_of (flat_map piece_bytes ps ++ bs) ≡ map item ps ++ items_of bs
pieces_read [] bs h = refl
pieces_read (p ∷ ps) bs h =
    ap items_of (append_assoc (piece_bytes p) (flat_map piece_bytes ps) bs)
    ∙ piece_reads p (flat_map piece_bytes ps ++ bs) h.0
    ∙ ap (λ (x : List Item). item p ∷ x) (pieces_read ps bs h.1)

-- where the whole gives no item, its beginning gives none
none_before : (o : Option Item) (items : List Item) → option_to_list o ++ items ≡ [] → (o ≡ None) × (items ≡ [])
none_before None items e = (refl, e)
none_before (Some i) items e = absurd cc

nothing_before : (scan : Scan) (xs ys : List ℕ) → items_from scan (xs ++ ys) ≡ [] → items_from scan xs ≡ []
nothing_before scan [] ys e = refl
nothing_before scan (x ∷ xs) ys e =
    let out = step scan x in
    let n = none_before out.1 (items_from out.0 (xs ++ ys)) e in
    ap (λ (o : Option Item). option_to_list o ++ items_from out.0 xs) n.0 ∙ nothing_before out.0 xs ys n.1

-- a proper prefix of what ends in a byte is a prefix of what stands before that byte
before_last : (xs missing ys : List ℕ) (b : ℕ) → missing ≢ [] → xs ++ missing ≡ ys ++ b ∷ [] → (more : List ℕ) × (xs ++ more ≡ ys)
before_last [] missing ys b ne e = (ys, refl)
before_last (x ∷ []) missing [] b ne e = absurd (ne cc)
before_last (x ∷ y ∷ xs) missing [] b ne e = absurd cc
before_last (x ∷ xs) missing (y ∷ ys) b ne e =
    let tail : xs ++ missing ≡ ys ++ b ∷ [] = cc in
    let head : x ≡ y = cc in
    let r = before_last xs missing ys b ne tail in
    (r.0, cc)

unfinished_reads : (bytes : List ℕ) → (bytes ≡ []) ⊎ IsUnfinished bytes → items_of bytes ≡ []
unfinished_reads bytes (inl e) = rw e refl
unfinished_reads bytes (inr u) =
    let s = u.whole in
    let r = before_last bytes u.missing (opening s) s.flag u.proper u.prefix in
    nothing_before Between bytes r.0 (ap items_of (r.1 ∙ sym (append-nil (opening s)))
    ∙ opening_reads s.side s.digits s.cut s.flag [] (opening_of s u.is_spelling))

-- each reading is that of the plain program
pub only_reading : (bytes : List ℕ) (items : List Item) → IsReading bytes items → items ≡ items_of bytes
only_reading bytes items r =
    r.items_are
    ∙ sym (append-nil (map item r.pieces))
    ∙ ap (λ (x : List Item). map item r.pieces ++ x) (sym (unfinished_reads r.rest r.unfinished))
    ∙ sym (pieces_read r.pieces r.rest r.each)
    ∙ ap items_of (sym r.bytes_are)

pub one_reading : (bytes : List ℕ) → HasOneReading bytes
one_reading bytes = (items_of bytes, has_reading bytes, only_reading bytes)

-- whether the longest line is above n, by the plain program
pub line_exceeds : (n limit : ℕ) (bytes : List ℕ) → n < longest_line limit (items_of bytes) → LineExceeds n limit bytes
line_exceeds n limit bytes h = (items_of bytes, has_reading bytes, h)

pub line_within : (n limit : ℕ) (bytes : List ℕ) → LineExceeds n limit bytes → n < longest_line limit (items_of bytes)
line_within n limit bytes x =
    let P : List Item → Type 0 = λ items. n < longest_line limit items in
    subst P (only_reading bytes x.0 x.1) x.2
