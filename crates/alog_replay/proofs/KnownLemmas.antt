-- What a reading of the next line says of the bytes of a script, where they are known.
use Rattle.std.proofs.Common.{◌≡◌, ◌≤◌, ◌<◌, ◌==◌, ℕ, List, [], ◌∷◌, ◌++◌, length, cond, Option, Some, None, refl, sym, ◌∙◌, ap}
use Rattle.std.proofs.Common.{subst, arith, append_assoc, length-append, if◌then◌else◌}
use Rattle.std.proofs.Math.Dec.{eqb-suc-zero}
use Rattle.std.proofs.lemmas.List.{append-nil}
use Rattle.std.specs.Io.KnownBytes.{Consumes, IsAtEnd}
use Rattle.alog_replay.specs.declared.limits.TheConstants.{SCRIPT_LINE_MAX}
use Rattle.alog_replay.specs.Lines.{lines_of, IsUnbroken}
use Rattle.alog_replay.specs.LineState.{LineState, rest_of}
use Rattle.alog_replay.specs.Reading.{FindsLine, IsNextLine, MovesPiece}
use Rattle.alog_replay.specs.declared.lines.Line.{Line}
use Rattle.alog_replay.specs.declared.lines.Line.TheVariants as next
use Rattle.alog_replay.specs.declared.lines.Piece.TheVariants as piece
use Rattle.alog_lines.proofs.SharedLines.{lines_of-nil}
use Rattle.alog_replay.proofs.LineLemmas.{takes_ended, takes_last, begins_too_long, unbroken-append}

-- what is taken in two parts
pub consumes_more : (old mid new : Option (List ℕ)) (line more : List ℕ) → Consumes old mid line → Consumes mid new more
    → Consumes old new (line ++ more)
consumes_more None mid new line more h g = tt
consumes_more (Some xs) None new line more h g = absurd h
consumes_more (Some xs) (Some ys) None line more h g = absurd g
consumes_more (Some xs) (Some ys) (Some zs) line more h g = h ∙ (ap (λ t. line ++ t) g ∙ sym (append_assoc line more zs))

-- all pending bytes are in the line
pub takes_whole : (left : Option (List ℕ)) (old new : LineState) → MovesPiece piece.Whole old new
    → Consumes (rest_of old left) (rest_of new left) old.pending
takes_whole None old new h = tt
takes_whole (Some xs) old new h = ap (λ t. old.pending ++ (t ++ xs)) (sym h.0)

-- a line that its newline ends
pub finds_ended : (script left : Option (List ℕ)) (old new : LineState) → IsUnbroken old.line
    → Consumes script (rest_of old left) old.line → MovesPiece piece.Ended old new → length new.line ≤ SCRIPT_LINE_MAX
    → FindsLine next.Found script (rest_of new left) new.line
finds_ended None left old new u h m fits = tt
finds_ended (Some s) None old new u h m fits = absurd h
finds_ended (Some s) (Some xs) old new u h m fits =
    let cut = rw m.1 at h in
    let e : s ≡ new.line ++ 10 ∷ (new.pending ++ xs) = rw m.2 (cut ∙ simp append_assoc) in
    takes_ended s new.line (new.pending ++ xs) (rw m.2 (unbroken-append old.line m.0 u m.3)) e fits

-- a line that is too long
pub finds_too_long : (script left : Option (List ℕ)) (old new : LineState) → IsUnbroken old.line
    → Consumes script (rest_of old left) old.line → MovesPiece piece.TooLong old new
    → FindsLine next.TooLong script (rest_of new left) new.line
finds_too_long None left old new u h m = tt
finds_too_long (Some s) None old new u h m = absurd h
finds_too_long (Some s) (Some xs) old new u h m =
    let cut = rw m.3 at h in
    let e : s ≡ (old.line ++ m.1) ++ (m.2 ++ xs) = cut ∙ simp append_assoc in
    let over : SCRIPT_LINE_MAX < length (old.line ++ m.1) = omega (arith, m.5, length-append old.line m.1) in
    rw m.0 (h, begins_too_long s (old.line ++ m.1) (m.2 ++ xs) (unbroken-append old.line m.1 u m.4) over e)

-- what is there at the end of the script: a last line, or nothing
finds_at_end : (s line : List ℕ) → IsUnbroken line → s ≡ line → length line ≤ SCRIPT_LINE_MAX → (answer : Line)
    → answer ≡ (if length line == 0 then next.End else next.Found) → IsNextLine answer s line []
finds_at_end s [] u e fits answer a = rw a (e, ap lines_of e ∙ lines_of-nil, refl, refl)
finds_at_end s (b ∷ line) u e fits answer a =
    let found : answer ≡ next.Found = a ∙ ap (λ t. cond t next.End next.Found) (eqb-suc-zero (length line)) in
    rw found (takes_last s (b ∷ line) u (omega arith) e fits)

pub finds_last : (script after : Option (List ℕ)) (line : List ℕ) {answer : Line} → IsUnbroken line → Consumes script after line
    → IsAtEnd after → length line ≤ SCRIPT_LINE_MAX
    → answer ≡ (if length line == 0 then next.End else next.Found) → FindsLine answer script after line
finds_last None after line u h end fits a = tt
finds_last (Some s) None line u h end fits a = absurd h
finds_last (Some s) (Some xs) line {answer} u h end fits a =
    let whole : s ≡ line = h ∙ (ap (λ t. line ++ t) end ∙ append-nil line) in
    rw end (finds_at_end s line u whole fits answer a)

-- nothing was taken since
pub consumes_same : (old mid new : Option (List ℕ)) (line same : List ℕ) → Consumes old mid line → Consumes mid new [] → same ≡ line
    → Consumes old new same
consumes_same old mid new line same h g e = subst (Consumes old new) (append-nil line ∙ sym e) (consumes_more old mid new line [] h g)
