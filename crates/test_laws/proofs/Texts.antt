-- The bytes of a file whose lines are the texts of pieces alone.
use Rattle.std.proofs.Common.{◌≡◌, ◌<◌, ◌≤◌, ℕ, ℤ, true, cond, None, Some, Option, List, [], ◌∷◌, ◌++◌, length, refl, sym, ap, subst, ◌∙◌, append-nil, arith}
use Rattle.std.specs.List.{AllByRecursion, concat, filter, flat_map}
use Rattle.std.specs.Option.{unwrap_or}
use Rattle.std.specs.Str.{IsUtf8}
use Rattle.alog_config.specs.Built.{EachIs}
use Rattle.alog_core.proofs.SharedCells.{on_test}
use Rattle.alog_format.specs.Line.{line_text}
use Rattle.alog_format.specs.Text.{Shown, flag_text}
use Rattle.alog_lines.specs.Laws.{ShortLinesAreWhole}
use Rattle.alog_lines.specs.Lines.{begin_line, lines_of}
use Rattle.alog_lines.specs.Pieces.{Piece, pieces_in, pieces_of}
use Rattle.alog_msg.specs.declared.level.Level.{Level}
use Rattle.alog_msg.specs.declared.message.Message.{Message}
use Rattle.alog_pattern.specs.declared.flags.Flag.TheVariants.{Text}
use Rattle.alog_pattern.specs.declared.items.Item.TheVariants.{Flag}
use Rattle.alog_sink.specs.Files.{Files, bytes_of}
use Rattle.alog_sink.specs.Kept.{IsKept}
use Rattle.alog_sink.specs.Lines.{AreWrittenOf, IsWrittenOf, Written, admits, admitted, lines_of as lines_in}
use Rattle.alog_sink.specs.OneFile.{joined}
use Rattle.alog_sink.proofs.SharedOneFiles.{one_file_has}
use Rattle.alog_sink.specs.Rotation.{has_bytes}
use Rattle.alog_sink.specs.Turn.{LeafView, StandsFor}
use Rattle.alog_sink.specs.declared.face.Face.{Face}
use Rattle.alog_sink.specs.declared.target.Target.{Target}
use Rattle.alog_sink.specs.declared.target.Target.TheVariants.{Daily, Memory, Rotating}
use Rattle.test_laws.specs.PipedLines.{AreTexts, HasBytes, IsOf, IsPlain, text_lines}

-- the line of a message whose pattern is its text
shown_line : (s : Shown) → line_text s (Flag Text None ∷ []) ≡ s.message.text ++ 10 ∷ []
unfolding flag_text
shown_line s = ap (λ bs. bs ++ 10 ∷ []) (append-nil s.message.text)

plain_line : (face : Face) (previous : Option ℤ) (m : Message) (w : Written) → face.pattern.items ≡ Flag Text None ∷ []
    → IsWrittenOf face previous m w → w.line ≡ m.text ++ 10 ∷ []
plain_line face previous m w items is =
    let shown = is.0 in
    shown.2 ∙ ap (line_text shown.0) items ∙ shown_line shown.0 ∙ ap (λ (s : Shown). s.message.text ++ 10 ∷ []) shown.1.2

module _ (logger : ℕ) (level : Level) where
  admitted_all : (own : Level) (ps : List Piece) (ms : List Message) → EachIs (IsOf logger level) ps ms → admits own level ≡ true
      → admitted own ms ≡ ms
  admitted_all own [] [] each takes = refl
  admitted_all own [] (m ∷ ms) each takes = absurd each
  admitted_all own (p ∷ ps) [] each takes = absurd each
  admitted_all own (p ∷ ps) (m ∷ ms) each takes =
      let here : admits own m.level ≡ true = ap (λ (x : Message). admits own x.level) each.0.1 ∙ takes in
      ap (λ b. cond b (m ∷ admitted own ms) (admitted own ms)) here ∙ ap (λ (l : List Message). m ∷ l) (admitted_all own ps ms each.1 takes)

  plain_lines : (face : Face) (previous : Option ℤ) (ps : List Piece) (ms : List Message) (ws : List Written)
      → face.pattern.items ≡ Flag Text None ∷ [] → EachIs (IsOf logger level) ps ms → AreWrittenOf face previous ms ws
      → joined (lines_in ws) ≡ text_lines ps
  plain_lines face previous [] [] [] items each are = refl
  plain_lines face previous [] [] (w ∷ ws) items each are = absurd are
  plain_lines face previous [] (m ∷ ms) ws items each are = absurd each
  plain_lines face previous (p ∷ ps) [] ws items each are = absurd each
  plain_lines face previous (p ∷ ps) (m ∷ ms) [] items each are = absurd are
  plain_lines face previous (p ∷ ps) (m ∷ ms) (w ∷ ws) items each are =
      let here : w.line ≡ p.text ++ 10 ∷ [] =
      plain_line face previous m w items are.0 ∙ ap (λ (x : Message). x.text ++ 10 ∷ []) each.0.1 in
      let rest = plain_lines face (Some m.time) ps ms ws items each.1 are.1 in
      λ i. here i ++ rest i

-- pieces that have bytes are all bytes
full_all : (xs : List (List ℕ)) → concat (filter has_bytes xs) ≡ concat xs
full_all [] = refl
full_all ([] ∷ xs) = full_all xs
full_all ((b ∷ bytes) ∷ xs) = ap (λ bs. (b ∷ bytes) ++ bs) (full_all xs)

joined_is : (xs : List (List ℕ)) → concat xs ≡ joined xs
joined_is [] = refl
joined_is (x ∷ xs) = ap (λ bs. x ++ bs) (joined_is xs)

-- what a target has of lines that are these bytes
target_has : (t : Target) (opening now : Files) (ws : List Written) (bytes : List ℕ) → IsKept t opening ws now → joined (lines_in ws) ≡ bytes
    → HasBytes t opening now bytes
target_has (Memory j) opening now ws bytes kept is =
    ap (λ o. unwrap_or o []) (kept j.file) ∙ one_file_has j.file opening (lines_in ws) ∙ ap (λ bs. bytes_of opening j.file ++ bs) is
target_has (Rotating r) opening now ws bytes kept is =
    let base = bytes_of opening r.limits.file in
    record {
      runs = kept.rotated.runs;
      joined = ap (λ ps. concat ps) kept.rotated.cut.joined ∙ full_all (base ∷ lines_in ws)
          ∙ ap (λ bs. base ++ bs) (joined_is (lines_in ws) ∙ is);
      numbers = kept.rotated.numbers;
    }
target_has (Daily d) opening now ws bytes kept is = tt

-- the files of a sink that stands for a message of each piece
pub files_have : {S : Type 0} (files : S → Files) (logger : ℕ) {level : Level} {leaf : LeafView S} {opening : Files} (ps : List Piece)
    {ms : List Message} → IsPlain level leaf → EachIs (IsOf logger level) ps ms → StandsFor files leaf opening ms
    → HasBytes leaf.target opening (files leaf.store) (text_lines ps)
files_have files logger {level} {leaf} {opening} ps {ms} plain each stands =
    let all = admitted_all logger level leaf.face.level ps ms each plain.takes in
    let lines = subst (λ (l : List Message). AreWrittenOf leaf.face None l stands.written) all stands.lines in
    target_has leaf.target opening (files leaf.store) stands.written (text_lines ps) stands.kept
    (plain_lines logger level leaf.face None ps ms stands.written plain.items each lines)

-- lines, each with its newline
abbrev ended : List (List ℕ) → List ℕ
ended lines = flat_map (λ (line : List ℕ). line ++ 10 ∷ []) lines

-- short lines in UTF-8 are their pieces
ended_texts : ShortLinesAreWhole → (limit : ℕ) (lines : List (List ℕ)) → AllByRecursion (λ (line : List ℕ). IsUtf8 line × (length line ≤ limit)) lines
    → text_lines (flat_map (pieces_in limit) lines) ≡ ended lines
ended_texts law limit [] all = refl
ended_texts law limit (line ∷ lines) all =
    ap (λ (ps : List Piece). text_lines (ps ++ flat_map (pieces_in limit) lines)) (law limit line all.0.0 all.0.1)
    ∙ ap (λ bs. (line ++ 10 ∷ []) ++ bs) (ended_texts law limit lines all.1)

begins_some : (b : ℕ) (lines : List (List ℕ)) → 0 < length (begin_line b lines)
begins_some b [] = omega arith
begins_some b (line ∷ lines) = omega arith

some_line : (b : ℕ) (bytes : List ℕ) → 0 < length (lines_of (b ∷ bytes))
unfolding lines_of
some_line b bytes =
    on_test (λ t. 0 < length (cond t ([] ∷ lines_of bytes) (begin_line b (lines_of bytes)))) b 10 (λ _. omega arith)
    (λ _. begins_some b (lines_of bytes))

front_some : (front : List ℕ) → 0 < length (lines_of (front ++ 10 ∷ []))
front_some [] = some_line 10 []
front_some (b ∷ front) = some_line b (front ++ 10 ∷ [])

ended_begun : (b : ℕ) (lines : List (List ℕ)) → 0 < length lines → ended (begin_line b lines) ≡ b ∷ ended lines
ended_begun b [] some = absurd (omega (arith, some))
ended_begun b (line ∷ lines) some = refl

-- the lines of bytes, each with its newline, are the bytes
ended_lines : (front : List ℕ) → ended (lines_of (front ++ 10 ∷ [])) ≡ front ++ 10 ∷ []
unfolding lines_of
ended_lines [] = refl
ended_lines (b ∷ front) =
    let rest = ended_lines front in
    on_test (λ t. ended (cond t ([] ∷ lines_of (front ++ 10 ∷ [])) (begin_line b (lines_of (front ++ 10 ∷ [])))) ≡ b ∷ (front ++ 10 ∷ [])) b 10
    (λ same. λ i. sym same i ∷ rest i)
    (λ _. ended_begun b (lines_of (front ++ 10 ∷ [])) (front_some front) ∙ ap (λ bs. b ∷ bs) rest)

pub copied : ShortLinesAreWhole → {limit : ℕ} {bytes : List ℕ} → AreTexts limit bytes → text_lines (pieces_of limit bytes) ≡ bytes
copied law {limit} {bytes} texts =
    ended_texts law limit (lines_of bytes) texts.lines
    ∙ subst (λ (bs : List ℕ). ended (lines_of bs) ≡ bs) (sym texts.ends) (ended_lines texts.front)
