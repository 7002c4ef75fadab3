-- What the next line of a script is.
use Rattle.std.specs.Prelude.{◌≡◌, ◌++◌, ◌∷◌, ◌<◌, ◌+◌, ℕ, List, [], Option, length}
use Rattle.alog_replay.specs.Known.{WhereKnown}
use Rattle.alog_replay.specs.Lines.{lines_of, TakesLine, BeginsTooLong, IsUnbroken}
use Rattle.alog_replay.specs.LineState.{LineState}
use Rattle.alog_replay.specs.declared.limits.TheConstants.{SCRIPT_LINE_MAX}
use Rattle.alog_replay.specs.declared.lines.Line.{Line}
use Rattle.alog_replay.specs.declared.lines.Line.TheVariants as next
use Rattle.alog_replay.specs.declared.lines.Piece.{Piece}
use Rattle.alog_replay.specs.declared.lines.Piece.TheVariants as piece

-- what an answer says of the script before, of the line, and of the bytes after it
abbrev pub IsNextLine : Line → List ℕ → List ℕ → List ℕ → Type 0
IsNextLine next.Found script line after = TakesLine script line after
IsNextLine next.TooLong script line after = (script ≡ line ++ after) × BeginsTooLong script
IsNextLine next.End script line after = (script ≡ []) × (lines_of script ≡ []) × (line ≡ []) × (after ≡ [])

-- the same where the bytes of the script are known
abbrev pub FindsLine : Line → Option (List ℕ) → Option (List ℕ) → List ℕ → Type 0
FindsLine answer before after line = WhereKnown before after (λ script rest. IsNextLine answer script line rest)

-- a piece of the pending bytes was moved behind the line
abbrev pub MovesPiece : Piece → LineState → LineState → Type 0
MovesPiece piece.Ended old new = (p : List ℕ) × (old.pending ≡ p ++ 10 ∷ new.pending) × (new.line ≡ old.line ++ p) × IsUnbroken p
MovesPiece piece.Whole old new = (new.pending ≡ []) × (new.line ≡ old.line ++ old.pending) × IsUnbroken old.pending
MovesPiece piece.TooLong old new =
    (new ≡ old) × (p : List ℕ) × (q : List ℕ) × (old.pending ≡ p ++ q) × IsUnbroken p × (SCRIPT_LINE_MAX < length old.line + length p)
