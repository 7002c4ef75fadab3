-- What a script prints on a scene.
use Rattle.std.specs.Prelude.{◌≡◌, ℕ, ◌+◌, ◌⊎◌, Option, List, [], ◌∷◌, ◌++◌}
use Rattle.std.specs.Io.KnownBytes.{Appends}
use Rattle.alog_replay.specs.Known.{WhereKnown}
use Rattle.alog_replay.specs.Lines.{lines_of}
use Rattle.alog_replay.specs.Scene.{Scene, Played, Done, Refused, IsDone, IsRefused, Plays, GoesOn}
use Rattle.alog_replay.specs.Entry.{IsEntry}
use Rattle.alog_replay.specs.declared.error.ReplayError.{ReplayError}
use Rattle.alog_replay.specs.declared.error.ReplayError.TheVariants as fault
use Rattle.alog_replay.specs.declared.entry.Entry.{Entry}
use Rattle.alog_replay.specs.declared.entry.Entry.TheVariants.{Skipped, Does}
use Rattle.alog_replay.specs.declared.entry.Entry.TheVariants as entry

-- A whole script, with what it printed and the number of its lines; or its first refused line, counted from 1, with
-- what was printed before and of it.
pub data Told : Type 0 where
  Whole : (text : List ℕ) (lines : ℕ) → Told
  RefusedAt : (line : ℕ) (text : List ℕ) → Told

-- the same with these bytes printed before
abbrev pub told_behind : List ℕ → Told → Told
told_behind text (Whole more lines) = Whole (text ++ more) lines
told_behind text (RefusedAt line more) = RefusedAt line (text ++ more)

abbrev pub text_of : Told → List ℕ
text_of (Whole text lines) = text
text_of (RefusedAt line text) = text

-- a line that was played: the rest follows, or it is refused
abbrev pub TellsPlayed : {S : Type 0} → ℕ → Played S → (S → Told → Type 0) → Told → Type 0
TellsPlayed n (Refused text) rest t = t ≡ RefusedAt (n + 1) text
TellsPlayed n (Done text s) rest t = (u : Told) × rest s u × (t ≡ told_behind text u)

-- a line after n others
abbrev pub TellsLine : {S : Type 0} → Scene S → S → ℕ → Entry → (S → Told → Type 0) → Told → Type 0
TellsLine scene s n Skipped rest t = rest s t
TellsLine {S} scene s n (Does command) rest t = (played : Played S) × Plays scene s command played × TellsPlayed n played rest t
TellsLine scene s n entry.Refused rest t = t ≡ RefusedAt (n + 1) []

-- what the lines tell, after n others that led to this stage
unfoldable pub Tells : {S : Type 0} → Scene S → S → ℕ → List (List ℕ) → Told → Type 0
Tells scene s n [] t = t ≡ Whole (scene.files s) n
Tells scene s n (line ∷ lines) t = (e : Entry) × IsEntry line e × TellsLine scene s n e (λ next u. Tells scene next (n + 1) lines u) t

-- what a script tells, from its bytes and the stage before it
abbrev pub ScriptTells : {S : Type 0} → Scene S → S → List ℕ → Told → Type 0
ScriptTells scene s script t = Tells scene s 0 (lines_of script) t

-- each script tells something on a scene that goes on
abbrev pub TellsSomething : {S : Type 0} → Scene S → Type 0
TellsSomething {S} scene = GoesOn scene → (s : S) (script : List ℕ) → (t : Told) × ScriptTells scene s script t

-- a line was carried out: what was printed behind what stood there, and the stage after it
abbrev pub EntryDone : {S : Type 0} → Scene S → S → Entry → List ℕ → List ℕ → S → Type 0
EntryDone scene s Skipped before after next = (next ≡ s) × (after ≡ before)
EntryDone scene s (Does command) before after next = IsDone (Plays scene s command) before after next
EntryDone scene s entry.Refused before after next = ⊥

abbrev pub LineDone : {S : Type 0} → Scene S → S → List ℕ → List ℕ → List ℕ → S → Type 0
LineDone scene s line before after next = (e : Entry) × IsEntry line e × EntryDone scene s e before after next

-- a line was refused, after this was printed
abbrev pub EntryRefused : {S : Type 0} → Scene S → S → Entry → List ℕ → List ℕ → Type 0
EntryRefused scene s Skipped before after = ⊥
EntryRefused scene s (Does command) before after = IsRefused (Plays scene s command) before after
EntryRefused scene s entry.Refused before after = after ≡ before

abbrev pub LineRefused : {S : Type 0} → Scene S → S → List ℕ → List ℕ → List ℕ → Type 0
LineRefused scene s line before after = (e : Entry) × IsEntry line e × EntryRefused scene s e before after

-- a line was carried out, and what it printed was written
pub record WritesLine {S : Type 0} (scene : Scene S) (s : S) (line : List ℕ) (next : S) (old new : Option (List ℕ)) : Type 0 where
  pub text : List ℕ
  pub done : LineDone scene s line [] text next
  pub writes : Appends old new text

-- a line was refused, and what it had printed was written
pub record WritesRefused {S : Type 0} (scene : Scene S) (s : S) (line : List ℕ) (old new : Option (List ℕ)) : Type 0 where
  pub text : List ℕ
  pub refused : LineRefused scene s line [] text
  pub writes : Appends old new text

-- a front of a text was written
pub record WritesFrontOf (text : List ℕ) (old new : Option (List ℕ)) : Type 0 where
  pub front : List ℕ
  pub back : List ℕ
  pub split : text ≡ front ++ back
  pub writes : Appends old new front

-- what a line printed, whether it was carried out or refused
abbrev pub LinePrints : {S : Type 0} → Scene S → S → List ℕ → List ℕ → Type 0
LinePrints {S} scene s line text = ((next : S) × LineDone scene s line [] text next) ⊎ LineRefused scene s line [] text

-- nothing of a line was written, or a front of what it printed
abbrev pub WritesLineFront : {S : Type 0} → Scene S → S → List ℕ → Option (List ℕ) → Option (List ℕ) → Type 0
WritesLineFront scene s line old new =
    Appends old new [] ⊎ ((text : List ℕ) × LinePrints scene s line text × WritesFrontOf text old new)

-- the fault is no refused line
abbrev pub IsNoRefusal : ReplayError → Type 0
IsNoRefusal (fault.LineRefused line) = ⊥
IsNoRefusal fault.ReadFault = Unit {0}
IsNoRefusal fault.WriteFault = Unit {0}
IsNoRefusal fault.OutOfMemory = Unit {0}

-- what was written is what the script tells, which is so ended
pub record WritesText {S : Type 0} (scene : Scene S) (s : S) (bytes : List ℕ) (end : List ℕ
    → Told) (old new : Option (List ℕ)) : Type 0 where
  pub text : List ℕ
  pub tells : ScriptTells scene s bytes (end text)
  pub writes : Appends old new text

-- what was written is a front of what these bytes tell
pub record WritesFront {S : Type 0} (scene : Scene S) (s : S) (bytes : List ℕ) (old new : Option (List ℕ)) : Type 0 where
  pub told : Told
  pub tells : ScriptTells scene s bytes told
  pub writes : WritesFrontOf (text_of told) old new

-- the bytes that a reader gave have this property, where it tells what it had and what it has left
abbrev pub WasRead : Option (List ℕ) → Option (List ℕ) → (List ℕ → Type 0) → Type 0
WasRead before after P = WhereKnown before after (λ bytes left. (read : List ℕ) × (bytes ≡ read ++ left) × P read)
