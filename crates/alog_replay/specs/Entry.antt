-- What a line of a script is: refused, skipped or a command.
use Rattle.std.specs.Prelude.{◌≡◌, ◌≤◌, ◌⊎◌, ℕ, List, [], ◌∷◌, length, IsUtf8}
use Rattle.alog_replay.specs.Command.{Spells}
use Rattle.alog_replay.specs.declared.limits.TheConstants.{SCRIPT_LINE_MAX}
use Rattle.alog_replay.specs.declared.command.Command.{Command}
use Rattle.alog_replay.specs.declared.entry.Entry.{Entry}
use Rattle.alog_replay.specs.declared.entry.Entry.TheVariants.{Skipped, Does, Refused}

-- a line that is not too long, in UTF-8
abbrev pub IsReadable : List ℕ → Type 0
IsReadable line = (length line ≤ SCRIPT_LINE_MAX) × IsUtf8 line

-- an empty line, or one that begins with '#'
abbrev pub IsSkipped : List ℕ → Type 0
IsSkipped [] = Unit {0}
IsSkipped (b ∷ line) = b ≡ 35

-- what a line is
abbrev pub IsEntry : List ℕ → Entry → Type 0
IsEntry line Skipped = IsReadable line × IsSkipped line
IsEntry line (Does command) = IsReadable line × Spells line command
IsEntry line Refused = (IsReadable line → ⊥) ⊎ ((IsSkipped line → ⊥) × ((command : Command) → Spells line command → ⊥))

-- a line spells one command at most
abbrev pub OneCommand : Type 0
OneCommand = (line : List ℕ) (c d : Command) → Spells line c → Spells line d → c ≡ d

-- a line is one thing, and one alone
abbrev pub OneEntry : Type 0
OneEntry = (line : List ℕ) → (entry : Entry) × IsEntry line entry × ((other : Entry) → IsEntry line other → entry ≡ other)
