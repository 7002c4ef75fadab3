use Rattle.std.proofs.Common.{◌≡◌, ◌≤◌, length}
use Rattle.std.specs.Io.KnownBytes.{Consumes}
use Rattle.alog_replay.specs.declared.limits.TheConstants.{SCRIPT_LINE_MAX}
use Rattle.alog_replay.specs.LineState.{rest_of, work_left}
use Rattle.alog_replay.specs.Lines.{IsUnbroken}
use Rattle.alog_replay.proofs.lines.LineReader.next_line.Given as goal

-- the line so far has no newline and is what was taken of the script
abbrev pub invariant-loop-self : goal.invariant-loop-self
invariant-loop-self g l =
    IsUnbroken l.self.line
    × Consumes (rest_of l.fn.self (g.R.Read.remaining l.fn.reader)) (rest_of l.self (g.R.Read.remaining l.reader)) l.self.line
    × (length l.self.line ≤ SCRIPT_LINE_MAX)
    × (work_left l.self ≤ work_left l.fn.self)
    × (¬ IsUnbroken l.fn.self.pending → (l.self.pending ≡ l.fn.self.pending) × (l.self.reads_left ≡ l.fn.self.reads_left))

abbrev pub decreases-loop-self : goal.decreases-loop-self
decreases-loop-self g l = l.self.reads_left
