-- What a refusal of a push and of a pop says: its ticket was read in this round, and it is the pass's one entry. But a pop
-- that took no ticket since none was written has made two: that it found the front unwritten, and what it saw at the end.
use Rattle.std.specs.Prelude.{◌≡◌, ◌≤◌}
use Rattle.alog_core.specs.Queue as queue
use Rattle.alog_ring.specs.Known.{Known}
use Rattle.alog_ring.specs.Kinds.{no_note}
use Rattle.alog_ring.specs.Made.{next_seen, front_seen}
use Rattle.alog_ring.specs.Calls.{AnsweredAs, FoundUnwrittenAs}
use Rattle.alog_ring.specs.declared.push.PushError.{PushError}
use Rattle.alog_ring.specs.declared.push.PushError.TheVariants.{Full, Busy, Spent}
use Rattle.alog_ring.specs.declared.pop.PopError.{PopError}
use Rattle.alog_ring.specs.declared.pop.PopError.TheVariants as pop

-- what was brought comes back: the value, or the unit where it lies in a hand
abbrev pub PushRefusedAs : {T V N : Type 0} → N → Known T N → Known T N → V → PushError V → Type 0
PushRefusedAs blank old new value (Full back next) = (back ≡ value) × (next_seen old ≤ next)
    × AnsweredAs blank old new (queue.Full next)
PushRefusedAs blank old new value (Busy back seen) = (back ≡ value) × (next_seen old ≤ seen)
    × AnsweredAs blank old new (queue.PushBusy seen)
PushRefusedAs blank old new value (Spent back) = (back ≡ value) × AnsweredAs blank old new queue.Spent

abbrev pub PopRefusedAs : {T N : Type 0} → N → Known T N → Known T N → PopError → Type 0
PopRefusedAs blank old new (pop.Empty next) = (front_seen old ≤ next)
    × FoundUnwrittenAs blank old new next (queue.Empty next)
PopRefusedAs blank old new (pop.Idle next) = (front_seen old ≤ next) × FoundUnwrittenAs blank old new next (queue.Idle next)
PopRefusedAs blank old new (pop.Busy seen) = (front_seen old ≤ seen) × AnsweredAs blank old new (queue.PopBusy seen)

-- in a `Ring`
abbrev pub PushRefused : {T V : Type 0} → Known T no_note → Known T no_note → V → PushError V → Type 0
PushRefused old new value e = PushRefusedAs tt old new value e

abbrev pub PopRefused : {T : Type 0} → Known T no_note → Known T no_note → PopError → Type 0
PopRefused old new e = PopRefusedAs tt old new e
