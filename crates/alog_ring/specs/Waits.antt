-- Calls that begin again while another is in the way.
use Rattle.std.specs.Prelude.{ℕ, ◌≤◌}
use Rattle.alog_core.specs.Queue as queue
use Rattle.alog_ring.specs.Known.{Known}
use Rattle.alog_ring.specs.Kinds.{no_note}
use Rattle.alog_ring.specs.Made.{next_seen, front_seen}
use Rattle.alog_ring.specs.Calls.{Answered, Pushed, Popped}
use Rattle.alog_ring.specs.Refused.{PushRefused, PopRefused}
use Rattle.alog_ring.specs.declared.push.PushError.{PushError}
use Rattle.alog_ring.specs.declared.push.PushError.TheVariants.{Full, Busy, Spent}
use Rattle.alog_ring.specs.declared.pop.PopError.{PopError}
use Rattle.alog_ring.specs.declared.pop.PopError.TheVariants as pop

-- rounds of a push that were busy, each at a ticket that was read in it
pub data BusyPushes {T : Type 0} (old : Known T no_note) : Known T no_note → Type 0 where
  none : BusyPushes old old
  more : {mid new : Known T no_note} (ticket : ℕ) → BusyPushes old mid → next_seen mid ≤ ticket
      → Answered mid new (queue.PushBusy ticket) → BusyPushes old new

-- rounds of a pop that were busy
pub data BusyPops {T : Type 0} (old : Known T no_note) : Known T no_note → Type 0 where
  none : BusyPops old old
  more : {mid new : Known T no_note} (ticket : ℕ) → BusyPops old mid → front_seen mid ≤ ticket
      → Answered mid new (queue.PopBusy ticket) → BusyPops old new

-- busy rounds, and then one that pushed
abbrev pub PushedAtLast : {T : Type 0} → Known T no_note → Known T no_note → ℕ → T → Type 0
PushedAtLast {T} old new t x = (mid : Known T no_note) × BusyPushes old mid × Pushed mid new t x

abbrev pub PoppedAtLast : {T : Type 0} → Known T no_note → Known T no_note → ℕ → T → Type 0
PoppedAtLast {T} old new t x = (mid : Known T no_note) × BusyPops old mid × Popped mid new t x

-- the refusal is not that of a busy round
abbrev pub EndsPush : {T : Type 0} → PushError T → Type 0
EndsPush (Full back next) = Unit {0}
EndsPush (Busy back seen) = ⊥
EndsPush (Spent back) = Unit {0}

abbrev pub EndsPop : PopError → Type 0
EndsPop (pop.Empty next) = Unit {0}
EndsPop (pop.Idle next) = Unit {0}
EndsPop (pop.Busy seen) = ⊥

-- busy rounds, and then one that was refused
abbrev pub PushRefusedAtLast : {T : Type 0} → Known T no_note → Known T no_note → T → PushError T → Type 0
PushRefusedAtLast {T} old new value e = EndsPush e
    × ((mid : Known T no_note) × BusyPushes old mid × PushRefused mid new value e)

abbrev pub PopRefusedAtLast : {T : Type 0} → Known T no_note → Known T no_note → PopError → Type 0
PopRefusedAtLast {T} old new e = EndsPop e × ((mid : Known T no_note) × BusyPops old mid × PopRefused mid new e)
