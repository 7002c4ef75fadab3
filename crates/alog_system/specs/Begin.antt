-- What is begun by a deed.
use Rattle.std.specs.Prelude.{◌≡◌, ℕ, ◌==◌, ◌<◌, ◌&&◌, Bool, true, false, if◌then◌else◌, Option, Some, None, length}
use Rattle.alog_core.specs.declared.TheConstants.{ACTORS}
use Rattle.alog_core.specs.declared.round.Round.TheVariants as round
use Rattle.alog_msg.specs.declared.item.Item.TheVariants.{Text, Flush}
use Rattle.alog_msg.specs.declared.level.Level.{Level}
use Rattle.alog_msg.specs.declared.message.Message.{Message}
use Rattle.alog_policy.specs.Desk.{call_began, post_began}
pub use Rattle.alog_system.specs.Acts.{is_below}
pub use Rattle.alog_system.specs.Asked.{message_by}
use Rattle.alog_system.specs.Roster.{RosterView, policy_at, backtrace_at, level_at}
use Rattle.alog_system.specs.System.{SystemView, is_free, with_desk, with_duty}
use Rattle.alog_system.specs.declared.deed.Deed.{Deed}
use Rattle.alog_system.specs.declared.deed.Deed.TheVariants as deed
use Rattle.alog_system.specs.declared.duty.Duty.{Duty}
use Rattle.alog_system.specs.declared.error.BeginError.{BeginError}
use Rattle.alog_system.specs.declared.error.BeginError.TheVariants as errors
use Rattle.alog_system.specs.declared.duty.Duty.TheVariants.{Free, Keeps, Dumps, Works}

-- the deed's logger is one of these
abbrev pub IsKnown : RosterView → Deed → Type 0
IsKnown r (deed.Log time n level text) = n < length r.loggers
IsKnown r (deed.Flush n) = n < length r.loggers
IsKnown r (deed.Dump time n) = n < length r.loggers
IsKnown r deed.Work = Unit {0}

-- the level that filters a message, if one does, and the deed, if it logs
abbrev pub filtering : Level → Level → Option Level
filtering level own = if is_below level own then Some own else None

abbrev pub filtered_by : RosterView → Deed → Option Level
filtered_by r (deed.Log time n level text) = filtering level (level_at r n)
filtered_by r (deed.Flush n) = None
filtered_by r (deed.Dump time n) = None
filtered_by r deed.Work = None

-- nobody looks at the text of a log that is filtered and not kept
abbrev pub is_unread : RosterView → ℕ → Level → Bool
is_unread r n level = is_below level (level_at r n) && (backtrace_at r n == 0)

-- the text of a deed is too long
abbrev pub IsTooLong : RosterView → ℕ → Deed → Type 0
IsTooLong r limit (deed.Log time n level text) = (limit < length text.now) × (is_unread r n level ≡ false)
IsTooLong r limit (deed.Flush n) = ⊥
IsTooLong r limit (deed.Dump time n) = ⊥
IsTooLong r limit deed.Work = ⊥

-- what a logger's actor does after its round: it keeps the message, where there is a backtrace
abbrev pub kept_after : RosterView → Message → Duty
kept_after r m = if backtrace_at r m.logger == 0 then Free else Keeps m

-- a post of the logger begins, unless it is filtered
abbrev pub posting_unless : {S : Type 0} → Bool → SystemView S → ℕ → Message → SystemView S
posting_unless true v a m = v
posting_unless false v a m = with_desk v (post_began v.desk a (policy_at v.roster m.logger) (Text m))

abbrev pub logging : {S : Type 0} → SystemView S → ℕ → Message → SystemView S
logging v a m = with_duty (posting_unless (is_below m.level (level_at v.roster m.logger)) v a m) a (kept_after v.roster m)

-- the system with the actor's deed begun
abbrev pub begun : {S : Type 0} → SystemView S → ℕ → Deed → SystemView S
begun v a (deed.Log time n level text) = logging v a (message_by a time n level text.now)
begun v a (deed.Flush n) = with_duty (with_desk v (post_began v.desk a (policy_at v.roster n) (Flush n))) a Free
begun v a (deed.Dump time n) =
    with_duty v a (Dumps (record { logger = n; time = time; thread = a; most = backtrace_at v.roster n }))
begun v a deed.Work = with_duty (with_desk v (call_began v.desk a round.Pop)) a Works

-- an actor in no call may begin the deed
abbrev pub MayBegin : {S : Type 0} → SystemView S → ℕ → Deed → Type 0
MayBegin v a d = (a < ACTORS) × (is_free v a ≡ true) × ¬ IsTooLong v.roster v.outputs.text_limit d

-- why what a deed needs was not made
abbrev pub IsOfMaking : BeginError → Type 0
IsOfMaking errors.NoActor = ⊥
IsOfMaking errors.InCall = ⊥
IsOfMaking errors.TextTooLong = Unit {0}
IsOfMaking errors.OutOfMemory = Unit {0}
