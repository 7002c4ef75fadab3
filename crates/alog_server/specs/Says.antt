-- The calls of a client: each is one of its producer's, with some time; what a clock tells, no contract says.
use Rattle.std.specs.Prelude.{◌≡◌, ◌≢◌, ◌<◌, ◌⊎◌, ℕ, ℤ, List, length, Option, Some, Result, Ok, Err}
use Rattle.std.specs.declared.alloc.Global.{Global}
use Rattle.std.specs.Prelude.{Vec}
use Rattle.alog_msg.specs.declared.item.Item.TheVariants.{Flush}
use Rattle.alog_msg.specs.declared.level.Level.{Level}
use Rattle.alog_msg.specs.declared.message.Message.{Message}
use Rattle.alog_msg.specs.declared.source.SourceRef.{SourceRef}
use Rattle.alog_policy.specs.SwapPort.{SwapDid}
use Rattle.alog_policy.specs.Progress.{without_waiting}
use Rattle.alog_policy.specs.declared.policy.Outcome.{Outcome}
use Rattle.alog_policy.specs.declared.policy.Policy.{Policy}
use Rattle.alog_policy.specs.declared.policy.Policy.TheVariants.{Block}
use Rattle.alog_registry.specs.BlockPort.{BlockPort}
use Rattle.alog_pool.specs.Producer.{ProducerView, IsPortOf, IsSame, Lent}
use Rattle.alog_registry.specs.Backtrace.{Room}
use Rattle.alog_registry.specs.ItemOutlet.{PostsItem}
use Rattle.alog_registry.specs.Dumping.{PostsEach, posted_of}
use Rattle.alog_registry.specs.Given.{message_with, IsWithin, IsTooLongField}
use Rattle.alog_registry.specs.LaneKeeper.{DumpsByTurn, KeepsByTurn, NeverPasses, Passes}
use Rattle.alog_registry.specs.Listed.{spec_at}
use Rattle.alog_registry.specs.Logging.{IsLoggedOrSpent, Logs, IsUnread}
use Rattle.alog_registry.specs.declared.keep.LaneKeeper.{LaneKeeper}
use Rattle.alog_registry.specs.declared.logger.Spec.{Spec}
use Rattle.alog_registry.specs.declared.logging.LogReply.{LogReply}
use Rattle.alog_server.specs.declared.error.LogError.{LogError}
use Rattle.alog_server.specs.declared.error.LogError.TheVariants as log

-- whether a call may wait, for room and for the lock of a backtrace
pub data How : Type 0 where
  Waiting : How
  AtOnce : How

-- what a logger of this spec does with a message that is logged so
abbrev pub LogsSo : How → Spec → Message → BlockPort → LaneKeeper → LogReply → BlockPort → LaneKeeper → Type 0
LogsSo Waiting s m p k reply q l = Logs SwapDid KeepsByTurn NeverPasses s.policy s m p k reply q l
LogsSo AtOnce s m p k reply q l = Logs SwapDid KeepsByTurn Passes (without_waiting s.policy) s m p k reply q l

-- what it answers under a policy that blocks, if the call may wait: its post is discarded only where no ticket is left
abbrev pub WaitsSo : How → Spec → LogReply → Type 0
WaitsSo Waiting s reply = s.policy ≡ Block → IsLoggedOrSpent reply
WaitsSo AtOnce s reply = Unit {0}

-- The producer logged the message with these fields and its own number to the logger of this number, which answered so.
pub record HasLogged (time : ℤ) (how : How) (number : ℕ) (level : Level) (text : List ℕ) (source : Option SourceRef) (old : ProducerView)
    (reply : LogReply) (new : ProducerView) : Type 0 where
  pub logs : (s : Spec) → spec_at old.shared.loggers number ≡ Some s
      → Lent old new number (λ p k q l. LogsSo how s (message_with number level time old.number text source) p k reply q l)
  pub waits : (s : Spec) → spec_at old.shared.loggers number ≡ Some s → WaitsSo how s reply
  pub within : (s : Spec) → spec_at old.shared.loggers number ≡ Some s → IsUnread s reply ⊎ IsWithin old.limit text source
  pub same : IsSame old new

-- when a message with this text and this source is refused so
abbrev pub IsReason : ℕ → List ℕ → Option SourceRef → LogError → Type 0
IsReason limit text source log.NoLogger = ⊥
IsReason limit text source log.NoTime = Unit {0}
IsReason limit text source log.TextTooLong = limit < length text
IsReason limit text source log.FieldTooLong = IsTooLongField limit text source
IsReason limit text source log.OutOfMemory = IsWithin limit text source

-- want of memory comes only where the logger has a backtrace
abbrev pub WantsForBacktrace : ℕ → ProducerView → LogError → Type 0
WantsForBacktrace number old e = e ≡ log.OutOfMemory → (s : Spec) → spec_at old.shared.loggers number ≡ Some s → s.backtrace ≢ 0

-- The message with these fields was logged, or refused with nothing done.
abbrev pub SaysAt : ℤ → How → ℕ → Level → List ℕ → Option SourceRef → ProducerView → Result LogReply LogError → ProducerView → Type 0
SaysAt time how number level text source old (Ok reply) new = HasLogged time how number level text source old reply new
SaysAt time how number level text source old (Err e) new = (new ≡ old) × IsReason old.limit text source e × WantsForBacktrace number old e

-- the same with some time
abbrev pub Says : How → ℕ → Level → List ℕ → Option SourceRef → ProducerView → Result LogReply LogError → ProducerView → Type 0
Says how number level text source old (Ok reply) new = (time : ℤ) × HasLogged time how number level text source old reply new
Says how number level text source old (Err e) new = (new ≡ old) × IsReason old.limit text source e × WantsForBacktrace number old e

-- the policy by which such a call posts where the logger's is this
abbrev pub policy_of : How → Policy → Policy
policy_of Waiting p = p
policy_of AtOnce p = without_waiting p

-- The producer posted a flush of the logger of this number, which ended so.
pub record Flushes (how : How) (number : ℕ) (old : ProducerView) (outcome : Outcome (Unit {0})) (new : ProducerView) : Type 0 where
  pub post : (s : Spec) → spec_at old.shared.loggers number ≡ Some s
      → (p q : BlockPort) × IsPortOf old p × IsPortOf new q × PostsItem SwapDid (policy_of how s.policy) (Flush number) p q outcome
  pub same : IsSame old new
  pub backtrace_seats : new.backtrace_seats ≡ old.backtrace_seats

-- The producer emptied the backtrace of the logger of this number, and posted what it kept between two markers of this time, each post
-- with one outcome.
pub record HasDumped (time : ℤ) (number : ℕ) (old : ProducerView) (outcomes : List (Outcome (Unit {0}))) (new : ProducerView) : Type 0 where
  pub dumped : (s : Spec) → spec_at old.shared.loggers number ≡ Some s → Lent old new number (λ p k q l. (d : Room) × DumpsByTurn k d l
      × PostsEach SwapDid (without_waiting s.policy) (posted_of number time old.number d.messages) p outcomes q)
  pub same : IsSame old new

-- That was done, or nothing.
abbrev pub DumpsAt : ℤ → ℕ → ProducerView → Result (Vec (Outcome (Unit {0})) Global) LogError → ProducerView → Type 0
DumpsAt time number old (Ok outcomes) new = HasDumped time number old outcomes.items new
DumpsAt time number old (Err e) new = (new ≡ old) × (e ≡ log.OutOfMemory)

-- the same with some time
abbrev pub Dumps : ℕ → ProducerView → Result (Vec (Outcome (Unit {0})) Global) LogError → ProducerView → Type 0
Dumps number old (Ok outcomes) new = (time : ℤ) × HasDumped time number old outcomes.items new
Dumps number old (Err e) new = (new ≡ old) × ((e ≡ log.NoTime) ⊎ (e ≡ log.OutOfMemory))
