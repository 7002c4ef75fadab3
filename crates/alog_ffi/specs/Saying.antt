-- What a producer logs of what was said.
use Rattle.std.specs.Prelude.{◌≡◌, ◌≢◌, ◌⊎◌, ◌<◌, ◌≤◌, ℕ, ℤ, false, List, length, slice_get, Some, Result, Ok, Err, Vec}
use Rattle.std.specs.declared.alloc.Global.{Global}
use Rattle.alog_ffi.specs.Answers.{answer_of_refusal}
use Rattle.alog_ffi.specs.Said.{IsFiltered, IsHeard, IsUnheard}
use Rattle.alog_ffi.specs.declared.answer.Answer.{Answer}
use Rattle.alog_ffi.specs.declared.answer.Answer.TheVariants as answer
use Rattle.alog_ffi.specs.declared.said.Heard.{Heard}
use Rattle.alog_ffi.specs.declared.said.Said.{Said}
use Rattle.alog_hosted.specs.Once.{IsBlockedOrSpent, IsLoggedUnread, LogsOnce}
use Rattle.alog_hosted.specs.declared.once.Once.{Once}
use Rattle.alog_hosted.specs.declared.once.Once.TheVariants.{Logged}
use Rattle.alog_lane.specs.declared.seat.TheConstants.{ALL_PARTS}
use Rattle.alog_msg.specs.declared.item.Item.TheVariants.{Flush}
use Rattle.alog_msg.specs.declared.level.Level.{Level}
use Rattle.alog_msg.specs.declared.message.MessageError.{MessageError}
use Rattle.alog_msg.specs.declared.message.MessageError.TheVariants as message
use Rattle.alog_owned.specs.Owned.{OwnedProducerView}
use Rattle.alog_policy.specs.Progress.{without_waiting}
use Rattle.alog_policy.specs.SwapPort.{SwapDid}
use Rattle.alog_policy.specs.declared.policy.Outcome.{Outcome}
use Rattle.alog_policy.specs.declared.policy.Policy.TheVariants as under
use Rattle.alog_pool.specs.BacktraceSeat.{BacktraceSeatView}
use Rattle.alog_pool.specs.Producer.{IsPortOf, IsSame, Lent}
use Rattle.alog_registry.specs.Backtrace.{Room}
use Rattle.alog_registry.specs.BlockPort.{BlockPort}
use Rattle.alog_registry.specs.Dumping.{PostsEach, posted_of}
use Rattle.alog_registry.specs.Given.{IsReason, IsWithin, message_with}
use Rattle.alog_registry.specs.ItemOutlet.{PostsItemNow}
use Rattle.alog_registry.specs.LaneKeeper.{DumpsByTurn}
use Rattle.alog_registry.specs.Listed.{spec_at}
use Rattle.alog_registry.specs.declared.logger.Spec.{Spec}
use Rattle.alog_registry.specs.declared.logging.LogReply.TheVariants as reply

module _ {S : Type 0} where
  -- it is the same producer of the same pool
  pub record IsSameProducer (old new : OwnedProducerView S) : Type 0 where
    pub hosted : new.hosted ≡ old.hosted
    pub producer : IsSame old.producer new.producer

  -- The log of what was heard was one that never waits.
  pub record HasLogged (old : OwnedProducerView S) (said : Said) (once : Once) (new : OwnedProducerView S) : Type 0 where
    pub heard : Heard
    pub is : IsHeard old.hosted.shared.loggers said heard
    pub same : IsSameProducer old new
    pub logs : (s : Spec) → spec_at old.hosted.shared.loggers heard.logger ≡ Some s
        → Lent old.producer new.producer heard.logger (λ p k q l. LogsOnce s
        (message_with heard.logger heard.level said.time old.producer.number heard.text.now heard.source) p k once q l)
    pub blocks : (s : Spec) → spec_at old.hosted.shared.loggers heard.logger ≡ Some s → s.policy ≡ under.Block → IsBlockedOrSpent once
    pub within : (s : Spec) → spec_at old.hosted.shared.loggers heard.logger ≡ Some s
        → IsLoggedUnread s once ⊎ IsWithin old.producer.limit heard.text.now heard.source

  -- It was filtered by some level of its logger, before it was looked at, and nothing was done.
  pub record WasFiltered (old : OwnedProducerView S) (said : Said) (once : Once) (new : OwnedProducerView S) : Type 0 where
    pub own : Level
    pub is : IsFiltered old.hosted.shared.loggers said own
    pub told : once ≡ Logged (reply.Filtered own false)
    pub same : new ≡ old

  -- It was heard and then refused for this reason, want of memory only by a logger with a backtrace.
  pub record WasRefused (old : OwnedProducerView S) (said : Said) (a : Answer) : Type 0 where
    pub heard : Heard
    pub is : IsHeard old.hosted.shared.loggers said heard
    pub error : MessageError
    pub told : a ≡ answer_of_refusal error
    pub reason : IsReason old.producer.limit heard.text.now heard.source error
    pub memory : (s : Spec) → spec_at old.hosted.shared.loggers heard.logger ≡ Some s → error ≡ message.OutOfMemory → s.backtrace ≢ 0

  -- It logged what was said, or nothing was done, and this is why.
  abbrev pub LogsSo : OwnedProducerView S → Said → Result Once Answer → OwnedProducerView S → Type 0
  LogsSo old said (Ok once) new = WasFiltered old said once new ⊎ HasLogged old said once new
  LogsSo old said (Err a) new = (new ≡ old) × (IsUnheard old.hosted.shared.loggers said a ⊎ WasRefused old said a)

  -- A flush was posted, by the same producer, which has the backtraces that it had.
  pub record HasFlushed (old : OwnedProducerView S) (number : ℕ) (outcome : Outcome (Unit {0})) (new : OwnedProducerView S) : Type 0 where
    pub same : IsSameProducer old new
    pub kept : new.producer.backtrace_seats ≡ old.producer.backtrace_seats
    pub posts : (s : Spec) → spec_at old.hosted.shared.loggers number ≡ Some s
        → (p q : BlockPort) × IsPortOf old.producer p × IsPortOf new.producer q × PostsItemNow SwapDid s.policy (Flush number) p q outcome

  -- It posted a flush of this logger, or there is no such logger, and nothing was done.
  abbrev pub FlushesSo : OwnedProducerView S → ℕ → Result (Outcome (Unit {0})) Answer → OwnedProducerView S → Type 0
  FlushesSo old number (Ok outcome) new = (number < length old.hosted.shared.loggers) × HasFlushed old number outcome new
  FlushesSo old number (Err a) new = (new ≡ old) × (a ≡ answer.NoLogger) × (length old.hosted.shared.loggers ≤ number)

  -- What a backtrace kept was posted between two markers, by the same producer.
  pub record HasDumped (old : OwnedProducerView S) (number : ℕ) (time : ℤ) (outcomes : List (Outcome (Unit {0}))) (new : OwnedProducerView S)
      : Type 0 where
    pub same : IsSameProducer old new
    pub dumps : (s : Spec) → spec_at old.hosted.shared.loggers number ≡ Some s
        → Lent old.producer new.producer number (λ p k q l. (d : Room) × DumpsByTurn k d l
        × PostsEach SwapDid (without_waiting s.policy) (posted_of number time old.producer.number d.messages) p outcomes q)

  -- Why nothing was dumped: there is no such logger, or there is, and another thread has its backtrace, which is said only where the producer's seat at it
  -- has not all parts, or there is no memory.
  abbrev pub IsUndumped : OwnedProducerView S → ℕ → Answer → Type 0
  IsUndumped old number answer.NoLogger = length old.hosted.shared.loggers ≤ number
  IsUndumped old number answer.Held = (number < length old.hosted.shared.loggers)
      × ((k : BacktraceSeatView) → slice_get old.producer.backtrace_seats number ≡ Some k → k.seat.known.parts ≢ ALL_PARTS)
  IsUndumped old number answer.NoMemory = number < length old.hosted.shared.loggers
  IsUndumped old number a = ⊥

  -- It dumped the backtrace of this logger, or nothing was done, and this is why.
  abbrev pub DumpsSo : OwnedProducerView S → ℕ → ℤ → Result (Vec (Outcome (Unit {0})) Global) Answer → OwnedProducerView S → Type 0
  DumpsSo old number time (Ok v) new = (number < length old.hosted.shared.loggers) × HasDumped old number time v.items new
  DumpsSo old number time (Err a) new = (new ≡ old) × IsUndumped old number a
