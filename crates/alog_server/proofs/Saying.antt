-- What a client's call did, by what its producer's did.
use Rattle.std.proofs.Common.{◌≡◌, ◌≢◌, ◌⊎◌, ℕ, ℤ, List, Option, Some, Result, Ok, Err, refl, ap}
use Rattle.std.specs.Prelude.{IfOk, IfErr, IsErrOf, OnErr, Vec}
use Rattle.std.specs.declared.alloc.AllocError.{AllocError}
use Rattle.std.specs.declared.alloc.Global.{Global}
use Rattle.alog_msg.specs.declared.level.Level.{Level}
use Rattle.alog_msg.specs.declared.message.MessageError.{MessageError}
use Rattle.alog_msg.specs.declared.message.MessageError.TheVariants as message
use Rattle.alog_msg.specs.declared.source.SourceRef.{SourceRef}
use Rattle.alog_policy.specs.SwapPort.{SwapDid}
use Rattle.alog_policy.specs.Progress.{without_waiting}
use Rattle.alog_policy.specs.declared.policy.Outcome.{Outcome}
use Rattle.alog_policy.specs.declared.policy.Policy.TheVariants.{Block}
use Rattle.alog_pool.specs.Producer.{ProducerView, IsSame, Lent}
use Rattle.alog_registry.specs.Backtrace.{Room}
use Rattle.alog_registry.specs.Dumping.{PostsEach, posted_of}
use Rattle.alog_registry.specs.Given.{message_with, IsWithin}
use Rattle.alog_registry.specs.Given as given
use Rattle.alog_registry.specs.LaneKeeper.{DumpsByTurn}
use Rattle.alog_registry.specs.Listed.{spec_at}
use Rattle.alog_registry.specs.Logging.{IsLoggedOrSpent, IsUnread}
use Rattle.alog_registry.specs.declared.logger.Spec.{Spec}
use Rattle.alog_registry.specs.declared.logging.LogReply.{LogReply}
use Rattle.alog_server.specs.Reasons.{answer_of, outcomes_of, told}
use Rattle.alog_server.specs.Says.{How, Waiting, AtOnce, LogsSo, WaitsSo, IsReason, WantsForBacktrace, SaysAt, DumpsAt}

abbrev Answer : Type 0
Answer = Result LogReply MessageError

reason : (limit : ℕ) (text : List ℕ) (source : Option SourceRef) (e : MessageError) → given.IsReason limit text source e
    → IsReason limit text source (told e)
reason limit text source message.TextTooLong why = why
reason limit text source message.FieldTooLong why = why
reason limit text source message.OutOfMemory why = why

for_backtrace : (number : ℕ) (old : ProducerView) (e : MessageError)
    → ((s : Spec) → spec_at old.shared.loggers number ≡ Some s → e ≡ message.OutOfMemory → s.backtrace ≢ 0)
    → WantsForBacktrace number old (told e)
for_backtrace number old message.TextTooLong memory is = absurd (cc)
for_backtrace number old message.FieldTooLong memory is = absurd (cc)
for_backtrace number old message.OutOfMemory memory is = λ s at. memory s at refl

-- what a producer's log did with the message of these fields, by its clauses
pub record Did (time : ℤ) (how : How) (number : ℕ) (level : Level) (text : List ℕ) (source : Option SourceRef) (old new : ProducerView)
    (r : Answer) : Type 0 where
  pub logs : (s : Spec) → spec_at old.shared.loggers number ≡ Some s → IfOk r (λ reply. Lent old new number
      (λ p k q l. LogsSo how s (message_with number level time old.number text source) p k reply q l))
  pub waits : (s : Spec) → spec_at old.shared.loggers number ≡ Some s → IfOk r (λ reply. WaitsSo how s reply)
  pub within : (s : Spec) → spec_at old.shared.loggers number ≡ Some s → IfOk r (λ reply. IsUnread s reply ⊎ IsWithin old.limit text source)
  pub why : IfErr r (given.IsReason old.limit text source)
  pub memory : (s : Spec) → spec_at old.shared.loggers number ≡ Some s → IsErrOf r message.OutOfMemory → s.backtrace ≢ 0
  pub left : OnErr r (new ≡ old)
  pub same : IsSame old new

-- what a log answers under block, if it may wait, and if it may not
pub may_wait : (s : Spec) (r : Answer) → (s.policy ≡ Block → IfOk r IsLoggedOrSpent) → IfOk r (λ reply. WaitsSo Waiting s reply)
may_wait s (Ok reply) blocks = blocks
may_wait s (Err e) blocks = tt

pub at_once : (s : Spec) (r : Answer) → IfOk r (λ reply. WaitsSo AtOnce s reply)
at_once s (Ok reply) = tt
at_once s (Err e) = tt

pub said : {time : ℤ} {how : How} {number : ℕ} {level : Level} {text : List ℕ} {source : Option SourceRef} {old new : ProducerView}
    (r : Answer) → Did time how number level text source old new r → SaysAt time how number level text source old (answer_of r) new
said (Ok reply) did = record { logs = did.logs; waits = did.waits; within = did.within; same = did.same }
said {number} {text} {source} {old} (Err e) did =
    (did.left, reason old.limit text source e did.why, for_backtrace number old e (λ s at is. did.memory s at (ap Err is)))

pub dumped : (time : ℤ) (number : ℕ) (old new : ProducerView) (r : Result (Vec (Outcome (Unit {0})) Global) AllocError)
    → ((s : Spec) → spec_at old.shared.loggers number ≡ Some s → IfOk r (λ v. Lent old new number (λ p k q l. (d : Room) × DumpsByTurn k d l
    × PostsEach SwapDid (without_waiting s.policy) (posted_of number time old.number d.messages) p v.items q)))
    → OnErr r (new ≡ old) → IsSame old new → DumpsAt time number old (outcomes_of r) new
dumped time number old new (Ok v) posts left same = record { dumped = posts; same = same }
dumped time number old new (Err e) posts left same = (left, refl)
