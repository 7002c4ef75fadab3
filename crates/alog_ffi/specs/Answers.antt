-- The numbers of answers, and which answer tells what.
use Rattle.std.specs.Prelude.{ℕ, Result, Ok, Err}
use Rattle.alog_ffi.specs.declared.answer.Answer.{Answer}
use Rattle.alog_ffi.specs.declared.answer.Answer.TheVariants as answer
use Rattle.alog_hosted.specs.declared.once.Once.{Once}
use Rattle.alog_hosted.specs.declared.once.Once.TheVariants.{Logged, WouldBlock}
use Rattle.alog_hosted.specs.declared.worker.Pause.{Pause}
use Rattle.alog_hosted.specs.declared.worker.Pause.TheVariants as pause
use Rattle.alog_msg.specs.declared.message.MessageError.{MessageError}
use Rattle.alog_msg.specs.declared.message.MessageError.TheVariants as message
use Rattle.alog_policy.specs.declared.policy.Outcome.{Outcome}
use Rattle.alog_policy.specs.declared.policy.Outcome.TheVariants as outcome
use Rattle.alog_policy.specs.declared.policy.Why.{Why}
use Rattle.alog_policy.specs.declared.policy.Why.TheVariants as why
use Rattle.alog_registry.specs.declared.logging.LogReply.TheVariants as reply

-- the number that C sees
abbrev pub number_of : Answer → ℕ
number_of answer.Done = 0
number_of answer.Filtered = 1
number_of answer.WouldBlock = 2
number_of answer.Full = 3
number_of answer.Stalled = 4
number_of answer.Busy = 5
number_of answer.Spent = 6
number_of answer.Idle = 7
number_of answer.Soon = 8
number_of answer.Held = 9
number_of answer.Ended = 10
number_of answer.NoHandle = 16
number_of answer.WrongHandle = 17
number_of answer.InUse = 18
number_of answer.NoMemory = 19
number_of answer.NotUtf8 = 20
number_of answer.NoLogger = 21
number_of answer.NoLevel = 22
number_of answer.TextTooLong = 23
number_of answer.SourceTooLong = 24
number_of answer.TooMany = 25
number_of answer.PartsOut = 26
number_of answer.BadConfig = 27
number_of answer.NoStore = 28
number_of answer.TooShort = 29
number_of answer.BusyPart = 30

-- why a message was discarded
abbrev pub answer_of_why : Why → Answer
answer_of_why why.Full = answer.Full
answer_of_why why.Stalled = answer.Stalled
answer_of_why why.Busy = answer.Busy
answer_of_why why.Spent = answer.Spent

-- how a post ended
abbrev pub answer_of_post : Outcome (Unit {0}) → Answer
answer_of_post (outcome.Posted ticket overran) = answer.Done
answer_of_post (outcome.Discarded value why overran) = answer_of_why why

-- what became of a log
abbrev pub answer_of_log : Once → Answer
answer_of_log (Logged (reply.Filtered level kept)) = answer.Filtered
answer_of_log (Logged (reply.Logged outcome kept)) = answer_of_post outcome
answer_of_log WouldBlock = answer.WouldBlock

-- why a message was refused
abbrev pub answer_of_refusal : MessageError → Answer
answer_of_refusal message.TextTooLong = answer.TextTooLong
answer_of_refusal message.FieldTooLong = answer.SourceTooLong
answer_of_refusal message.OutOfMemory = answer.NoMemory

-- why a worker stopped
abbrev pub answer_of_pause : Pause → Answer
answer_of_pause pause.Done = answer.Done
answer_of_pause pause.Idle = answer.Idle
answer_of_pause pause.Soon = answer.Soon
answer_of_pause pause.Held = answer.Held

-- what was done, or the refusal
abbrev pub answer_by : {X : Type 0} → (X → Answer) → Result X Answer → Answer
answer_by f (Ok x) = f x
answer_by f (Err a) = a
