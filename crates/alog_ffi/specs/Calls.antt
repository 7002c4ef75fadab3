-- What C calls, on handles.
use Rattle.std.specs.Prelude.{◌≡◌, ◌≢◌, ◌⊎◌, ◌<◌, ◌≤◌, ℕ, ℤ, true, false, List, length, Some, None, Result, Ok, Err, Vec}
use Rattle.std.specs.declared.alloc.Global.{Global}
use Rattle.std.specs.Str.{IsUtf8}
use Rattle.alog_ffi.specs.Answers.{answer_by, answer_of_log, answer_of_pause, answer_of_post}
use Rattle.alog_ffi.specs.Held.{loggers_of}
use Rattle.alog_ffi.specs.Reports.{IsReportOf}
use Rattle.alog_ffi.specs.Said.{IsLevelOf}
use Rattle.alog_ffi.specs.Saying.{DumpsSo, FlushesSo, LogsSo}
use Rattle.alog_ffi.specs.Stores.{failures_of}
use Rattle.alog_ffi.specs.declared.answer.Answer.{Answer}
use Rattle.alog_ffi.specs.declared.answer.Answer.TheVariants as answer
use Rattle.alog_ffi.specs.declared.part.Part.{Part}
use Rattle.alog_ffi.specs.declared.part.Part.TheVariants.{Nothing, Pool, Producer, Worker}
use Rattle.alog_ffi.specs.declared.report.AlogReport.{AlogReport}
use Rattle.alog_ffi.specs.declared.said.Said.{Said}
use Rattle.alog_hosted.specs.Faults.{faults_of}
use Rattle.alog_hosted.specs.declared.once.Once.{Once}
use Rattle.alog_hosted.specs.declared.once.Once.TheVariants.{Logged}
use Rattle.alog_hosted.specs.declared.worker.Work.{Work}
use Rattle.alog_msg.specs.declared.level.Level.{Level}
use Rattle.alog_outbox.specs.Views.{OutboxView, files_of}
use Rattle.alog_owned.specs.Owned.{EndsSo, HiresBy, MakesBy, OwnedPoolView, OwnedProducerView, OwnedWorkerView, WorksBy}
use Rattle.alog_policy.specs.declared.policy.Outcome.{Outcome}
use Rattle.alog_policy.specs.declared.policy.Outcome.TheVariants as outcome
use Rattle.alog_pool.specs.declared.report.Report.{Report}
use Rattle.alog_registry.specs.Listed.{name_at}
use Rattle.alog_registry.specs.Logging.{IsOn}
use Rattle.alog_registry.specs.declared.logger.Logger.{Logger}
use Rattle.alog_registry.specs.declared.logging.LogReply.TheVariants as reply

-- A call on what a handle held, by what kind it is to hold, with what it answers and what the handle holds then. Where it held nothing, or another
-- kind, that is the answer, the handle holds what it held, and nothing is told beside.
abbrev pub OnPool : Part → (OwnedPoolView OutboxView → Answer → OwnedPoolView OutboxView → Type 0) → Answer → Part → Type 0
OnPool (Pool p) f a new = (q : OwnedPoolView OutboxView) × (new ≡ Pool q) × f p a q
OnPool Nothing f a new = (new ≡ Nothing) × (a ≡ answer.NoHandle)
OnPool old f a new = (new ≡ old) × (a ≡ answer.WrongHandle)

abbrev pub OnProducer : Part → Type 0 → (OwnedProducerView OutboxView → Answer → OwnedProducerView OutboxView → Type 0) → Answer → Part → Type 0
OnProducer (Producer p) untold f a new = (q : OwnedProducerView OutboxView) × (new ≡ Producer q) × f p a q
OnProducer Nothing untold f a new = (new ≡ Nothing) × (a ≡ answer.NoHandle) × untold
OnProducer old untold f a new = (new ≡ old) × (a ≡ answer.WrongHandle) × untold

abbrev pub OnWorker : Part → Type 0 → (OwnedWorkerView OutboxView → Answer → OwnedWorkerView OutboxView → Type 0) → Answer → Part → Type 0
OnWorker (Worker w) untold f a new = (v : OwnedWorkerView OutboxView) × (new ≡ Worker v) × f w a v
OnWorker Nothing untold f a new = (new ≡ Nothing) × (a ≡ answer.NoHandle) × untold
OnWorker old untold f a new = (new ≡ old) × (a ≡ answer.WrongHandle) × untold

-- what is told of what was posted; else what was there stays
abbrev pub ticket_by : Outcome (Unit {0}) → ℕ → ℕ
ticket_by (outcome.Posted ticket overran) was = ticket
ticket_by (outcome.Discarded value why overran) was = was

abbrev pub ticket_of : Result Once Answer → ℕ → ℕ
ticket_of (Ok (Logged (reply.Logged outcome kept))) was = ticket_by outcome was
ticket_of r was = was

abbrev pub ticket_of_flush : Result (Outcome (Unit {0})) Answer → ℕ → ℕ
ticket_of_flush (Ok outcome) was = ticket_by outcome was
ticket_of_flush (Err a) was = was

-- how many posts a dump made
abbrev pub posts_in : Result (Vec (Outcome (Unit {0})) Global) Answer → ℕ
posts_in (Ok v) = length v.items
posts_in (Err a) = 0

module _ {S : Type 0} where
  -- a log, a flush, a dump and a worker's call as they are answered, with what is told beside
  abbrev pub AnswersLog : Said → ℕ → ℕ → OwnedProducerView S → Answer → OwnedProducerView S → Type 0
  AnswersLog said was told old a new = (r : Result Once Answer) × LogsSo old said r new × (a ≡ answer_by answer_of_log r) × (told ≡ ticket_of r was)

  abbrev pub AnswersFlush : ℕ → ℕ → ℕ → OwnedProducerView S → Answer → OwnedProducerView S → Type 0
  AnswersFlush number was told old a new =
      (r : Result (Outcome (Unit {0})) Answer) × FlushesSo old number r new × (a ≡ answer_by answer_of_post r) × (told ≡ ticket_of_flush r was)

  abbrev pub AnswersDump : ℕ → ℤ → ℕ → OwnedProducerView S → Answer → OwnedProducerView S → Type 0
  AnswersDump number time posts old a new = (r : Result (Vec (Outcome (Unit {0})) Global) Answer) × DumpsSo old number time r new
      × (a ≡ answer_by (λ (v : Vec (Outcome (Unit {0})) Global). answer.Done) r) × (posts ≡ posts_in r)

  abbrev pub AnswersWork : ℕ → ℕ → OwnedWorkerView S → Answer → OwnedWorkerView S → Type 0
  AnswersWork most items old a new = (w : Work) × WorksBy most old w new × (items ≡ w.items) × (a ≡ answer_of_pause w.pause)

  -- A worker's faults so far are told, and it stays as it was.
  abbrev pub AnswersFaults : ℕ → OwnedWorkerView S → Answer → OwnedWorkerView S → Type 0
  AnswersFaults told old a new = (new ≡ old) × (told ≡ faults_of old.worker) × (a ≡ answer.Done)

-- A producer of the pool was made and is held, or there were too many already, or no memory, and then nothing changed.
abbrev pub AnswersProducer : Part → OwnedPoolView OutboxView → Answer → OwnedPoolView OutboxView → Type 0
AnswersProducer made old answer.Done new = (old.host.made < old.most) × (p : OwnedProducerView OutboxView) × (made ≡ Producer p) × MakesBy old new p
AnswersProducer made old answer.TooMany new = (made ≡ Nothing) × (new ≡ old) × (old.most ≤ old.host.made)
AnswersProducer made old answer.NoMemory new = (made ≡ Nothing) × (new ≡ old)
AnswersProducer made old a new = ⊥

abbrev pub AnswersWorker : Part → OwnedPoolView OutboxView → Answer → OwnedPoolView OutboxView → Type 0
AnswersWorker made old answer.Done new = (old.host.hired < old.host.workers) × (w : OwnedWorkerView OutboxView) × (made ≡ Worker w) × HiresBy old new w
AnswersWorker made old answer.TooMany new = (made ≡ Nothing) × (new ≡ old) × (old.host.workers ≤ old.host.hired)
AnswersWorker made old answer.NoMemory new = (made ≡ Nothing) × (new ≡ old)
AnswersWorker made old a new = ⊥

-- A producer, or a worker, is put into a handle that holds nothing; into another one nothing is put, and nothing is made.
abbrev pub MakesProducer : Part → Part → Part → Part → Answer → Type 0
MakesProducer Nothing made pool left a = OnPool pool (AnswersProducer made) a left × (a ≢ answer.Done → made ≡ Nothing)
MakesProducer used made pool left a = (a ≡ answer.InUse) × (left ≡ pool) × (made ≡ used)

abbrev pub MakesWorker : Part → Part → Part → Part → Answer → Type 0
MakesWorker Nothing made pool left a = OnPool pool (AnswersWorker made) a left × (a ≢ answer.Done → made ≡ Nothing)
MakesWorker used made pool left a = (a ≡ answer.InUse) × (left ≡ pool) × (made ≡ used)

-- A producer or a worker came back, and its handle is empty; or it did not, which is the answer, and the handle holds what it held.
abbrev pub AnswersGive : Part → Answer → Part → Type 0
AnswersGive (Producer p) a new = ((a ≡ answer.Done) × (new ≡ Nothing)) ⊎ ((a ≡ answer.BusyPart) × (new ≡ Producer p))
AnswersGive (Worker w) a new = ((a ≡ answer.Done) × (new ≡ Nothing)) ⊎ ((a ≡ answer.BusyPart) × (new ≡ Worker w))
AnswersGive Nothing a new = (a ≡ answer.NoHandle) × (new ≡ Nothing)
AnswersGive old a new = (a ≡ answer.WrongHandle) × (new ≡ old)

-- this is why a part has no loggers
abbrev pub IsWithout : Part → Answer → Type 0
IsWithout at answer.NoHandle = at ≡ Nothing
IsWithout at answer.WrongHandle = (at ≢ Nothing) × (loggers_of at ≡ None)
IsWithout at a = ⊥

-- A logger of this name was found, or why none was, the first reason; else what was there stays.
abbrev pub AnswersFind : Part → List ℕ → ℕ → ℕ → Answer → Type 0
AnswersFind at name was told answer.Done = (ls : List Logger) × (loggers_of at ≡ Some ls) × (name_at ls told ≡ Some name)
AnswersFind at name was told answer.NoLogger =
    (told ≡ was) × IsUtf8 name × ((ls : List Logger) × (loggers_of at ≡ Some ls) × ((n : ℕ) → name_at ls n ≢ Some name))
AnswersFind at name was told answer.NotUtf8 = (told ≡ was) × ¬ IsUtf8 name
AnswersFind at name was told a = (told ≡ was) × IsUtf8 name × IsWithout at a

-- the level of a logger was set, or why none was
abbrev pub AnswersSetLevel : Part → ℕ → ℕ → Answer → Type 0
AnswersSetLevel at number level answer.Done = (level ≤ 6) × ((ls : List Logger) × (loggers_of at ≡ Some ls) × (number < length ls))
AnswersSetLevel at number level answer.NoLogger = (level ≤ 6) × ((ls : List Logger) × (loggers_of at ≡ Some ls) × (length ls ≤ number))
AnswersSetLevel at number level answer.NoLevel = 6 < level
AnswersSetLevel at number level a = (level ≤ 6) × IsWithout at a

-- whether a logger of these reads a message of this level
abbrev pub IsOnAmong : List Logger → ℕ → Level → Answer → Type 0
IsOnAmong loggers number level answer.Done = IsOn loggers number level true
IsOnAmong loggers number level answer.Filtered = (number < length loggers) × IsOn loggers number level false
IsOnAmong loggers number level answer.NoLogger = length loggers ≤ number
IsOnAmong loggers number level a = ⊥

-- the same by the numbers that C has, or why it is not told, the first reason
abbrev pub AnswersIsOn : Part → ℕ → ℕ → Answer → Type 0
AnswersIsOn at number level answer.NoLevel = 6 < level
AnswersIsOn at number level answer.NoHandle = (level ≤ 6) × IsWithout at answer.NoHandle
AnswersIsOn at number level answer.WrongHandle = (level ≤ 6) × IsWithout at answer.WrongHandle
AnswersIsOn at number level a = (l : Level) × IsLevelOf level (Some l) × ((ls : List Logger) × (loggers_of at ≡ Some ls) × IsOnAmong ls number l a)

-- A pool ended, which leaves its handle empty, and this is told of it; or it did not, which is the answer, and all stays.
abbrev pub AnswersEnd : Part → AlogReport → AlogReport → Answer → Part → Type 0
AnswersEnd (Pool p) was told answer.Done new = (new ≡ Nothing) × (r : Report OutboxView) × EndsSo true files_of failures_of p.host r × IsReportOf r told
AnswersEnd (Pool p) was told answer.PartsOut new = (new ≡ Pool p) × (told ≡ was)
AnswersEnd (Pool p) was told a new = ⊥
AnswersEnd Nothing was told a new = (a ≡ answer.NoHandle) × (new ≡ Nothing) × (told ≡ was)
AnswersEnd old was told a new = (a ≡ answer.WrongHandle) × (new ≡ old) × (told ≡ was)
