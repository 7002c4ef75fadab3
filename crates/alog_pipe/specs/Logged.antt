-- What becomes of pieces of lines that are logged, and what says that some are missing.
use Rattle.std.specs.Prelude.{◌≡◌, ◌≢◌, ◌⊎◌, ◌+◌, ◌-◌, ◌^◌, ◌%◌, ◌≤◌, ◌<◌, ℕ, ℤ, List, length, None, Some, min}
use Rattle.alog_msg.specs.declared.level.Level.{Level}
use Rattle.alog_msg.specs.declared.level.Level.TheVariants.{Warning}
use Rattle.alog_msg.specs.declared.limits.TheConstants.{TEXT_LIMIT_MIN}
use Rattle.alog_pipe.specs.declared.piece_log.Fate.{Fate}
use Rattle.alog_pipe.specs.declared.piece_log.Fate.TheVariants as fate
use Rattle.alog_pipe.specs.declared.piece_log.PieceLog.{PieceLog}
use Rattle.alog_pipe.specs.declared.piece_log.Told.{Told}
use Rattle.alog_pipe.specs.declared.piece_log.Told.TheVariants as told
use Rattle.alog_policy.specs.SwapPort.{SwapDid}
use Rattle.alog_policy.specs.declared.policy.Outcome.TheVariants.{Posted, Discarded}
use Rattle.alog_policy.specs.declared.policy.Policy.TheVariants.{Block}
use Rattle.alog_pool.specs.Gaps.{gap_text}
use Rattle.alog_pool.specs.Producer.{ProducerView, IsSame, Lent}
use Rattle.alog_registry.specs.Given.{message_with}
use Rattle.alog_registry.specs.LaneKeeper.{KeepsByTurn, NeverPasses}
use Rattle.alog_registry.specs.Listed.{spec_at}
use Rattle.alog_registry.specs.Logging.{IsLoggedOrSpent, Logs}
use Rattle.alog_registry.specs.declared.logger.Spec.{Spec}
use Rattle.alog_registry.specs.declared.logging.LogReply.{LogReply}
use Rattle.alog_registry.specs.declared.logging.LogReply.TheVariants as reply

-- The producer logged this text to the logger of this number, at this level and time, and was answered so. It stays the same producer, of the
-- same loggers.
pub record LogsText (logger : ℕ) (level : Level) (time : ℤ) (text : List ℕ) (answer : LogReply) (old new : ProducerView) : Type 0 where
  pub spec : Spec
  pub found : spec_at old.shared.loggers logger ≡ Some spec
  pub log : Lent old new logger (λ p k q l. Logs SwapDid KeepsByTurn NeverPasses spec.policy spec
      (message_with logger level time old.number text None) p k answer q l)
  pub waits : spec.policy ≡ Block → IsLoggedOrSpent answer
  pub same : IsSame old new

-- what became of a text that was answered so
abbrev pub fate_of : LogReply → Fate
fate_of (reply.Filtered level kept) = fate.Below
fate_of (reply.Logged (Posted ticket overran) kept) = fate.Posted
fate_of (reply.Logged (Discarded value why overran) kept) = fate.Missing

-- a text was logged, and by its answer this became of it
abbrev pub Brings : ℕ → Level → ℤ → List ℕ → Fate → ProducerView → ProducerView → Type 0
Brings logger level time text fate old new =
    (answer : LogReply) × LogsText logger level time text answer old new × (fate_of answer ≡ fate)

-- the logger keeps copies for a backtrace
abbrev pub KeepsCopies : ℕ → ProducerView → Type 0
KeepsCopies logger p = (spec : Spec) × (spec_at p.shared.loggers logger ≡ Some spec) × (spec.backtrace ≢ 0)

-- nothing was logged, since there was no memory for such a copy
abbrev pub LacksMemory : ℕ → ProducerView → ProducerView → Type 0
LacksMemory logger old new = (new ≡ old) × KeepsCopies logger old

-- with its producer as it is now; where besides all is said that is missing; where one more is missing; where one more is below the level
abbrev pub by : ProducerView → PieceLog → PieceLog
by p log = record log { producer = p }

abbrev pub told_by : ProducerView → PieceLog → PieceLog
told_by p log = record log { producer = p; hole = 0 }

abbrev pub missed_by : ProducerView → PieceLog → PieceLog
missed_by p log = record log { producer = p; hole = min (log.hole + 1) (2 ^ 64 - 1); missing = (log.missing + 1) % 2 ^ 64 }

abbrev pub below_by : ProducerView → PieceLog → PieceLog
below_by p log = record log { producer = p; below = (log.below + 1) % 2 ^ 64 }

-- the logger is one of the producer's, which takes any line that says how many are missing
abbrev pub CanSay : PieceLog → Type 0
CanSay log = (log.logger < length log.producer.shared.loggers) × (TEXT_LIMIT_MIN ≤ log.producer.limit)

-- and which takes texts of so many bytes
abbrev pub IsReady : ℕ → PieceLog → Type 0
IsReady limit log = CanSay log × (limit ≤ log.producer.limit)

-- a piece was logged: it was posted; it is below the level that the logger had; it is missing
abbrev pub PostsPiece : ℤ → List ℕ → PieceLog → ProducerView → Type 0
PostsPiece time text log p = Brings log.logger log.level time text fate.Posted log.producer p

abbrev pub HidesPiece : ℤ → List ℕ → PieceLog → ProducerView → Type 0
HidesPiece time text log p = Brings log.logger log.level time text fate.Below log.producer p

abbrev pub LosesPiece : ℤ → List ℕ → PieceLog → ProducerView → Type 0
LosesPiece time text log p = Brings log.logger log.level time text fate.Missing log.producer p ⊎ LacksMemory log.logger log.producer p

-- the line that says how many are missing was logged, and it is kept, since it was posted or is below the level; there was no room for it
abbrev pub TellsHole : ℤ → PieceLog → ProducerView → Type 0
TellsHole time log p =
    Brings log.logger Warning time (gap_text log.hole) fate.Posted log.producer p
    ⊎ Brings log.logger Warning time (gap_text log.hole) fate.Below log.producer p

abbrev pub HasNoRoom : ℤ → PieceLog → ProducerView → Type 0
HasNoRoom time log p = Brings log.logger Warning time (gap_text log.hole) fate.Missing log.producer p

-- what was done for that line
abbrev pub Tells : ℤ → Told → PieceLog → PieceLog → Type 0
Tells time told.All old new =
    ((old.hole ≡ 0) × (new ≡ old)) ⊎ ((0 < old.hole) × TellsHole time old new.producer × (new ≡ told_by new.producer old))
Tells time told.NoRoom old new = (0 < old.hole) × HasNoRoom time old new.producer × (new ≡ by new.producer old)
Tells time told.NoMemory old new = (0 < old.hole) × KeepsCopies old.logger old.producer × (new ≡ old)

-- what was done for a piece where all is said that is missing before it
abbrev pub LogsFound : ℤ → List ℕ → Fate → PieceLog → PieceLog → Type 0
LogsFound time text fate.Posted old new = PostsPiece time text old new.producer × (new ≡ by new.producer old)
LogsFound time text fate.Below old new = HidesPiece time text old new.producer × (new ≡ by new.producer old)
LogsFound time text fate.Missing old new = LosesPiece time text old new.producer × (new ≡ by new.producer old)

-- A piece was logged. Where some before it are missing, the line that says how many goes before it. The piece was posted; or it is below
-- the level, and is counted as one that is; or it is missing, and is counted as one that is. It is missing, and nothing of it was logged,
-- where that line is not kept.
abbrev pub LogsPieceAt : ℤ → List ℕ → PieceLog → PieceLog → PieceLog → Type 0
LogsPieceAt time text old mid new =
    (Tells time told.All old mid
    × ((PostsPiece time text mid new.producer × (new ≡ by new.producer mid))
    ⊎ (HidesPiece time text mid new.producer × (new ≡ below_by new.producer mid))
    ⊎ (LosesPiece time text mid new.producer × (new ≡ missed_by new.producer mid))))
    ⊎ ((Tells time told.NoRoom old mid ⊎ Tells time told.NoMemory old mid) × (new ≡ missed_by mid.producer mid))

pub record LogsPiece (time : ℤ) (text : List ℕ) (old new : PieceLog) : Type 0 where
  pub mid : PieceLog
  pub logged : LogsPieceAt time text old mid new
  pub same : IsSame old.producer new.producer
