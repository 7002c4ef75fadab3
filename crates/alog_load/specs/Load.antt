-- What a load is: what is asked for, what a configuration gives, what each producer logs, and what is answered.
use Rattle.std.specs.Prelude.{◌≡◌, ◌<◌, ◌⊎◌, ◌*◌, ◌%◌, ℕ, zero, suc, pos, Bool, List, Option, ◌∷◌, ◌++◌, length, Some, None, true}
use Rattle.std.specs.Fmt.{decimal}
use Rattle.std.specs.declared.io.Error.{Error}
use Rattle.alog_config.specs.Built.{IsUnopened}
use Rattle.alog_config.specs.declared.building.BuildError.{BuildError}
use Rattle.alog_config.specs.declared.building.BuildError.TheVariants as built
use Rattle.alog_config.specs.declared.config.Config.{Config}
use Rattle.alog_config.specs.declared.config.SinkConfig.{SinkConfig}
use Rattle.alog_load.specs.declared.TheConstants.{LOAD_PRODUCERS_MAX, LOAD_MESSAGES_MAX}
use Rattle.alog_load.specs.declared.load_seat.LoadSeat.{LoadSeat}
use Rattle.alog_load.specs.declared.load_task.LoadTask.{LoadTask}
use Rattle.alog_load.specs.declared.error.LoadError.{LoadError}
use Rattle.alog_load.specs.declared.error.LoadError.TheVariants as refused
use Rattle.alog_msg.specs.declared.level.Level.TheVariants.{Info}
use Rattle.alog_policy.specs.SwapPort.{SwapDid}
use Rattle.alog_pool.specs.Places.{Each2}
use Rattle.alog_pool.specs.Pool.{PoolView, Starts}
use Rattle.alog_pool.specs.Producer.{ProducerView, IsSame, Lent}
use Rattle.alog_pool.specs.Report.{Ends}
use Rattle.alog_pool.specs.declared.report.Report.{Report}
use Rattle.alog_pool.specs.declared.setup.Setup.{Setup}
use Rattle.alog_registry.specs.Given.{message_with}
use Rattle.alog_registry.specs.LaneKeeper.{KeepsByTurn, NeverPasses}
use Rattle.alog_registry.specs.Listed.{spec_at}
use Rattle.alog_registry.specs.Logging.{Logs}
use Rattle.alog_registry.specs.declared.logger.Spec.{Spec}
use Rattle.alog_registry.specs.declared.logging.LogReply.{LogReply}
use Rattle.alog_server.specs.Making.{MakesAll}
use Rattle.alog_server.specs.Setting.{IsSetupOf}
use Rattle.alog_sink.specs.Files.{Files}

-- these numbers of producers and of messages are out of bounds
abbrev pub AreBad : ℕ → ℕ → Type 0
AreBad producers messages = (producers < 1) ⊎ (LOAD_PRODUCERS_MAX < producers) ⊎ (LOAD_MESSAGES_MAX < messages)

-- the same reason
abbrev pub IsOfBuild : BuildError → LoadError → Type 0
IsOfBuild built.OutOfMemory e = e ≡ refused.OutOfMemory
IsOfBuild (built.Store sink reason) e = e ≡ refused.Store sink reason

-- why there was no load: a store's fault is told of the sink that was to have that store, which rotates its file by size
abbrev pub IsRefusalOf : {S : Type 0} → (S → ℕ) → (S → Option Error) → List SinkConfig → List S → LoadError → Type 0
IsRefusalOf failures why sinks stores refused.BadValue = Unit {0}
IsRefusalOf failures why sinks stores (refused.Store sink reason) = IsUnopened failures why sinks stores sink reason
IsRefusalOf failures why sinks stores refused.OutOfMemory = Unit {0}

-- What the producer of this number is sent off for: the producers go round among so many loggers. Where there is none, nothing is
-- logged.
abbrev pub load_task_of : ℕ → ℕ → ℕ → LoadTask
load_task_of number zero messages = record { logger = 0; messages = 0 }
load_task_of number (suc n) messages = record { logger = number % suc n; messages = messages }

-- the text of message i of producer p
abbrev pub text_of : ℕ → ℕ → List ℕ
text_of p i = decimal p ++ 32 ∷ decimal i

-- The producer logged its message i, at level info with time i.
pub record LogsMessage (logger i : ℕ) (old new : ProducerView) : Type 0 where
  pub spec : Spec
  pub found : spec_at old.shared.loggers logger ≡ Some spec
  pub reply : LogReply
  pub log : Lent old new logger (λ p k q l. Logs SwapDid KeepsByTurn NeverPasses spec.policy spec
      (message_with logger Info (pos i) old.number (text_of old.number i) None) p k reply q l)
  pub same : IsSame old new

-- The producer logged its first so many messages, in their order, and made no other calls.
abbrev pub HasLogged : ℕ → ℕ → ProducerView → ProducerView → Type 0
HasLogged logger zero old new = new ≡ old
HasLogged logger (suc n) old new = (mid : ProducerView) × HasLogged logger n old mid × LogsMessage logger n mid new

-- one that was made by a pool with so many loggers, and logged all that it was sent off for
abbrev pub HasServed : ℕ → ℕ → ProducerView → ProducerView → Type 0
HasServed loggers messages start end =
    HasLogged (load_task_of start.number loggers messages).logger (load_task_of start.number loggers messages).messages start end

-- Its thread did what it was to do: the producer is the same, and where it is done, it logged all messages that it was sent off for.
pub record Goes (loggers messages : ℕ) (old new : LoadSeat) : Type 0 where
  pub same : IsSame old.producer new.producer
  pub served : new.done ≡ true → HasServed loggers messages old.producer new.producer

module _ {S : Type 0} (tells : Bool) (files : S → Files) (failures : S → ℕ) where
  -- The report of a load: a pool was started with what the configuration gives, and told every ticket; it made as many producers
  -- as were asked for; each logged all its messages; and with these the pool was ended.
  pub record Loads (c : Config) (stores : List S) (producers messages : ℕ) (r : Report S) : Type 0 where
    pub setup : Setup S
    pub given : IsSetupOf tells files failures c stores (producers * messages) setup
    pub start : PoolView S
    pub starts : Starts setup start
    pub begun : List ProducerView
    pub many : length begun ≡ producers
    pub pool : PoolView S
    pub makes : MakesAll start begun pool
    pub ended : List ProducerView
    pub served : Each2 (HasServed (length c.loggers.items) messages) begun ended
    pub ends : Ends tells files failures pool ended r
