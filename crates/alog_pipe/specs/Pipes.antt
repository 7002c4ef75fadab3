-- A whole pipe.
use Rattle.std.specs.Prelude.{◌≡◌, ℕ, Bool, true, false, List, [], ◌∷◌, Option, None, Some, is_none}
use Rattle.alog_config.specs.declared.config.Config.{Config}
use Rattle.alog_msg.specs.declared.level.Level.{Level}
use Rattle.alog_pipe.specs.Piped.{PumpsOut}
use Rattle.alog_pipe.specs.declared.piece_log.PieceLog.{PieceLog}
use Rattle.alog_pipe.specs.declared.piping.Piped.{Piped}
use Rattle.alog_policy.specs.declared.policy.Policy.{Policy}
use Rattle.alog_policy.specs.declared.policy.Policy.TheVariants.{Block, OverrunOldest, DiscardNew}
use Rattle.alog_pool.specs.Pool.{PoolView, Makes, Starts}
use Rattle.alog_pool.specs.Producer.{ProducerView}
use Rattle.alog_pool.specs.Report.{Ends}
use Rattle.alog_pool.specs.declared.setup.Setup.{Setup}
use Rattle.alog_registry.specs.Listed.{spec_at}
use Rattle.alog_registry.specs.declared.logger.Spec.{Spec}
use Rattle.alog_server.specs.Setting.{IsSetupOf}
use Rattle.alog_sink.specs.Files.{Files}

-- whether the logger of this specification overruns the oldest
abbrev pub overruns : Policy → Bool
overruns Block = false
overruns OverrunOldest = true
overruns DiscardNew = false

abbrev pub overruns_of : Option Spec → Bool
overruns_of None = false
overruns_of (Some spec) = overruns spec.policy

-- a setup whose pool has one worker, and tells gaps where the logger of this number overruns the oldest
abbrev pub for_pipe : {S : Type 0} → ℕ → Setup S → Setup S
for_pipe logger setup = record setup { workers = 1; tells_gaps = overruns_of (spec_at setup.loggers logger) }

module _ {S : Type 0} (tells : Bool) (files : S → Files) (failures : S → ℕ) where
  -- The pool made one producer, which logged what the reader gave to the logger of this number at this level, and nothing else; with it
  -- the pool was ended.
  pub record PipesThrough (limit : ℕ) (start : PoolView S) (logger : ℕ) (level : Level) (before after : Option (List ℕ)) (p : Piped S) : Type 0 where
    pub begun : ProducerView
    pub pool : PoolView S
    pub makes : Makes start pool begun
    pub log : PieceLog
    pub pumps : PumpsOut limit before after (record { producer = begun; logger = logger; level = level; hole = 0; missing = 0; below = 0 }) log p.counts
        (is_none p.fault)
    pub missing : p.missing ≡ log.missing
    pub below : p.below ≡ log.below
    pub ends : Ends tells files failures pool (log.producer ∷ []) p.report

  -- The pool is of what the configuration gives, and its texts are as long as those of its configuration; but it has one worker, whatever
  -- the configuration says, and tells gaps where the logger overruns the oldest.
  pub record Pipes (c : Config) (stores : List S) (logger : ℕ) (level : Level) (before after : Option (List ℕ)) (p : Piped S) : Type 0 where
    pub setup : Setup S
    pub given : IsSetupOf tells files failures c stores 0 setup
    pub start : PoolView S
    pub starts : Starts (for_pipe logger setup) start
    pub through : PipesThrough c.text start logger level before after p
