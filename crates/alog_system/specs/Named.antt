-- The system that a configuration names.
use Rattle.std.specs.Prelude.{◌≡◌, ℕ, Bool, List, length, count_by}
use Rattle.std.specs.List.{AllByRecursion}
use Rattle.alog_config.specs.Built.{Built}
use Rattle.alog_config.specs.Sinks.{is_leaf}
use Rattle.alog_config.specs.declared.config.Config.{Config}
use Rattle.alog_registry.specs.declared.logger.Logger.{Logger}
use Rattle.alog_sink.specs.Files.{Files, AreSame, no_files}
use Rattle.alog_sink.specs.declared.sink.Sink.{Sink}
use Rattle.alog_system.specs.System.{SystemView, fresh_system}

-- no store has a file
abbrev pub AreEmpty : {S : Type 0} → (S → Files) → List S → Type 0
AreEmpty {S} files stores = AllByRecursion (λ (s : S). AreSame no_files (files s)) stores

-- A new system of the loggers and the sinks that are built of a configuration, over stores without files, one for each sink that
-- needs one: its queue and the limit of its texts are the configuration's.
pub record IsSystemOf {S : Type 0} (tells : Bool) (files : S → Files) (failures : S → ℕ) (c : Config) (v : SystemView S) : Type 0 where
  pub stores : List S
  pub many : length stores ≡ count_by is_leaf c.sinks.items
  pub empty : AreEmpty files stores
  pub loggers : List Logger
  pub sinks : List (Sink S)
  pub built : Built tells files failures c stores loggers sinks
  pub is : v ≡ fresh_system c.queue c.text loggers sinks
