-- Parts by their names, while fans are made of them.
use Rattle.std.specs.Prelude.{◌≡◌, ◌≤◌, ℕ, Bool, List, [], ◌∷◌, length, map, take, slice_get, Some}
use Rattle.std.specs.List.{Any, remove}
use Rattle.alog_config.specs.Built.{ArePicked, IsLeafOf, IsPart}
use Rattle.alog_config.specs.Sinks.{IsMember}
use Rattle.alog_config.specs.Sound.{IsSoundUpkeep}
use Rattle.alog_config.specs.Values.{AreNames, IsPattern}
use Rattle.alog_config.specs.declared.TheConstants.{TABLES_MAX}
use Rattle.alog_config.specs.declared.config.Config.{Config}
use Rattle.alog_config.specs.declared.config.LoggerConfig.{LoggerConfig}
use Rattle.alog_config.specs.declared.config.SinkKind.{SinkKind}
use Rattle.alog_config.specs.declared.config.SinkKind.TheVariants as kinds
use Rattle.alog_config.specs.declared.parts.Part.{Part}
use Rattle.alog_msg.specs.declared.level.Level.{Level}
use Rattle.alog_msg.specs.declared.limits.TheConstants.{LOGGER_NAME_MAX}
use Rattle.alog_registry.specs.declared.TheConstants.{KEPT_MAX}
use Rattle.alog_sink.specs.Files.{Files}
use Rattle.alog_sink.specs.Names.{IsFileName}
use Rattle.alog_sink.specs.Opened.{IsFan, leaves_of}
use Rattle.alog_sink.specs.declared.sink.Sink.{Sink}
use Rattle.alog_sink.specs.declared.sink.Sink.TheVariants as built

-- a part has this name
abbrev pub IsPartName : {S : Type 0} → List (Part S) → List ℕ → Type 0
IsPartName {S} parts name = Any (λ (p : Part S). p.config.now.name ≡ name) parts

-- each of these names is that of a part
abbrev pub AreAllKnown : {S : Type 0} → List (Part S) → List (List ℕ) → Type 0
AreAllKnown parts names = ¬ Any (λ name. ¬ IsPartName parts name) names

-- one of these names is that of a fan
abbrev pub AnyBuiltFan : {S : Type 0} → List (Part S) → List (List ℕ) → Type 0
AnyBuiltFan {S} parts names = Any (λ name. Any (λ (p : Part S). (p.config.now.name ≡ name) × IsFan p.sink) parts) names

-- the sinks of these names leave the parts, one after the other
abbrev pub TakesOut : {S : Type 0} → List (Part S) → List (List ℕ) → List (Sink S) → List (Part S) → Type 0
TakesOut parts [] [] left = left ≡ parts
TakesOut {S} parts (name ∷ names) (sink ∷ sinks) left =
    (k : ℕ) × (p : Part S) × (slice_get parts k ≡ Some p) × (p.config.now.name ≡ name) × (p.sink ≡ sink)
    × TakesOut (remove parts k) names sinks left
TakesOut parts _ _ left = ⊥

-- a fan is made of the sinks of these names, which leave the parts
abbrev pub MakesFan : {S : Type 0} → List (Part S) → Level → List (List ℕ) → Sink S → List (Part S) → Type 0
MakesFan {S} parts level names fan left =
    (members : List (Sink S)) × TakesOut parts names members left
    × (fan ≡ built.Fan (record { level = level; members = leaves_of members }))

-- a logger may be added behind the earlier ones: its name is short and free, its sinks are known, and its backtrace is in bounds
pub record MayAdd {S : Type 0} (parts : List (Part S)) (earlier : List LoggerConfig) (l : LoggerConfig) : Type 0 where
  pub short : length l.name ≤ LOGGER_NAME_MAX
  pub free : ¬ Any (λ (x : LoggerConfig). x.name ≡ l.name) earlier
  pub known : AreAllKnown parts l.sinks
  pub few : l.backtrace ≤ KEPT_MAX

pub record MayLog {S : Type 0} (parts : List (Part S)) (loggers : List LoggerConfig) : Type 0 where
  pub few_parts : length parts ≤ TABLES_MAX
  pub few : length loggers ≤ TABLES_MAX
  pub each : (i : ℕ) (l : LoggerConfig) → slice_get loggers i ≡ Some l → MayAdd parts (take i loggers) l

-- a sink of this kind may be made: it keeps the rules, and has a store, or its members are parts
abbrev pub MayMake : {S : Type 0} → ℕ → SinkKind → List S → List (Part S) → Type 0
MayMake limit (kinds.Lines file pattern upkeep) stores parts =
    IsFileName file × IsPattern limit pattern × IsSoundUpkeep upkeep × (1 ≤ length stores)
MayMake limit (kinds.Fan of) stores parts = AreAllKnown parts of × AreNames of × (¬ AnyBuiltFan parts of)

module _ {S : Type 0} (tells : Bool) (files : S → Files) (failures : S → ℕ) where
  -- The first so many sinks were built, and those are left that are no member of a fan among them.
  pub record AreBuilt (c : Config) (stores : List S) (i : ℕ) (left : List (Part S)) : Type 0 where
    pub parts : List (Part S)
    pub of : map (λ (p : Part S). p.config.now) parts ≡ take i c.sinks.items
    pub each : (n : ℕ) (p : Part S) → slice_get parts n ≡ Some p → IsPart tells files failures c stores parts n p
    pub picked : ArePicked (λ (p : Part S). ¬ IsMember (take i c.sinks.items) p.config.now.name) parts left

  -- What is made of a sink of this kind: one over the next store, or a fan of parts.
  abbrev pub Makes : Config → Level → SinkKind → List S → List (Part S) → Sink S → List S → List (Part S) → Type 0
  Makes c level (kinds.Lines file pattern upkeep) stores parts sink rest left =
      (store : S) × (stores ≡ store ∷ rest) × (left ≡ parts) × IsLeafOf tells files failures c level file pattern upkeep store sink
  Makes c level (kinds.Fan of) stores parts sink rest left = (rest ≡ stores) × MakesFan parts level of sink left
