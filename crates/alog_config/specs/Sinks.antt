-- The sinks of a configuration, by their names.
use Rattle.std.specs.Prelude.{◌≡◌, ℕ, List, Bool, true, false}
use Rattle.std.specs.List.{Any}
use Rattle.alog_config.specs.declared.config.SinkConfig.{SinkConfig}
use Rattle.alog_config.specs.declared.config.SinkKind.{SinkKind}
use Rattle.alog_config.specs.declared.config.SinkKind.TheVariants.{Lines, Fan}
use Rattle.alog_config.specs.declared.config.Upkeep.{Upkeep}
use Rattle.alog_config.specs.declared.config.Upkeep.TheVariants as upkeeps

abbrev pub IsFanKind : SinkKind → Type 0
IsFanKind (Lines file pattern upkeep) = ⊥
IsFanKind (Fan of) = Unit {0}

abbrev pub IsFan : SinkConfig → Type 0
IsFan sink = IsFanKind sink.kind

-- its lines go to this file
abbrev pub WritesTo : List ℕ → SinkKind → Type 0
WritesTo file (Lines own pattern upkeep) = own ≡ file
WritesTo file (Fan of) = ⊥

abbrev pub HasFile : List ℕ → SinkConfig → Type 0
HasFile file sink = WritesTo file sink.kind

-- it is a fan with this member
abbrev pub HandsTo : List ℕ → SinkKind → Type 0
HandsTo name (Lines file pattern upkeep) = ⊥
HandsTo name (Fan of) = Any (λ n. n ≡ name) of

abbrev pub HasMember : List ℕ → SinkConfig → Type 0
HasMember name sink = HandsTo name sink.kind

-- a sink, a fan, a member of a fan has this name; a sink has this file
abbrev pub IsSinkName : List SinkConfig → List ℕ → Type 0
IsSinkName sinks name = Any (λ (s : SinkConfig). s.name ≡ name) sinks

abbrev pub IsFanName : List SinkConfig → List ℕ → Type 0
IsFanName sinks name = Any (λ (s : SinkConfig). IsFan s × (s.name ≡ name)) sinks

abbrev pub IsMember : List SinkConfig → List ℕ → Type 0
IsMember sinks name = Any (HasMember name) sinks

abbrev pub IsFile : List SinkConfig → List ℕ → Type 0
IsFile sinks file = Any (HasFile file) sinks

-- of these names, one is that of no sink, of a fan, of a member of a fan
abbrev pub AnyUnknown : List SinkConfig → List (List ℕ) → Type 0
AnyUnknown sinks names = Any (λ name. ¬ IsSinkName sinks name) names

abbrev pub AnyFan : List SinkConfig → List (List ℕ) → Type 0
AnyFan sinks names = Any (IsFanName sinks) names

abbrev pub AnyMember : List SinkConfig → List (List ℕ) → Type 0
AnyMember sinks names = Any (IsMember sinks) names

-- whether a sink is no fan, and so needs a store
abbrev pub is_lines : SinkKind → Bool
is_lines (Lines file pattern upkeep) = true
is_lines (Fan of) = false

abbrev pub is_leaf : SinkConfig → Bool
is_leaf sink = is_lines sink.kind

-- its file is rotated by its size, for which its store is asked when it is opened
abbrev pub IsBySize : Upkeep → Type 0
IsBySize upkeeps.Never = ⊥
IsBySize (upkeeps.BySize max_size max_files) = Unit {0}
IsBySize (upkeeps.Daily hour minute max_files) = ⊥

abbrev pub RotatesKind : SinkKind → Type 0
RotatesKind (Lines file pattern upkeep) = IsBySize upkeep
RotatesKind (Fan of) = ⊥

abbrev pub Rotates : SinkConfig → Type 0
Rotates sink = RotatesKind sink.kind
