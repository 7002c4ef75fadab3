-- Which rules a table breaks, and which of them is first.
use Rattle.std.specs.Prelude.{◌≡◌, ◌⊎◌, Bool, true, ℕ, List, [], ◌∷◌, Option, Some, None}
use Rattle.std.specs.List.{Any}
use Rattle.alog_config.specs.declared.broken.Broken.{Broken}
use Rattle.alog_config.specs.declared.config.LoggerConfig.{LoggerConfig}
use Rattle.alog_config.specs.declared.config.SinkConfig.{SinkConfig}
use Rattle.alog_config.specs.declared.fault.Rule.{Rule}
use Rattle.alog_config.specs.declared.fault.Rule.TheVariants.{UnknownKey, BadValue, Missing, NameTaken, NoSuchSink}
use Rattle.alog_config.specs.declared.field.Field.{Field}
use Rattle.alog_config.specs.declared.field.Field.TheVariants.{Absent, Bad, Given}
use Rattle.alog_config.specs.declared.keys.Kind.{Kind}
use Rattle.alog_config.specs.declared.keys.Kind.TheVariants.{Memory, Rotating, Daily, Fan}
use Rattle.alog_config.specs.declared.logger_fields.LoggerFields.{LoggerFields}
use Rattle.alog_config.specs.declared.sink_fields.SinkFields.{SinkFields}
use Rattle.alog_config.specs.declared.top.TopFields.{TopFields}
use Rattle.alog_config.specs.Fields.{file_of}
use Rattle.alog_config.specs.Sinks.{AnyFan, AnyMember, AnyUnknown, IsFile, IsSinkName}
use Rattle.alog_config.specs.Values.{LentTables, tables_in}
use Rattle.alog_sink.specs.Names.{IsFileName}

-- The order in which the rules of one table are looked at.
abbrev pub order : List Rule
order = UnknownKey ∷ BadValue ∷ Missing ∷ NameTaken ∷ NoSuchSink ∷ []

-- The first rule of a list that is broken, or none where each is kept; or the first of any other list of which something holds.
abbrev pub IsFirst : {A : Type 0} → List A → (A → Type 0) → Option A → Type 0
IsFirst [] broken found = found ≡ None
IsFirst (rule ∷ rules) broken found = (broken rule × (found ≡ Some rule)) ⊎ ((¬ broken rule) × IsFirst rules broken found)

-- whether this rule is broken
abbrev pub has : Broken → Rule → Bool
has b UnknownKey = b.unknown_key
has b BadValue = b.bad_value
has b Missing = b.missing
has b NameTaken = b.name_taken
has b NoSuchSink = b.no_such_sink

-- no table is given: the array is missing or empty
abbrev pub LacksTables : Field LentTables → Type 0
LacksTables Absent = Unit {0}
LacksTables Bad = ⊥
LacksTables (Given tables) = tables_in tables ≡ []

-- The rules of the top. No zone stands beside an offset, whatever that is.
abbrev pub HasBadZoneKey : TopFields → Type 0
HasBadZoneKey f = (f.zone ≡ Bad) ⊎ ((¬ (f.zone ≡ Absent)) × (¬ (f.offset ≡ Absent)))

abbrev pub HasBadNumber : TopFields → Type 0
HasBadNumber f = (f.queue ≡ Bad) ⊎ (f.workers ≡ Bad) ⊎ (f.text ≡ Bad) ⊎ (f.process ≡ Bad) ⊎ (f.retry ≡ Bad)

abbrev pub HasBadTopField : TopFields → Type 0
HasBadTopField f = HasBadNumber f ⊎ (f.offset ≡ Bad) ⊎ HasBadZoneKey f ⊎ (f.sinks ≡ Bad) ⊎ (f.loggers ≡ Bad)

abbrev pub TopBreaks : TopFields → Rule → Type 0
TopBreaks f UnknownKey = f.other_key ≡ true
TopBreaks f BadValue = HasBadTopField f
TopBreaks f Missing = LacksTables f.sinks ⊎ LacksTables f.loggers
TopBreaks f NameTaken = ⊥
TopBreaks f NoSuchSink = ⊥

-- The rules of a sink behind the earlier ones.
abbrev pub HasBadSinkField : SinkFields → Type 0
HasBadSinkField f =
    (f.name ≡ Bad) ⊎ (f.kind ≡ Bad) ⊎ (f.level ≡ Bad) ⊎ (f.pattern ≡ Bad) ⊎ (f.file ≡ Bad)
    ⊎ (f.max_size ≡ Bad) ⊎ (f.max_files ≡ Bad) ⊎ (f.hour ≡ Bad) ⊎ (f.minute ≡ Bad) ⊎ (f.of ≡ Bad)

-- a file name that no file can have, or that of an earlier sink's file
abbrev pub IsBadFile : List SinkConfig → Option (List ℕ) → Type 0
IsBadFile earlier None = ⊥
IsBadFile earlier (Some file) = (¬ IsFileName file) ⊎ IsFile earlier file

abbrev pub HasBadFile : List SinkConfig → SinkFields → Type 0
HasBadFile earlier f = IsBadFile earlier (file_of f)

-- a member that is a fan, or in an earlier fan
abbrev pub AreBadMembers : List SinkConfig → Field (List (List ℕ)) → Type 0
AreBadMembers earlier Absent = ⊥
AreBadMembers earlier Bad = ⊥
AreBadMembers earlier (Given names) = AnyFan earlier names ⊎ AnyMember earlier names

abbrev pub HasBadMember : List SinkConfig → SinkFields → Type 0
HasBadMember earlier f = AreBadMembers earlier f.of

-- what each kind must be given
abbrev pub LacksForKind : SinkFields → Field Kind → Type 0
LacksForKind f Absent = Unit {0}
LacksForKind f Bad = ⊥
LacksForKind f (Given Memory) = ⊥
LacksForKind f (Given Rotating) = (f.file ≡ Absent) ⊎ (f.max_size ≡ Absent) ⊎ (f.max_files ≡ Absent)
LacksForKind f (Given Daily) = f.file ≡ Absent
LacksForKind f (Given Fan) = f.of ≡ Absent

abbrev pub LacksSinkKey : SinkFields → Type 0
LacksSinkKey f = (f.name ≡ Absent) ⊎ LacksForKind f f.kind

-- a name that an earlier sink has
abbrev pub IsTakenName : List SinkConfig → Field (List ℕ) → Type 0
IsTakenName earlier Absent = ⊥
IsTakenName earlier Bad = ⊥
IsTakenName earlier (Given name) = IsSinkName earlier name

abbrev pub TakesName : List SinkConfig → SinkFields → Type 0
TakesName earlier f = IsTakenName earlier f.name

-- a name that is no sink's
abbrev pub AreNoSinks : List SinkConfig → Field (List (List ℕ)) → Type 0
AreNoSinks sinks Absent = ⊥
AreNoSinks sinks Bad = ⊥
AreNoSinks sinks (Given names) = AnyUnknown sinks names

abbrev pub NamesNoSink : List SinkConfig → SinkFields → Type 0
NamesNoSink earlier f = AreNoSinks earlier f.of

abbrev pub SinkBreaks : List SinkConfig → SinkFields → Rule → Type 0
SinkBreaks earlier f UnknownKey = f.other_key ≡ true
SinkBreaks earlier f BadValue = HasBadSinkField f ⊎ HasBadFile earlier f ⊎ HasBadMember earlier f
SinkBreaks earlier f Missing = LacksSinkKey f
SinkBreaks earlier f NameTaken = TakesName earlier f
SinkBreaks earlier f NoSuchSink = NamesNoSink earlier f

-- The rules of a logger behind the earlier ones, with all sinks.
abbrev pub HasBadLoggerField : LoggerFields → Type 0
HasBadLoggerField f =
    (f.name ≡ Bad) ⊎ (f.level ≡ Bad) ⊎ (f.policy ≡ Bad) ⊎ (f.sinks ≡ Bad) ⊎ (f.flush_on ≡ Bad) ⊎ (f.backtrace ≡ Bad)

-- a sink that is a member of a fan
abbrev pub AreLentSinks : List SinkConfig → Field (List (List ℕ)) → Type 0
AreLentSinks sinks Absent = ⊥
AreLentSinks sinks Bad = ⊥
AreLentSinks sinks (Given names) = AnyMember sinks names

abbrev pub HasLentSink : List SinkConfig → LoggerFields → Type 0
HasLentSink sinks f = AreLentSinks sinks f.sinks

abbrev pub IsTakenLoggerName : List LoggerConfig → Field (List ℕ) → Type 0
IsTakenLoggerName earlier Absent = ⊥
IsTakenLoggerName earlier Bad = ⊥
IsTakenLoggerName earlier (Given name) = Any (λ (l : LoggerConfig). l.name ≡ name) earlier

abbrev pub TakesLoggerName : List LoggerConfig → LoggerFields → Type 0
TakesLoggerName earlier f = IsTakenLoggerName earlier f.name

abbrev pub LogsToNoSink : List SinkConfig → LoggerFields → Type 0
LogsToNoSink sinks f = AreNoSinks sinks f.sinks

abbrev pub LoggerBreaks : List SinkConfig → List LoggerConfig → LoggerFields → Rule → Type 0
LoggerBreaks sinks earlier f UnknownKey = f.other_key ≡ true
LoggerBreaks sinks earlier f BadValue = HasBadLoggerField f ⊎ HasLentSink sinks f
LoggerBreaks sinks earlier f Missing = (f.name ≡ Absent) ⊎ (f.sinks ≡ Absent)
LoggerBreaks sinks earlier f NameTaken = TakesLoggerName earlier f
LoggerBreaks sinks earlier f NoSuchSink = LogsToNoSink sinks f

-- a field that must be given is not, or has a bad value
abbrev pub LacksOrBadSink : SinkFields → Type 0
LacksOrBadSink f = LacksSinkKey f ⊎ HasBadSinkField f

abbrev pub LacksOrBadLogger : LoggerFields → Type 0
LacksOrBadLogger f = (f.name ≡ Absent) ⊎ (f.sinks ≡ Absent) ⊎ HasBadLoggerField f
