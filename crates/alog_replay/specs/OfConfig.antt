-- The stage of a configuration: the system that it names, with the names of its sinks, and where the files of each sink are.
use Rattle.std.specs.Prelude.{◌≡◌, ℕ, ◌||◌, not, Bool, Option, None, is_some, option_map, option_and_then, List, map, slice_get}
use Rattle.std.specs.List.{filter, filter_map, list_any, position}
use Rattle.std.specs.Str.{bytes_eq}
use Rattle.alog_config.specs.declared.config.Config.{Config}
use Rattle.alog_config.specs.declared.config.SinkConfig.{SinkConfig}
use Rattle.alog_config.specs.declared.config.SinkKind.{SinkKind}
use Rattle.alog_config.specs.declared.config.SinkKind.TheVariants.{Lines, Fan}
use Rattle.alog_sink.specs.Files.{Files}
use Rattle.alog_system.specs.Named.{IsSystemOf}
use Rattle.alog_replay.specs.Configured.{Stage}
use Rattle.alog_replay.specs.declared.places.Place.{Place}

-- the number of a name among a fan's members
abbrev pub member_in : List ℕ → SinkKind → Option ℕ
member_in name (Lines file pattern upkeep) = None
member_in name (Fan of) = position (λ n. bytes_eq n name) of

-- a fan has a member of this name
abbrev pub is_member : List SinkConfig → List ℕ → Bool
is_member sinks name = list_any (λ (s : SinkConfig). is_some (member_in name s.kind)) sinks

-- the sinks of the system, by number: those that are no fan's member
abbrev pub tops_of : Config → List SinkConfig
tops_of c = filter (λ (s : SinkConfig). not (is_member c.sinks.items s.name)) c.sinks.items

abbrev pub names_of : Config → List (List ℕ)
names_of c = map (λ (s : SinkConfig). s.name) (tops_of c)

-- a sink has this name, or is a fan with a member of this name
abbrev pub holds : List ℕ → SinkConfig → Bool
holds name s = bytes_eq s.name name || is_some (member_in name s.kind)

-- in the sink of this number, and there, if it is a fan, by the number among its members
abbrev pub place_at : List SinkConfig → List ℕ → ℕ → Place
place_at tops name n = record {
  name = name;
  sink = n;
  member = option_and_then (λ (s : SinkConfig). member_in name s.kind) (slice_get tops n);
}

-- where a sink's files are; a fan has none
abbrev pub place_in : List SinkConfig → List ℕ → SinkKind → Option Place
place_in tops name (Lines file pattern upkeep) = option_map (place_at tops name) (position (holds name) tops)
place_in tops name (Fan of) = None

abbrev pub place_of : List SinkConfig → SinkConfig → Option Place
place_of tops s = place_in tops s.name s.kind

abbrev pub places_of : Config → List Place
places_of c = filter_map (place_of (tops_of c)) c.sinks.items

module _ {S : Type 0} (tells : Bool) (files : S → Files) (failures : S → ℕ) where
  -- A stage is that of a configuration: its system is one that the configuration names, the names are those of that system's sinks,
  -- and the places are where the files of its sinks are.
  pub record IsStageOf (c : Config) (s : Stage S) : Type 0 where
    pub system : IsSystemOf tells files failures c s.system
    pub names : s.names ≡ names_of c
    pub places : s.places ≡ places_of c

  -- this holds on a stage of the configuration
  abbrev pub OnStage : Config → (Stage S → Type 0) → Type 0
  OnStage c P = (s : Stage S) × IsStageOf c s × P s
