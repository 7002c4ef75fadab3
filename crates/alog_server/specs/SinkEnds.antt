-- What a run tells of the sinks of a configuration.
use Rattle.std.specs.Prelude.{◌≡◌, ◌⊎◌, ℕ, List, [], ◌∷◌, ◌++◌}
use Rattle.std.specs.List.{Any}
use Rattle.alog_config.specs.Built.{ArePicked, EachIs}
use Rattle.alog_config.specs.Sinks.{HasFile, IsFan, IsMember}
use Rattle.alog_config.specs.declared.config.Config.{Config}
use Rattle.alog_config.specs.declared.config.SinkConfig.{SinkConfig}
use Rattle.alog_config.specs.declared.config.SinkKind.{SinkKind}
use Rattle.alog_config.specs.declared.config.SinkKind.TheVariants.{Lines, Fan}
use Rattle.alog_pool.specs.Places.{Each3}
use Rattle.alog_server.specs.declared.sink_end.SinkEnd.{SinkEnd}

module _ (sinks : List SinkConfig) where
  -- the lines of the sink of this name go to this file
  abbrev pub IsFileOf : List ℕ → List ℕ → Type 0
  IsFileOf name file = Any (λ (s : SinkConfig). (s.name ≡ name) × HasFile file s) sinks

  -- there is a sink of this name that is no fan
  abbrev pub HasLines : List ℕ → Type 0
  HasLines name = Any (λ (s : SinkConfig). (s.name ≡ name) × (¬ IsFan s)) sinks

  -- a member of a fan is no such sink
  abbrev pub LacksLines : SinkKind → Type 0
  LacksLines (Lines file pattern upkeep) = ⊥
  LacksLines (Fan of) = Any (λ name. ¬ HasLines name) of

  -- the files of a sink: its own, or those of the members of a fan, in their order
  abbrev pub AreFilesOf : SinkKind → List (List ℕ) → Type 0
  AreFilesOf (Lines file pattern upkeep) files = files ≡ file ∷ []
  AreFilesOf (Fan of) files = EachIs IsFileOf of files

  -- What is told of a sink but its faults.
  pub record IsEndOf (s : SinkConfig) (e : SinkEnd) : Type 0 where
    pub name : e.name ≡ s.name
    pub files : AreFilesOf s.kind e.files

-- of some sinks of a configuration that has these, each that is no fan's member is told, in their order
abbrev pub TellsEach : List SinkConfig → List SinkConfig → List SinkEnd → Type 0
TellsEach sinks some ends = (tops : List SinkConfig) × ArePicked (λ (s : SinkConfig). ¬ IsMember sinks s.name) some tops
    × EachIs (IsEndOf sinks) tops ends

abbrev pub TellsSinks : Config → List SinkEnd → Type 0
TellsSinks c ends = TellsEach c.sinks.items c.sinks.items ends

-- one sink more is told, unless it is a fan's member
abbrev pub TellsNext : List SinkConfig → SinkConfig → List SinkEnd → List SinkEnd → Type 0
TellsNext sinks s old new = (IsMember sinks s.name × (new ≡ old))
    ⊎ ((¬ IsMember sinks s.name) × (e : SinkEnd) × IsEndOf sinks s e × (new ≡ old ++ e ∷ []))

-- the same is told of a sink, with so many faults
abbrev pub IsWithFaults : SinkEnd → SinkEnd → ℕ → Type 0
IsWithFaults e told faults = told ≡ record { name = e.name; faults = faults; files = e.files }

-- and so of each, with the faults of its place
abbrev pub AreWithFaults : List SinkEnd → List ℕ → List SinkEnd → Type 0
AreWithFaults ends faults told = Each3 IsWithFaults ends told faults
