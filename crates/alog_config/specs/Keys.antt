-- Which keys a table may have.
use Rattle.std.specs.Prelude.{◌≡◌, ◌⊎◌, ℕ, List, [], ◌∷◌, codes, Option, Some, None}
use Rattle.alog_config.specs.declared.keys.Kind.{Kind}
use Rattle.alog_config.specs.declared.keys.Kind.TheVariants.{Memory, Rotating, Daily, Fan}
use Rattle.alog_config.specs.declared.keys.Owner.{Owner}
use Rattle.alog_config.specs.declared.keys.Owner.TheVariants.{Top, Sink, Logger}
use Rattle.toml.specs.Data.{Members, no_members, member}

abbrev pub top_keys : List (List ℕ)
top_keys =
    codes "queue" ∷ codes "workers" ∷ codes "text" ∷ codes "offset" ∷ codes "zone" ∷ codes "process"
    ∷ codes "retry" ∷ codes "sink" ∷ codes "logger" ∷ []

abbrev pub logger_keys : List (List ℕ)
logger_keys = codes "name" ∷ codes "level" ∷ codes "policy" ∷ codes "sinks" ∷ codes "flush_on" ∷ codes "backtrace" ∷ []

-- the keys of a sink of this kind; where the kind is not told, of any
abbrev pub sink_keys : Option Kind → List (List ℕ)
sink_keys (Some Memory) = codes "name" ∷ codes "kind" ∷ codes "level" ∷ codes "pattern" ∷ codes "file" ∷ []
sink_keys (Some Rotating) =
    codes "name" ∷ codes "kind" ∷ codes "level" ∷ codes "pattern" ∷ codes "file" ∷ codes "max_size" ∷ codes "max_files" ∷ []
sink_keys (Some Daily) =
    codes "name" ∷ codes "kind" ∷ codes "level" ∷ codes "pattern" ∷ codes "file"
    ∷ codes "hour" ∷ codes "minute" ∷ codes "max_files" ∷ []
sink_keys (Some Fan) = codes "name" ∷ codes "kind" ∷ codes "level" ∷ codes "of" ∷ []
sink_keys None =
    codes "name" ∷ codes "kind" ∷ codes "level" ∷ codes "pattern" ∷ codes "file"
    ∷ codes "max_size" ∷ codes "max_files" ∷ codes "hour" ∷ codes "minute" ∷ codes "of" ∷ []

abbrev pub keys_of : Owner → List (List ℕ)
keys_of Top = top_keys
keys_of (Sink kind) = sink_keys kind
keys_of Logger = logger_keys

-- a key is one of these
abbrev pub IsOneOf : List (List ℕ) → List ℕ → Type 0
IsOneOf [] key = ⊥
IsOneOf (k ∷ ks) key = (key ≡ k) ⊎ IsOneOf ks key

-- a table has a key that is not one of its owner's
abbrev pub HasOtherKey : Owner → Members → Type 0
HasOtherKey owner no_members = ⊥
HasOtherKey owner (member key d rest) = (¬ IsOneOf (keys_of owner) key) ⊎ HasOtherKey owner rest
