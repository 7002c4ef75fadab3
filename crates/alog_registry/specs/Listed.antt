-- Loggers by number and by name: a list of names and specs, and a list of levels.
use Rattle.std.specs.Prelude.{◌≡◌, ◌<◌, ◌≤◌, ℕ, List, [], ◌∷◌, ◌++◌, length, Option, Some, slice_get, slice_set, Result, Ok, Err}
use Rattle.std.specs.Option.{option_map}
use Rattle.alog_msg.specs.declared.limits.TheConstants.{LOGGER_NAME_MAX}
use Rattle.alog_msg.specs.declared.level.Level.{Level}
use Rattle.alog_registry.specs.declared.TheConstants.{LOGGERS_MAX, KEPT_MAX}
use Rattle.alog_registry.specs.declared.logger.Logger.{Logger}
use Rattle.alog_registry.specs.declared.logger.Spec.{Spec}
use Rattle.alog_registry.specs.declared.error.AddError.{AddError}
use Rattle.alog_registry.specs.declared.error.RefusedSpec.{RefusedSpec}

-- the name, and the spec, of the logger of this number
abbrev pub name_at : List Logger → ℕ → Option (List ℕ)
name_at loggers n = option_map (λ (l : Logger). l.name) (slice_get loggers n)

abbrev pub spec_at : List Logger → ℕ → Option Spec
spec_at loggers n = option_map (λ (l : Logger). l.spec) (slice_get loggers n)

-- a logger has this name
abbrev pub IsTaken : List Logger → List ℕ → Type 0
IsTaken loggers name = (n : ℕ) × (name_at loggers n ≡ Some name)

-- no two loggers have one name
abbrev pub AreApart : List Logger → Type 0
AreApart loggers = (m n : ℕ) (name : List ℕ) → name_at loggers m ≡ Some name → name_at loggers n ≡ Some name → m ≡ n

-- a logger of this name, with a backtrace of so many, may be added
pub record MayBeAdded (loggers : List Logger) (name : List ℕ) (backtrace : ℕ) : Type 0 where
  pub short : length name ≤ LOGGER_NAME_MAX
  pub free : ¬ IsTaken loggers name
  pub room : length loggers < LOGGERS_MAX
  pub few : backtrace ≤ KEPT_MAX

-- What callers see of a registry: its loggers and their levels, by number.
pub record RegistryView : Type 0 where
  pub loggers : List Logger
  pub levels : List Level

abbrev pub no_loggers : RegistryView
no_loggers = record { loggers = []; levels = [] }

-- the registry with one logger more
abbrev pub added : RegistryView → List ℕ → Spec → RegistryView
added r name spec = record { loggers = r.loggers ++ record { name = name; spec = spec } ∷ []; levels = r.levels ++ spec.level ∷ [] }

-- the registry with another level of the logger of this number, if there is one
abbrev pub with_level : RegistryView → ℕ → Level → RegistryView
with_level r n level = record { loggers = r.loggers; levels = slice_set r.levels n level }

-- a logger was not added, for this reason
abbrev pub IsRefused : Result ℕ RefusedSpec → AddError → Type 0
IsRefused (Ok n) fault = ⊥
IsRefused (Err r) fault = r.fault ≡ fault

-- what is true of the loggers and so many levels
pub record IsShared (loggers : List Logger) (levels : ℕ) : Type 0 where
  pub each : levels ≡ length loggers
  pub few : length loggers ≤ LOGGERS_MAX
  pub apart : AreApart loggers

abbrev pub IsListing : List Logger → List Level → Type 0
IsListing loggers levels = IsShared loggers (length levels)
