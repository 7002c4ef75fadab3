-- What a handle holds.
use Rattle.std.specs.Prelude.{◌≡◌, ◌↔◌, ℕ, List, Option, Some, None}
use Rattle.alog_ffi.specs.declared.part.Part.{Part}
use Rattle.alog_ffi.specs.declared.part.Part.TheVariants.{Nothing, Pool, Producer, Worker, Found, Files}
use Rattle.alog_registry.specs.declared.logger.Logger.{Logger}

-- the kind of a handle that holds this
abbrev pub kind_of : Part → ℕ
kind_of Nothing = 0
kind_of (Pool p) = 1
kind_of (Producer p) = 2
kind_of (Worker w) = 3
kind_of (Found f) = 4
kind_of (Files d) = 5

-- what lies at its pointer, where it is one
abbrev pub part_in : Option Part → Part
part_in None = Nothing
part_in (Some p) = p

-- Its kind is that of what it holds, and where that is nothing it is no pointer.
pub record IsHandle (kind : ℕ) (at : Option Part) : Type 0 where
  pub kind_is : kind ≡ kind_of (part_in at)
  pub full : (kind ≡ 0) ↔ (at ≡ None)

-- the loggers of a pool, or of a producer's pool
abbrev pub loggers_of : Part → Option (List Logger)
loggers_of (Pool p) = Some p.host.hosted.shared.loggers
loggers_of (Producer p) = Some p.hosted.shared.loggers
loggers_of other = None
