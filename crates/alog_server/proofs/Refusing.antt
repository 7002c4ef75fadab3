-- Why a start is refused.
use Rattle.std.proofs.Common.{List, ℕ, Ok, Option}
use Rattle.std.specs.declared.io.Error.{Error}
use Rattle.alog_config.proofs.SharedPicking.{has_any, has_got}
use Rattle.alog_config.specs.Built.{IsFaultOf}
use Rattle.alog_config.specs.Meaning.{Reads}
use Rattle.alog_config.specs.Sinks.{Rotates}
use Rattle.alog_config.specs.declared.building.BuildError.{BuildError}
use Rattle.alog_config.specs.declared.building.BuildError.TheVariants as built
use Rattle.alog_config.specs.declared.config.Config.{Config}
use Rattle.alog_server.specs.Reasons.{IsBuildTold, IsStoreRefusal, SomeUnopened}
use Rattle.alog_server.specs.Starting.{IsOfStores, IsReasonFor}
use Rattle.alog_server.specs.declared.error.StartError.{StartError}
use Rattle.alog_server.specs.declared.error.StartError.TheVariants as start

module _ {S : Type 0} (failures : S → ℕ) (why : S → Option Error) where
  pub of_build : (c : Config) (stores : List S) (b : BuildError) (e : StartError) → IsBuildTold b e
      → IsFaultOf failures why c.sinks.items stores b → IsOfStores c e
  of_build c stores b (start.Config fault text) told is = absurd told
  of_build c stores b (start.Unwritable text) told is = absurd told
  of_build c stores (built.Store sink reason) (start.Store text) told is =
      has_any Rotates c.sinks.items (has_got Rotates c.sinks.items sink is.sink is.at is.rotates)
  of_build c stores built.OutOfMemory (start.Store text) told is = absurd told
  of_build c stores b start.OutOfMemory told is = tt

  pub unopened_told : (c : Config) (stores : List S) (b : BuildError) (e : StartError) → IsBuildTold b e
      → IsFaultOf failures why c.sinks.items stores b → IsStoreRefusal e → SomeUnopened failures why c.sinks.items stores
  unopened_told c stores b (start.Config fault text) told is refused = absurd told
  unopened_told c stores b (start.Unwritable text) told is refused = absurd told
  unopened_told c stores (built.Store sink reason) (start.Store text) told is refused = (sink, reason, is)
  unopened_told c stores built.OutOfMemory (start.Store text) told is refused = absurd told
  unopened_told c stores b start.OutOfMemory told is refused = absurd refused

pub of_stores : (document : List ℕ) (c : Config) → Reads document (Ok c) → (e : StartError) → IsOfStores c e → IsReasonFor document e
of_stores document c reads (start.Config fault text) none = absurd none
of_stores document c reads (start.Unwritable text) none = absurd none
of_stores document c reads (start.Store text) is = (c, reads, is)
of_stores document c reads start.OutOfMemory is = tt
