-- Answers and the reasons of refusals that are passed on.
use Rattle.std.specs.Prelude.{ℕ, List, Option, Result, Ok, Err, Vec}
use Rattle.std.specs.declared.alloc.Global.{Global}
use Rattle.std.specs.declared.alloc.AllocError.{AllocError}
use Rattle.std.specs.declared.io.Error.{Error}
use Rattle.alog_config.specs.Built.{IsStoreFault, IsUnopened}
use Rattle.alog_config.specs.declared.building.BuildError.{BuildError}
use Rattle.alog_config.specs.declared.config.SinkConfig.{SinkConfig}
use Rattle.alog_msg.specs.declared.message.MessageError.{MessageError}
use Rattle.alog_msg.specs.declared.message.MessageError.TheVariants as message
use Rattle.alog_policy.specs.declared.policy.Outcome.{Outcome}
use Rattle.alog_registry.specs.declared.logging.LogReply.{LogReply}
use Rattle.alog_server.specs.declared.error.LogError.{LogError}
use Rattle.alog_server.specs.declared.error.LogError.TheVariants as log
use Rattle.alog_server.specs.declared.error.StartError.{StartError}
use Rattle.alog_server.specs.declared.error.StartError.TheVariants as start

-- the same reason, as a call of a client answers it
abbrev pub told : MessageError → LogError
told message.TextTooLong = log.TextTooLong
told message.FieldTooLong = log.FieldTooLong
told message.OutOfMemory = log.OutOfMemory

-- a store failed when its sink was opened, as a start tells it
abbrev pub IsStoreRefusal : StartError → Type 0
IsStoreRefusal (start.Config fault text) = ⊥
IsStoreRefusal (start.Unwritable text) = ⊥
IsStoreRefusal (start.Store text) = Unit {0}
IsStoreRefusal start.OutOfMemory = ⊥

-- one of these sinks rotates its file by size, and the store that it was to have failed
abbrev pub SomeUnopened : {S : Type 0} → (S → ℕ) → (S → Option Error) → List SinkConfig → List S → Type 0
SomeUnopened failures why sinks stores = (number : ℕ) × (reason : Option Error) × IsUnopened failures why sinks stores number reason

-- why nothing was built, as a start tells it, or that there was no memory to tell it
abbrev pub IsBuildTold : BuildError → StartError → Type 0
IsBuildTold b (start.Config fault text) = ⊥
IsBuildTold b (start.Unwritable text) = ⊥
IsBuildTold b (start.Store text) = IsStoreFault b
IsBuildTold b start.OutOfMemory = Unit {0}

-- the same answer to a log
abbrev pub answer_of : Result LogReply MessageError → Result LogReply LogError
answer_of (Ok reply) = Ok reply
answer_of (Err e) = Err (told e)

-- and to a dump
abbrev pub outcomes_of : Result (Vec (Outcome (Unit {0})) Global) AllocError → Result (Vec (Outcome (Unit {0})) Global) LogError
outcomes_of (Ok outcomes) = Ok outcomes
outcomes_of (Err e) = Err log.OutOfMemory
