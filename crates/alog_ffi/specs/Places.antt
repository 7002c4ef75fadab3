-- How many places the queue of a configuration has.
use Rattle.std.specs.Prelude.{◌≡◌, ◌≢◌, ℕ, List, Ok, Err}
use Rattle.alog_config.specs.Meaning.{Reads}
use Rattle.alog_config.specs.declared.config.Config.{Config}
use Rattle.alog_config.specs.declared.fault.ConfigFault.{ConfigFault}
use Rattle.alog_config.specs.declared.fault.ConfigFault.TheVariants as config
use Rattle.alog_ffi.specs.declared.answer.Answer.{Answer}
use Rattle.alog_ffi.specs.declared.answer.Answer.TheVariants as answer

-- Why no places are told of a document: it is no configuration, or there is no memory.
abbrev pub IsUnsized : List ℕ → Answer → Type 0
IsUnsized document answer.BadConfig = (fault : ConfigFault) × Reads document (Err fault) × (fault ≢ config.OutOfMemory)
IsUnsized document answer.NoMemory = Unit {0}
IsUnsized document a = ⊥

-- The places of the queue that the configuration has which the document says; or none, and why.
abbrev pub AnswersPlaces : List ℕ → ℕ → Answer → Type 0
AnswersPlaces document places answer.Done = (c : Config) × Reads document (Ok c) × (places ≡ c.queue)
AnswersPlaces document places a = (places ≡ 0) × IsUnsized document a
