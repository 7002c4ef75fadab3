-- Which files the sinks of a configuration have.
use Rattle.std.specs.Prelude.{◌≡◌, ◌≢◌, ◌++◌, ◌<◌, ℕ, List, [], ◌∷◌, drop, length, Ok, Err}
use Rattle.std.specs.List.{flat_map}
use Rattle.alog_config.specs.Meaning.{Reads}
use Rattle.alog_config.specs.declared.config.Config.{Config}
use Rattle.alog_config.specs.declared.config.SinkConfig.{SinkConfig}
use Rattle.alog_config.specs.declared.config.SinkKind.{SinkKind}
use Rattle.alog_config.specs.declared.config.SinkKind.TheVariants.{Lines, Fan}
use Rattle.alog_config.specs.declared.config.Upkeep.{Upkeep}
use Rattle.alog_config.specs.declared.config.Upkeep.TheVariants as upkeeps
use Rattle.alog_config.specs.declared.fault.ConfigFault.{ConfigFault}
use Rattle.alog_config.specs.declared.fault.ConfigFault.TheVariants as config
use Rattle.alog_ffi.specs.declared.answer.Answer.{Answer}
use Rattle.alog_ffi.specs.declared.answer.Answer.TheVariants as answer

-- A file by its name and a zero byte behind it, which no name has; by days there is none before the first line.
abbrev pub kept_by : List ℕ → Upkeep → List ℕ
kept_by file (upkeeps.Daily hour minute max_files) = []
kept_by file upkeep = file ++ 0 ∷ []

-- the file that a sink has from its start; a fan has none of its own
abbrev pub file_by : SinkKind → List ℕ
file_by (Lines file pattern upkeep) = kept_by file upkeep
file_by (Fan of) = []

abbrev pub file_of : SinkConfig → List ℕ
file_of sink = file_by sink.kind

-- the files that the sinks of a configuration have from its start, one behind the other
abbrev pub files_of : Config → List ℕ
files_of c = flat_map file_of c.sinks.items

-- Why no files are told of a document: it is no configuration, the memory has no room for all, or there is no memory.
abbrev pub AreUntold : List ℕ → List ℕ → Answer → Type 0
AreUntold document to answer.BadConfig = (fault : ConfigFault) × Reads document (Err fault) × (fault ≢ config.OutOfMemory)
AreUntold document to answer.TooShort = (c : Config) × Reads document (Ok c) × (length to < length (files_of c))
AreUntold document to answer.NoMemory = Unit {0}
AreUntold document to a = ⊥

-- The files of the configuration that the document says are told at the front of the memory, whose rest is as it was; or none are, which is the answer.
abbrev pub AnswersNames : List ℕ → List ℕ → List ℕ → ℕ → Answer → Type 0
AnswersNames document to into count answer.Done = (c : Config) × Reads document (Ok c) × (count ≡ length (files_of c)) × (into ≡ files_of c ++ drop count to)
AnswersNames document to into count a = (into ≡ to) × (count ≡ 0) × AreUntold document to a
