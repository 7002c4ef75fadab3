-- Documents that are no configuration.
use Rattle.std.specs.Prelude.{◌≢◌, ℕ, List, Err}
use Rattle.alog_config.specs.Meaning.{Reads}
use Rattle.alog_config.specs.declared.fault.ConfigFault.{ConfigFault}
use Rattle.alog_config.specs.declared.fault.ConfigFault.TheVariants.{OutOfMemory}

-- the document is refused, and not for want of memory
abbrev pub IsNoConfiguration : List ℕ → Type 0
IsNoConfiguration document = (fault : ConfigFault) × (fault ≢ OutOfMemory) × Reads document (Err fault)
