-- The exit status and the number of each fault.
use Rattle.std.specs.Prelude.{ℕ}
use Rattle.alog_load.specs.declared.error.LoadError.{LoadError}
use Rattle.alog_load.specs.declared.error.LoadError.TheVariants as load
use Rattle.alog_replay.specs.declared.error.ReplayError.{ReplayError}
use Rattle.alog_replay.specs.declared.error.ReplayError.TheVariants.{LineRefused, ReadFault, WriteFault, OutOfMemory}

abbrev pub status_of : ReplayError → ℕ
status_of (LineRefused line) = 2
status_of ReadFault = 3
status_of WriteFault = 3
status_of OutOfMemory = 4

abbrev pub number_of : ReplayError → ℕ
number_of (LineRefused line) = 33
number_of ReadFault = 34
number_of WriteFault = 35
number_of OutOfMemory = 1

-- the same of a load
abbrev pub load_status_of : LoadError → ℕ
load_status_of load.BadValue = 1
load_status_of (load.Store sink reason) = 3
load_status_of load.OutOfMemory = 4

abbrev pub load_number_of : LoadError → ℕ
load_number_of load.OutOfMemory = 1
load_number_of load.BadValue = 20
load_number_of (load.Store sink reason) = 22
