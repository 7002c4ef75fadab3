-- What a system keeps, seen as its parts.
use Rattle.alog_system.specs.System.{SystemView}
use Rattle.alog_system.specs.Within.{IsWithin}
use Rattle.alog_system.specs.declared.system.System.TheInside.{Inside}

abbrev pub system_in : {S : Type 0} → Inside S → SystemView S
system_in s = record { desk = s.desk; duties = s.duties.items; roster = s.roster; outputs = s.outputs }

abbrev pub IsWithinInside : {S : Type 0} → Inside S → Type 0
IsWithinInside s = IsWithin (system_in s)
