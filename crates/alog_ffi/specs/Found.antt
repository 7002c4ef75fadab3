-- The files that a host found.
use Rattle.std.specs.Prelude.{List}
use Rattle.std.specs.Arc.{arc_value}
use Rattle.alog_ffi.specs.declared.found_list.Files.{Files}
use Rattle.alog_ffi.specs.declared.found_list.Files.TheVariants.{Own, Shared}
use Rattle.alog_outbox.specs.declared.found.FoundFile.{FoundFile}

-- the list, wherever it is
abbrev pub files_of : Files → List FoundFile
files_of (Own files) = files.items
files_of (Shared files) = (arc_value files).items
