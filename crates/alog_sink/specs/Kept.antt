-- What each kind of target makes of the lines that it was given.
use Rattle.std.specs.Prelude.{◌≡◌, List, [], ◌∷◌}
use Rattle.alog_sink.specs.Deeds.{Deed, Append}
use Rattle.alog_sink.specs.DailyFiles.{StandsFor as DaysStandFor, entry_of, deeds_of as days_deeds}
use Rattle.alog_sink.specs.Files.{Files, AreSame}
use Rattle.alog_sink.specs.OneFile.{one_file}
use Rattle.alog_sink.specs.Lines.{Written, lines_of}
use Rattle.alog_sink.specs.RotationDeeds.{StandsFor, deeds_of as rotation_deeds}
use Rattle.alog_sink.specs.declared.target.Target.{Target}
use Rattle.alog_sink.specs.declared.target.Target.TheVariants.{Memory, Rotating, Daily}

-- these are the files after these lines, where those were the files at the start
abbrev pub IsKept : Target → Files → List Written → Files → Type 0
IsKept (Memory j) opening ws files = AreSame (one_file j.file opening (lines_of ws)) files
IsKept (Rotating r) opening ws files = StandsFor r opening (lines_of ws) files
IsKept (Daily d) opening ws files = DaysStandFor d opening ws files

-- what a line does to the files
abbrev pub deeds_of : Target → Written → List Deed
deeds_of (Memory j) w = Append j.file w.line ∷ []
deeds_of (Rotating r) w = rotation_deeds r w.line
deeds_of (Daily d) w = days_deeds d (entry_of d.limits w)

-- the same files at the same limits, however far they have come
abbrev pub IsSameTarget : Target → Target → Type 0
IsSameTarget (Memory j) (Memory k) = k ≡ j
IsSameTarget (Rotating r) (Rotating s) = s.limits ≡ r.limits
IsSameTarget (Daily d) (Daily e) = e.limits ≡ d.limits
IsSameTarget _ _ = ⊥

-- there is no file yet that lines go to
abbrev pub HasNoFile : Target → Type 0
HasNoFile (Daily d) = d.names ≡ []
HasNoFile _ = ⊥
