-- The calls of a store: what they do to files, and how they are written down. A list of calls has the latest first.
use Rattle.std.specs.Prelude.{◌≡◌, ℕ, List, [], ◌∷◌, ◌++◌, length, replicate}
use Rattle.std.specs.Int.{w32, to_le_bytes}
use Rattle.std.specs.String.{string_bytes}
use Rattle.alog_outbox.specs.declared.call.Call.{Call}
use Rattle.alog_outbox.specs.declared.call.Kind.{Kind}
use Rattle.alog_outbox.specs.declared.call.Kind.TheVariants.{Append, Rename, Remove, Flush}
use Rattle.alog_outbox.specs.declared.found.FoundFile.{FoundFile}
use Rattle.alog_sink.specs.Files.{Files, appended, no_files, removed, renamed, with_file}

abbrev pub call : Kind → List ℕ → List ℕ → Call
call kind name rest = record { kind = kind; name = name; rest = rest }

-- what a call does to files
abbrev pub done_by : Kind → List ℕ → List ℕ → Files → Files
done_by Append name bytes files = appended name bytes files
done_by Rename name to files = renamed name to files
done_by Remove name _ files = removed name files
done_by Flush _ _ files = files

-- the files after these calls
abbrev pub after : List Call → Files → Files
after [] files = files
after (c ∷ cs) files = done_by c.kind c.name c.rest (after cs files)

-- The files that were found, of which only the size is known: so many zeros. The first of a name counts.
abbrev pub found_in : List FoundFile → Files
found_in [] = no_files
found_in (f ∷ fs) = with_file (string_bytes f.name) (replicate f.size 0) (found_in fs)

abbrev pub number_of : Kind → ℕ
number_of Append = 1
number_of Rename = 2
number_of Remove = 3
number_of Flush = 4

abbrev pub number : ℕ → List ℕ
number n = to_le_bytes w32 n

-- The record of a call: four numbers of four bytes, the lowest first, which are its kind, the length of the name, the length of the rest, and 0; then the
-- name, and then the rest, which is the bytes to append, or the new name, or nothing.
unfoldable pub record_of : Call → List ℕ
record_of c = number (number_of c.kind) ++ number (length c.name) ++ number (length c.rest) ++ number 0 ++ c.name ++ c.rest

-- the records of all calls, the first call's first
abbrev pub encoded : List Call → List ℕ
encoded [] = []
encoded (c ∷ cs) = encoded cs ++ record_of c

-- these bytes are records of calls, whole ones, one behind the other
abbrev pub AreRecords : List ℕ → Type 0
AreRecords bytes = (cs : List Call) × (bytes ≡ encoded cs)
